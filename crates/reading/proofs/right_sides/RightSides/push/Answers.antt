use Rattle.std.proofs.Common.{arith}
use Rattle.reading.proofs.RightSides.{rows_pushed}
use Rattle.reading.proofs.right_sides.RightSides.push.Goals as goal

pub returns-clause-rows : goal.returns-clause-rows
returns-clause-rows c = rows_pushed _ _ _ _ _ (omega arith) (omega arith)
