use Rattle.std.proofs.Common.{arith}
use Rattle.reading.proofs.Stacks.{length_around, getD_around}
use Rattle.reading.proofs.frontier.Frontier.locate.Goals as goal

pub returns-in-Place : goal.returns-in-Place
returns-in-Place c = grind (arith, length_around, getD_around)

pub returns-in_default : goal.returns-in_default
returns-in_default c = grind (arith, length_around)
