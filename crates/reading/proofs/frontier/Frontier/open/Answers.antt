use Rattle.std.proofs.Common.{arith}
use Rattle.reading.proofs.Stacks.{around_body, stacked_set, falling_weaker}
use Rattle.reading.proofs.frontier.Frontier.open.Goals as goal

pub returns-in-Function : goal.returns-in-Function
returns-in-Function c =
    grind (arith, around_body, stacked_set, falling_weaker)
