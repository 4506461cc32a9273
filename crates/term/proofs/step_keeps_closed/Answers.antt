use Rattle.term.proofs.Reduces as laws
use Rattle.term.proofs.step_keeps_closed.Goals as goal

pub returns : goal.returns
returns c = laws.step_keeps_closed
