use Rattle.term.proofs.Reduces as laws
use Rattle.term.proofs.normal_or_steps.Goals as goal

pub returns : goal.returns
returns c = laws.normal_or_steps
