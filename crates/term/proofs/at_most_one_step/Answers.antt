use Rattle.term.proofs.Reduces as laws
use Rattle.term.proofs.at_most_one_step.Goals as goal

pub returns : goal.returns
returns c = laws.at_most_one_step
