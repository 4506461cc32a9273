use Rattle.term.proofs.Reduces as laws
use Rattle.term.proofs.takes_in_turn.Goals as goal

pub returns : goal.returns
returns c = laws.takes_in_turn
