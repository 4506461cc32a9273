use Rattle.term.proofs.Reduces as laws
use Rattle.term.proofs.fills_its_place.Goals as goal

pub returns : goal.returns
returns c = laws.fills_its_place
