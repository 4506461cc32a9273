use Rattle.limits.proofs.Roomy as laws
use Rattle.limits.proofs.enough_places.Goals as goal

pub returns : goal.returns
returns c = laws.enough_places
