use Rattle.limits.proofs.Triangular as laws
use Rattle.limits.proofs.triangles.Goals as goal

pub returns : goal.returns
returns c = laws.triangles
