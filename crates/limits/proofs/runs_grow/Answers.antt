use Rattle.limits.proofs.Runs as laws
use Rattle.limits.proofs.runs_grow.Goals as goal

pub returns : goal.returns
returns c = laws.runs_grow
