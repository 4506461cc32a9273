use Rattle.limits.proofs.Limited as laws
use Rattle.limits.proofs.limits_of_runs.Goals as goal

pub returns : goal.returns
returns c = laws.limits_of_runs
