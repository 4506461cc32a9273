use Rattle.std.proofs.Common.{◌-◌}
use Rattle.reading.proofs.Loops.{Underway}
use Rattle.reading.proofs.reads.read.Given as goal

abbrev pub invariant-loop-nearest : goal.invariant-loop-nearest
invariant-loop-nearest g l =
    Underway g.R.Receiver.more l.code (g.R.Receiver.held l.initial.receiver) l.number l.nearest l.frontier l.rest (g.R.Receiver.held l.receiver)

abbrev pub decreases-loop-nearest : goal.decreases-loop-nearest
decreases-loop-nearest g l = 4096 - l.number
