use Rattle.std.proofs.Common.{◌≡◌, ◌+◌, ◌*◌, ◌≤◌, length}
use Rattle.writer.specs.Pending.{waiting}
use Rattle.writer.specs.Sheets.{blank}
use Rattle.writer.proofs.Walking.{to_come, Underway}
use Rattle.writer.proofs.writes.walk.Given as goal

-- the sheet is over the output that was lent, and there is a place for each position that waits and for each byte that can be put
abbrev pub invariant-loop-next : goal.invariant-loop-next
invariant-loop-next g l =
    (l.sheet.output.ghost_name ≡ l.initial.sheet.output.ghost_name)
    × (length (waiting l.pending).positions + length (blank l.sheet) ≤ (waiting l.pending).places)
    × Underway (g.U.Unfolding.term l.terms) l.root l.fn.output l.sheet (to_come l.next (waiting l.pending).positions)

-- a byte counts for two, since a position that comes in the place of another may be two
abbrev pub decreases-loop-next : goal.decreases-loop-next
decreases-loop-next g l = length (to_come l.next (waiting l.pending).positions) + 2 * length (blank l.sheet)
