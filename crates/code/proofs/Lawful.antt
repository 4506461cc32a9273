-- The law of the reading. Assumes nothing.
use Rattle.std.proofs.Common.{ℕ, List}
use Rattle.code.specs.Verdicts.{Bytes}
use Rattle.code.specs.Law.{ReadingLaw}
use Rattle.code.proofs.Exact as exact
use Rattle.code.proofs.Damaged as damaged

pub reading_law : (bs : List ℕ) → Bytes bs → ReadingLaw bs
reading_law bs b =
    record {
      accepts_exactly = exact.accepts_exactly bs b;
      round_trip = exact.round_trip;
      laid_out = exact.laid_out bs b;
      first_fault = damaged.first_fault bs;
      cut_short = damaged.cut_short;
      left_over = damaged.left_over;
    }
