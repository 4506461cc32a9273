-- What is promised of the reading of a code. Assumes nothing.
use Rattle.std.specs.Prelude.{ℕ, List}
use Rattle.code.specs.Verdicts.{AcceptsExactly, RoundTrip}
use Rattle.code.specs.Layouts.{LaidOut}
use Rattle.code.specs.Damage.{FirstFault, CutShort, LeftOver}

pub record ReadingLaw (bs : List ℕ) : Type 0 where
  pub accepts_exactly : AcceptsExactly bs
  pub round_trip : RoundTrip
  pub laid_out : LaidOut bs
  pub first_fault : FirstFault bs
  pub cut_short : CutShort
  pub left_over : LeftOver
