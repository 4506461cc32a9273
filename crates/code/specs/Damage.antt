-- What becomes of a code that is cut short or goes on. Assumes nothing.
use Rattle.std.specs.Prelude.{◌≡◌, ℕ, List, ◌∷◌, ◌++◌, length, ◌≢◌}
use Rattle.node.specs.declared.faults.Fault.{Fault}
use Rattle.node.specs.declared.faults.Fault.TheVariants.{Missing, Leftover}
use Rattle.node.specs.Faults.{number_of}
use Rattle.term.specs.Terms.{Term, code, Recipe}
use Rattle.code.specs.Scans.{handed_over}
use Rattle.code.specs.Verdicts.{verdict, refused}

-- Bytes behind a fault change nothing: unless a byte is missing, a refused code that goes on is refused for the same fault,
-- and the same nodes are handed over.
abbrev pub FirstFault : List ℕ → Type 0
FirstFault bs =
    (f : Fault) → verdict bs ≡ refused f → (number_of f ≢ 1) → (more : List ℕ) → (verdict (bs ++ more) ≡ refused f) × (handed_over (bs ++ more) ≡ handed_over bs)

-- the code of a recipe that is cut short anywhere lacks a byte, where it ends
abbrev pub CutShort : Type 0
CutShort = (t : Term) → Recipe t → (bs : List ℕ) (b : ℕ) (more : List ℕ) → code t ≡ bs ++ b ∷ more → verdict bs ≡ refused (Missing (length bs))

-- the code of a recipe that goes on has bytes left over, from where it should end
abbrev pub LeftOver : Type 0
LeftOver = (t : Term) → Recipe t → (b : ℕ) (more : List ℕ) → verdict (code t ++ b ∷ more) ≡ refused (Leftover (length (code t)))
