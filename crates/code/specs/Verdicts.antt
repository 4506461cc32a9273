-- The verdict of a reading, and the promises on it. Assumes nothing.
use Rattle.std.specs.Prelude.{◌≡◌, ℕ, ◌<◌, ◌↔◌, List, [], ◌∷◌, Ok, Err, Result, slice_index}
use Rattle.node.specs.declared.nodes.Node.{Node}
use Rattle.node.specs.declared.nodes.Node.TheVariants.{Application, Function, Place, Ingredient}
use Rattle.node.specs.declared.nodes.Located.{Located}
use Rattle.node.specs.declared.faults.Fault.{Fault}
use Rattle.term.specs.Terms.{Term, place, ingredient, function, application, size, code, Recipe}
use Rattle.code.specs.Scans.{Scan, reading}

-- a code is accepted with its term, or refused for its first fault
pub data Verdict : Type 0 where
  accepted : Term → Verdict
  refused : Fault → Verdict

-- a node joined to its parts, which are the first of the terms behind it; a list too short does not come
abbrev pub joined_to : Node → List Term → List Term
joined_to Application (t ∷ u ∷ ts) = application t u ∷ ts
joined_to Application (t ∷ []) = []
joined_to Application [] = []
joined_to Function (t ∷ ts) = function t ∷ ts
joined_to Function [] = []
joined_to (Place k) ts = place k ∷ ts
joined_to (Ingredient i) ts = ingredient i ∷ ts

-- the terms that nodes make up, in the order of the code
abbrev pub terms : List Located → List Term
terms [] = []
terms (l ∷ ls) = joined_to l.node (terms ls)

-- the first of them; an accepted code has just one
abbrev pub first : List Term → Term
first [] = ingredient 0
first (t ∷ ts) = t

abbrev pub judgement : Scan → Verdict
judgement z = elim z.ended [ Ok n ↦ accepted (first (terms z.handed)) | Err f ↦ refused f ]

unfoldable pub verdict : List ℕ → Verdict
verdict bs = judgement (reading bs)

-- the answer of a reading: the size of the term, or the fault
abbrev pub told : Verdict → Result ℕ Fault
told (accepted t) = Ok (size t)
told (refused f) = Err f

-- a byte string is accepted as t just if it is the code of t, and t is a recipe
abbrev pub AcceptsExactly : List ℕ → Type 0
AcceptsExactly bs = (t : Term) → (verdict bs ≡ accepted t) ↔ ((bs ≡ code t) × Recipe t)

-- each number is a byte
abbrev pub Bytes : List ℕ → Type 0
Bytes bs = (k : ℕ) → slice_index bs k < 256

-- the code of a recipe is a byte string, and reads back as that recipe
abbrev pub RoundTrip : Type 0
RoundTrip = (t : Term) → Recipe t → Bytes (code t) × (verdict (code t) ≡ accepted t)
