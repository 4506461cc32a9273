-- Lists of slots and of the terms that fill them. Assumes nothing.
use Rattle.std.proofs.Common.{ℕ, ◌+◌, ◌-◌, ◌<◌, ◌≤◌, List, [], ◌∷◌, ◌++◌, length, arith}
use Rattle.node.specs.declared.nodes.Located.{Located}
use Rattle.term.specs.Terms.{Term, place, ingredient, function, application, size, nesting, Covered, Stocked, most_nested}
use Rattle.code.specs.Scans.{Slot}
use Rattle.code.specs.Layouts.{layout}

pub size_some : (t : Term) → 0 < size t
size_some (place k) = omega arith
size_some (ingredient i) = omega arith
size_some (function t) = omega arith
size_some (application t u) = omega arith

-- t may stand under d functions
pub record Fit (d : ℕ) (t : Term) : Type 0 where
  pub covered : Covered d t
  pub shallow : nesting t ≤ most_nested - d
  pub stocked : Stocked t

-- a term for each slot, which may stand there
abbrev pub Fits : List Slot → List Term → Type 0
Fits [] [] = Unit {0}
Fits [] (t ∷ ts) = ⊥
Fits (s ∷ ss) [] = ⊥
Fits (s ∷ ss) (t ∷ ts) = Fit (length s.around) t × Fits ss ts

abbrev pub sizes : List Term → ℕ
sizes [] = 0
sizes (t ∷ ts) = size t + sizes ts

-- the terms laid out one after the other, from node number n on
abbrev pub layouts : ℕ → List Slot → List Term → List Located
layouts n [] ts = []
layouts n (s ∷ ss) [] = []
layouts n (s ∷ ss) (t ∷ ts) = layout n s t ++ layouts (n + size t) ss ts
