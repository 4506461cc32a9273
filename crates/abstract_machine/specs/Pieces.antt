-- Pieces of code whose filled places name what fills them. Assumes nothing.
use Rattle.std.specs.Prelude.{ℕ, suc, ◌+◌, ◌-◌, max, if◌then◌else◌, List, [], ◌∷◌, length, ◌==◌}
use Rattle.term.specs.Terms as term
use Rattle.term.specs.Terms.{Term}

-- A piece is a term in which a place may be filled. A filled place names the β transition whose argument it stands for;
-- those are numbered from 0.
pub data Piece : Type 0 where
  place : ℕ → Piece
  ingredient : ℕ → Piece
  function : Piece → Piece
  application : Piece → Piece → Piece
  filled : ℕ → Piece

-- a term, as a piece with no place filled
abbrev pub unfilled : Term → Piece
unfilled (term.place k) = place k
unfilled (term.ingredient i) = ingredient i
unfilled (term.function t) = function (unfilled t)
unfilled (term.application t u) = application (unfilled t) (unfilled u)

-- the number of nodes
abbrev pub weight : Piece → ℕ
weight (place k) = 1
weight (ingredient i) = 1
weight (function p) = suc (weight p)
weight (application p q) = suc (weight p + weight q)
weight (filled j) = 1

-- one more than the latest β transition that the piece names, 0 if it names none
abbrev pub reach : Piece → ℕ
reach (place k) = 0
reach (ingredient i) = 0
reach (function p) = reach p
reach (application p q) = max (reach p) (reach q)
reach (filled j) = suc j

-- how many functions around the piece its unfilled places need
abbrev pub outer : Piece → ℕ
outer (place k) = suc k
outer (ingredient i) = 0
outer (function p) = outer p - 1
outer (application p q) = max (outer p) (outer q)
outer (filled j) = 0

-- the places of index i, counted from outside the piece, are filled by the β transition j
abbrev pub opened : ℕ → ℕ → Piece → Piece
opened i j (place k) = if k == i then filled j else place k
opened i j (ingredient n) = ingredient n
opened i j (function p) = function (opened (suc i) j p)
opened i j (application p q) = application (opened i j p) (opened i j q)
opened i j (filled n) = filled n

-- the element that has j others behind it: what was put in front number j, from 0; d if there is none
abbrev pub numbered : {X : Type 0} → X → List X → ℕ → X
numbered d [] j = d
numbered d (x ∷ xs) j = if j == length xs then x else numbered d xs j

-- a piece as a term, with a term for each β transition that it may name, the latest first
abbrev pub plugged : List Term → Piece → Term
plugged ts (place k) = term.place k
plugged ts (ingredient i) = term.ingredient i
plugged ts (function p) = term.function (plugged ts p)
plugged ts (application p q) = term.application (plugged ts p) (plugged ts q)
plugged ts (filled j) = numbered (term.ingredient 0) ts j
