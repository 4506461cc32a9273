-- Terms of the lambda calculus with numbered places, and their codes. Assumes nothing.
use Rattle.std.specs.Prelude.{ℕ, suc, ◌+◌, ◌/◌, ◌%◌, ◌<◌, ◌≤◌, max, if◌then◌else◌, List, [], ◌∷◌, ◌++◌, ◌==◌}

-- A place is a bound variable by its de Bruijn index: a place of index k belongs to the function k further out than the nearest.
-- An ingredient is a free variable. Functions and applications are the abstractions and applications of the calculus.
pub data Term : Type 0 where
  place : ℕ → Term
  ingredient : ℕ → Term
  function : Term → Term
  application : Term → Term → Term

-- the number of nodes
abbrev pub size : Term → ℕ
size (place k) = 1
size (ingredient i) = 1
size (function t) = suc (size t)
size (application t u) = suc (size t + size u)

-- how deep functions nest
abbrev pub nesting : Term → ℕ
nesting (place k) = 0
nesting (ingredient i) = 0
nesting (function t) = suc (nesting t)
nesting (application t u) = max (nesting t) (nesting u)

-- each place of t belongs to a function of t, or to one of d functions around t
abbrev pub Covered : ℕ → Term → Type 0
Covered d (place k) = k < d
Covered d (ingredient i) = Unit {0}
Covered d (function t) = Covered (suc d) t
Covered d (application t u) = Covered d t × Covered d u

abbrev pub Closed : Term → Type 0
Closed t = Covered 0 t

-- the limits of a recipe: its nodes, its functions nested, its ingredients' numbers
abbrev pub most_nodes : ℕ
most_nodes = 4096

abbrev pub most_nested : ℕ
most_nested = 128

abbrev pub last_ingredient : ℕ
last_ingredient = 4095

-- each ingredient has a number that a recipe may use
abbrev pub Stocked : Term → Type 0
Stocked (place k) = Unit {0}
Stocked (ingredient i) = i ≤ last_ingredient
Stocked (function t) = Stocked t
Stocked (application t u) = Stocked t × Stocked u

-- closed, and within the limits
pub record Recipe (t : Term) : Type 0 where
  pub closed : Closed t
  pub small : size t ≤ most_nodes
  pub shallow : nesting t ≤ most_nested
  pub stocked : Stocked t

-- the bytes that spell a term: a tag, then the node's own number if it has one, then its parts
abbrev pub code : Term → List ℕ
code (application t u) = 1 ∷ code t ++ code u
code (function t) = 2 ∷ code t
code (place k) = 3 ∷ k ∷ []
code (ingredient i) = 4 ∷ i / 256 ∷ i % 256 ∷ []

-- how often the ingredient i occurs, inside functions as well
abbrev pub occurrences : ℕ → Term → ℕ
occurrences i (place k) = 0
occurrences i (ingredient j) = if j == i then 1 else 0
occurrences i (function t) = occurrences i t
occurrences i (application t u) = occurrences i t + occurrences i u

-- t with u put in the places of index i, counted from outside t; where u is closed, no index of it needs to shift
abbrev pub fill : ℕ → Term → Term → Term
fill i u (place k) = if k == i then u else place k
fill i u (ingredient j) = ingredient j
fill i u (function t) = function (fill (suc i) u t)
fill i u (application t v) = application (fill i u t) (fill i u v)
