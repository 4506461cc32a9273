-- What a look at a position shows. Assumes nothing.
use Rattle.std.specs.Prelude.{◌≡◌, ℕ, ◌/◌, ◌%◌, List, [], ◌∷◌, Some, None, Option, option_and_then}
use Rattle.std.specs.Option.{option_map}
use Rattle.term.specs.Terms.{Term, place, ingredient, function, application}
use Rattle.writer.specs.declared.heads.Head.{Head}
use Rattle.writer.specs.declared.heads.Head.TheVariants.{Application, Function, Place, Ingredient}

abbrev pub both : {A B C : Type 0} → (A → B → C) → Option A → Option B → Option C
both f None y = None
both f (Some a) None = None
both f (Some a) (Some b) = Some (f a b)

-- the term that a head makes, given the terms at positions; none where a part names nothing
abbrev pub headed : (ℕ → Option Term) → Head → Option Term
headed at (Application l r) = both application (at l) (at r)
headed at (Function b) = option_map function (at b)
headed at (Place k) = Some (place k)
headed at (Ingredient i) = Some (ingredient i)

-- the bytes of a head itself, before the codes of its parts
abbrev pub own : Head → List ℕ
own (Application l r) = 1 ∷ []
own (Function b) = 2 ∷ []
own (Place k) = 3 ∷ k ∷ []
own (Ingredient i) = 4 ∷ i / 256 ∷ i % 256 ∷ []

-- a look at position p shows r: the head of the term there, or that there is none
abbrev pub Looks : (ℕ → Option Term) → ℕ → Option Head → Type 0
Looks at p r = at p ≡ option_and_then (headed at) r
