-- The nodes of a term in the order of its code. Assumes nothing.
use Rattle.std.specs.Prelude.{◌≡◌, ℕ, suc, ◌+◌, List, [], ◌∷◌, ◌++◌}
use Rattle.node.specs.declared.nodes.Node.TheVariants.{Application, Function, Place, Ingredient}
use Rattle.node.specs.declared.nodes.Located.{Located}
use Rattle.term.specs.Terms.{Term, place, ingredient, function, application, size}
use Rattle.code.specs.Scans.{Slot, root, left_of, right_of, body_of, located, handed_over}
use Rattle.code.specs.Verdicts.{verdict, accepted}

-- t from node number n on, in a slot
abbrev pub layout : ℕ → Slot → Term → List Located
layout n s (place k) = located n s (Place k) ∷ []
layout n s (ingredient i) = located n s (Ingredient i) ∷ []
layout n s (function t) = located n s Function ∷ layout (suc n) (body_of n s) t
layout n s (application t u) =
    located n s Application ∷
    layout (suc n) (left_of n s) t ++ layout (suc n + size t) (right_of n s) u

-- what is handed over of an accepted code is its term, laid out from node 0 on
abbrev pub LaidOut : List ℕ → Type 0
LaidOut bs = (t : Term) → verdict bs ≡ accepted t → handed_over bs ≡ layout 0 root t
