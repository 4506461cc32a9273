-- How bytes spell a node. Assumes nothing.
use Rattle.std.specs.Prelude.{ℕ, ◌+◌, ◌*◌, if◌then◌else◌, List, [], ◌∷◌, Ok, Err, Result, ◌==◌}
use Rattle.node.specs.declared.nodes.Node.{Node}
use Rattle.node.specs.declared.nodes.Node.TheVariants.{Application, Function, Place, Ingredient}
use Rattle.node.specs.declared.nodes.Misspelling.{Misspelling}
use Rattle.node.specs.declared.nodes.Misspelling.TheVariants.{Nothing, Unknown, Cut}

-- after the tag of a place: its index
abbrev pub spell_place : List ℕ → Result Node Misspelling
spell_place [] = Err Cut
spell_place (k ∷ bs) = Ok (Place k)

-- after the tag of an ingredient: its number, high byte first
abbrev pub spell_ingredient : List ℕ → Result Node Misspelling
spell_ingredient [] = Err Cut
spell_ingredient (high ∷ []) = Err Cut
spell_ingredient (high ∷ low ∷ bs) = Ok (Ingredient (256 * high + low))

-- what the bytes at the front spell
abbrev pub spelling_of : List ℕ → Result Node Misspelling
spelling_of [] = Err Nothing
spelling_of (tag ∷ bs) =
    if tag == 1 then Ok Application
    else if tag == 2 then Ok Function
    else if tag == 3 then spell_place bs
    else if tag == 4 then spell_ingredient bs
    else Err Unknown

-- how many bytes spell a node
abbrev pub width_of : Node → ℕ
width_of Application = 1
width_of Function = 1
width_of (Place k) = 2
width_of (Ingredient i) = 3
