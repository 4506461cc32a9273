-- A counter of one ingredient, as a receiver of nodes. Assumes nothing.
use Rattle.std.specs.Prelude.{ℕ, ◌+◌, min, Bool, false, if◌then◌else◌, ◌==◌}
use Rattle.node.specs.declared.nodes.Node.{Node}
use Rattle.node.specs.declared.nodes.Node.TheVariants.{Application, Function, Place, Ingredient}
use Rattle.node.specs.declared.nodes.Located.{Located}
use Rattle.reading.specs.declared.counter.Counter.{Counter}

abbrev pub holds : ℕ → Node → Bool
holds i Application = false
holds i Function = false
holds i (Place k) = false
holds i (Ingredient j) = j == i

-- a counter after one node more; it stops at the largest number that it can hold, which no code reaches
abbrev pub after_node : Counter → Located → Counter
after_node c l =
    record { ingredient = c.ingredient; found = if holds c.ingredient l.node then min (c.found + 1) 65535 else c.found }
