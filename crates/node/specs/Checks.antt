-- The checks at one node, in their order. Assumes nothing.
use Rattle.std.specs.Prelude.{ℕ, ◌<◌, ◌≤◌, if◌then◌else◌, Ok, Err, Result, nat_le, nat_lt}
use Rattle.node.specs.declared.nodes.Node.{Node}
use Rattle.node.specs.declared.nodes.Node.TheVariants.{Application, Function, Place, Ingredient}
use Rattle.node.specs.declared.nodes.Misspelling.{Misspelling}
use Rattle.node.specs.declared.nodes.Misspelling.TheVariants.{Nothing, Unknown, Cut}
use Rattle.node.specs.declared.faults.Fault.{Fault}
use Rattle.node.specs.declared.faults.Fault.TheVariants.{Missing, UnknownTag, TooManyNodes, TooDeep, Uncovered, NoSuchIngredient}
use Rattle.term.specs.Terms.{most_nodes, most_nested, last_ingredient}

-- a node that may stand under d functions
abbrev pub Fitting : ℕ → Node → Type 0
Fitting d Application = Unit {0}
Fitting d Function = d < most_nested
Fitting d (Place k) = k < d
Fitting d (Ingredient i) = i ≤ last_ingredient

-- the check of that, for a node whose code begins at byte `at`
abbrev pub fitted : ℕ → ℕ → Node → Result Node Fault
fitted at d Application = Ok Application
fitted at d Function = if nat_lt d most_nested then Ok Function else Err (TooDeep at)
fitted at d (Place k) = if nat_lt k d then Ok (Place k) else Err (Uncovered at)
fitted at d (Ingredient i) = if nat_le i last_ingredient then Ok (Ingredient i) else Err (NoSuchIngredient at)

-- what a further check says of a node that n nodes come before, where a recipe has room for it
abbrev pub roomed : {A : Type 0} → ℕ → ℕ → Result A Fault → Result A Fault
roomed at n further = if nat_lt n most_nodes then further else Err (TooManyNodes at)

-- the checks at a node that n nodes come before, under d functions
abbrev pub admitted : ℕ → ℕ → ℕ → Node → Result Node Fault
admitted at n d node = roomed at n (fitted at d node)

-- all checks at what the bytes from `at` on spell, in a code of `end` bytes
abbrev pub judged : ℕ → ℕ → ℕ → ℕ → Result Node Misspelling → Result Node Fault
judged end at n d (Err Nothing) = Err (Missing end)
judged end at n d (Err Unknown) = Err (UnknownTag at)
judged end at n d (Err Cut) = roomed at n (Err (Missing end))
judged end at n d (Ok node) = admitted at n d node
