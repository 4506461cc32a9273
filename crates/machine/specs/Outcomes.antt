-- The number and the name of each kind of transition and of each table. Assumes nothing.
use Rattle.std.specs.Prelude.{ℕ, List, codes}
use Rattle.machine.specs.declared.transitions.Transition.{Transition}
use Rattle.machine.specs.declared.transitions.Transition.TheVariants.{Beta, Substitution, Search}
use Rattle.machine.specs.declared.outcomes.Table.{Table}
use Rattle.machine.specs.declared.outcomes.Table.TheVariants.{Stack, Entries, Nodes}

-- in the order in which an evaluator will list their counts
abbrev pub transition_number : Transition → ℕ
transition_number Beta = 1
transition_number Substitution = 2
transition_number Search = 3

abbrev pub transition_name : Transition → List ℕ
transition_name Beta = codes "beta"
transition_name Substitution = codes "substitution"
transition_name Search = codes "search"

-- the number by which an evaluator will say that a table is full
abbrev pub table_number : Table → ℕ
table_number Stack = 2
table_number Entries = 3
table_number Nodes = 4

abbrev pub table_name : Table → List ℕ
table_name Stack = codes "stack"
table_name Entries = codes "entries"
table_name Nodes = codes "nodes"
