-- How many places a machine's tables have for use. Assumes nothing.
use Rattle.std.specs.Prelude.{ℕ, min, max}

abbrev pub node_limit : ℕ
node_limit = 16777216

abbrev pub entry_limit : ℕ
entry_limit = 1048576

abbrev pub stack_limit : ℕ
stack_limit = 16777216

-- no table has more than that
abbrev pub table_limit : ℕ
table_limit = max node_limit (max entry_limit stack_limit)

-- of a table of some length under a limit
abbrev pub capacity_of : ℕ → ℕ → ℕ
capacity_of length limit = min length limit
