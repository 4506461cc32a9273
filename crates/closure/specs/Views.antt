-- What the closure machine's tables hold and mean. Assumes nothing.
use Rattle.std.specs.Prelude.{◌≡◌, ℕ, None, vec_items, slice_index_or}
use Rattle.tables.specs.Limits as limits
use Rattle.tables.specs.Limits.{node_limit, entry_limit, stack_limit}
use Rattle.machine.specs.Meanings.{Places, Meaning}
use Rattle.abstract_machine.specs.Configurations.{Configuration, explained}
use Rattle.closure_tables.specs.Tables.{blank_cell, Tables, below}
use Rattle.closure_tables.specs.declared.rows.Cell.{Cell}
use Rattle.closure_tables.specs.Presented.{configured, no_price}
use Rattle.closure.specs.declared.state.Closure.{Closure}

-- the places below the levels: nothing that follows looks at any other
abbrev pub tables_of : Closure → Tables
tables_of m =
    below m.levels.nodes.used (vec_items m.cells) m.levels.entries.used (vec_items m.entries) m.levels.stack.used (vec_items m.stack) m.hand

-- the cell in hand
abbrev pub Hand : Closure → Cell → Type 0
Hand m x = slice_index_or (tables_of m).cells m.hand.node blank_cell ≡ x

abbrev pub capacities : Closure → Places
capacities m = record { stack = m.levels.stack.capacity; entries = m.levels.entries.capacity; nodes = m.levels.nodes.capacity }

abbrev pub places_used : Closure → Places
places_used m = record { stack = m.levels.stack.used; entries = m.levels.entries.used; nodes = m.levels.nodes.used }

abbrev pub configuration : Closure → Configuration
configuration m = configured (capacities m) (places_used m) (tables_of m)

abbrev pub meaning : Closure → Meaning
meaning m = explained no_price (configuration m)

-- a new machine over tables of those lengths
abbrev pub as_made : ℕ → ℕ → ℕ → Configuration
as_made nodes entries stack = record {
  capacity = record { stack = limits.capacity_of stack stack_limit; entries = limits.capacity_of entries entry_limit; nodes = limits.capacity_of nodes node_limit };
  used = record { stack = 0; entries = 0; nodes = 0 };
  loaded = None;
}
