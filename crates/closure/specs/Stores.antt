-- The closure machine's table of nodes as a receiver. Assumes nothing.
use Rattle.std.specs.Prelude.{ℕ, ◌-◌, take, vec_items, vec_len}
use Rattle.node.specs.declared.nodes.Located.{Located}
use Rattle.closure_tables.specs.Received.{Received, received}
use Rattle.closure.specs.declared.state.storing.Nodes.{Nodes}

-- What is stored of a code, in a table of that length under that capacity, and the names of the two loans that it is stored by.
pub record Stored : Type 0 where
  pub code : Received
  pub long : ℕ
  pub capacity : ℕ
  pub cells_lent : ℕ
  pub level_lent : ℕ

abbrev pub stored_in : Nodes → Stored
stored_in n = record {
  code = record {
    cells = take n.level.now.used (vec_items n.cells.now);
    room = n.level.now.capacity - n.level.now.used;
  };
  long = vec_len n.cells.now;
  capacity = n.level.now.capacity;
  cells_lent = n.cells.ghost_name;
  level_lent = n.level.ghost_name;
}

abbrev pub storing : Stored → Located → Stored
storing s l =
    record { code = received s.code l; long = s.long; capacity = s.capacity; cells_lent = s.cells_lent; level_lent = s.level_lent }
