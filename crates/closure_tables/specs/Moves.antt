-- What each transition does to the tables. Assumes nothing.
use Rattle.std.specs.Prelude.{ℕ, suc, ◌-◌, [], ◌∷◌, ◌++◌, length, take, Some, slice_index_or}
use Rattle.closure_tables.specs.Tables.{blank_argument, blank_entry, Tables}

-- search: the right side is stacked with the chain in hand, and the left side is next
abbrev pub descended : ℕ → Tables → Tables
descended right t = record {
  cells = t.cells;
  entries = t.entries;
  stack = t.stack ++ record { node = right; chain = t.hand.chain } ∷ [];
  hand = record { node = suc t.hand.node; chain = t.hand.chain };
}

-- β: the nearest argument becomes an entry in front of the chain in hand, and the body is next
abbrev pub entered : Tables → Tables
entered t = record {
  cells = t.cells;
  entries = t.entries ++ record { argument = slice_index_or t.stack (length t.stack - 1) blank_argument; next = t.hand.chain } ∷ [];
  stack = take (length t.stack - 1) t.stack;
  hand = record { node = suc t.hand.node; chain = Some (length t.entries) };
}

-- substitution: the argument of entry e is next
abbrev pub fetched : ℕ → Tables → Tables
fetched e t = record { cells = t.cells; entries = t.entries; stack = t.stack; hand = (slice_index_or t.entries e blank_entry).argument }
