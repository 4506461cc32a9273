-- The closure machine's tables as lists. Assumes nothing.
use Rattle.std.specs.Prelude.{ℕ, List, take, None}
use Rattle.closure_tables.specs.declared.rows.Cell.{Cell}
use Rattle.closure_tables.specs.declared.rows.Cell.TheVariants.{Ingredient}
use Rattle.closure_tables.specs.declared.rows.Argument.{Argument}
use Rattle.closure_tables.specs.declared.rows.Entry.{Entry}

abbrev pub blank_cell : Cell
blank_cell = Ingredient 0

abbrev pub blank_argument : Argument
blank_argument = record { node = 0; chain = None }

abbrev pub blank_entry : Entry
blank_entry = record { argument = blank_argument; next = None }

-- the places in use of each table, the lowest first, and the closure in hand
pub record Tables : Type 0 where
  pub cells : List Cell
  pub entries : List Entry
  pub stack : List Argument
  pub hand : Argument

-- what lies below the levels of tables
abbrev pub below : ℕ → List Cell → ℕ → List Entry → ℕ → List Argument → Argument → Tables
below n cells b entries k stack hand = record { cells = take n cells; entries = take b entries; stack = take k stack; hand = hand }
