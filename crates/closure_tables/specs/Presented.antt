-- The state of the abstract machine that tables present. Assumes nothing.
use Rattle.std.specs.Prelude.{ℕ, zero, suc, ◌-◌, if◌then◌else◌, List, [], ◌∷◌, map, reverse, length, Some, None, Option, ◌==◌, nat_lt, slice_index_or}
use Rattle.std.specs.List.{slice_get}
use Rattle.machine.specs.Meanings.{Places}
use Rattle.abstract_machine.specs.Pieces.{Piece, place, ingredient, function, application, filled}
use Rattle.abstract_machine.specs.States.{State}
use Rattle.abstract_machine.specs.Configurations.{Loaded, Configuration}
use Rattle.closure_tables.specs.declared.rows.Cell.{Cell}
use Rattle.closure_tables.specs.declared.rows.Cell.TheVariants as cell
use Rattle.closure_tables.specs.declared.rows.Argument.{Argument}
use Rattle.closure_tables.specs.declared.rows.Entry.{Entry}
use Rattle.closure_tables.specs.Tables.{blank_cell, blank_entry, Tables}

-- how many entries come up to the front of a chain
abbrev pub height : Option ℕ → ℕ
height None = 0
height (Some e) = suc e

-- the entries of a chain, the nearest first; each is earlier than the one before it, so its height is fuel enough
abbrev pub chain_of : ℕ → List Entry → Option ℕ → List ℕ
chain_of zero es c = []
chain_of (suc n) es None = []
chain_of (suc n) es (Some e) = e ∷ chain_of n es (slice_index_or es e blank_entry).next

-- what a chain fills a place with that it reaches
abbrev pub filled_by : Option ℕ → ℕ → Piece
filled_by None k = place k
filled_by (Some e) k = filled e

-- a place under d functions of the piece: one of those functions' own, or one that the chain fills
abbrev pub place_at : List ℕ → ℕ → ℕ → Piece
place_at chain d k = if nat_lt k d then place k else filled_by (slice_get chain (k - d)) k

-- the piece whose first node is the cell at i, by the pieces further on
abbrev pub cell_piece : (ℕ → ℕ → Piece) → List ℕ → ℕ → ℕ → Cell → Piece
cell_piece further chain d i (cell.Application r) = application (further d (suc i)) (further d r)
cell_piece further chain d i cell.Function = function (further (suc d) (suc i))
cell_piece further chain d i (cell.Place k) = place_at chain d k
cell_piece further chain d i (cell.Ingredient n) = ingredient n

-- the piece at node i, under d functions of it; parts lie further on, so as many turns as there are nodes suffice
abbrev pub piece_at : ℕ → List Cell → List ℕ → ℕ → ℕ → Piece
piece_at zero cells chain d i = ingredient 0
piece_at (suc n) cells chain d i = cell_piece (piece_at n cells chain) chain d i (slice_index_or cells i blank_cell)

abbrev pub chain_in : List Entry → Option ℕ → List ℕ
chain_in es c = chain_of (height c) es c

-- the piece that a closure stands for
abbrev pub closure_of : List Cell → List Entry → Argument → Piece
closure_of cells es a = piece_at (length cells) cells (chain_in es a.chain) 0 a.node

abbrev pub entry_piece : List Cell → List Entry → Entry → Piece
entry_piece cells es e = closure_of cells es e.argument

abbrev pub presented : Tables → State
presented t = record {
  hand = closure_of t.cells t.entries t.hand;
  stack = map (closure_of t.cells t.entries) (reverse t.stack);
  entries = map (entry_piece t.cells t.entries) (reverse t.entries);
}

-- a term stands where there are nodes
abbrev pub loaded_in : Tables → Option Loaded
loaded_in t = if length t.cells == 0 then None else Some (record { size = length t.cells; state = presented t })

abbrev pub configured : Places → Places → Tables → Configuration
configured capacity used t = record { capacity = capacity; used = used; loaded = loaded_in t }

-- nothing is copied
abbrev pub no_price : State → ℕ
no_price s = 0
