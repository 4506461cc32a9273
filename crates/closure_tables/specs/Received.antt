-- The cells that a reading stores, and those of a term. Assumes nothing.
use Rattle.std.specs.Prelude.{ℕ, suc, ◌+◌, ◌-◌, min, if◌then◌else◌, List, [], ◌∷◌, ◌++◌, Some, None, Option, nat_lt, slice_set}
use Rattle.node.specs.declared.nodes.Node.{Node}
use Rattle.node.specs.declared.nodes.Node.TheVariants.{Application, Function, Place, Ingredient}
use Rattle.node.specs.declared.nodes.Part.{Part}
use Rattle.node.specs.declared.nodes.Part.TheVariants.{Left, Right, Body}
use Rattle.node.specs.declared.nodes.Located.{Located}
use Rattle.term.specs.Terms.{Term, place, ingredient, function, application, size}
use Rattle.closure_tables.specs.declared.rows.Cell.{Cell}
use Rattle.closure_tables.specs.declared.rows.Cell.TheVariants as cell
use Rattle.closure_tables.specs.Tables.{blank_argument, Tables}

-- the cells stored so far, and how many more there is room for
pub record Received : Type 0 where
  pub cells : List Cell
  pub room : ℕ

abbrev pub nothing_received : ℕ → Received
nothing_received capacity = record { cells = []; room = capacity }

-- a node as a cell: where its right side begins is learnt later, and an index that no recipe has is cut off
abbrev pub cell_of : Node → Cell
cell_of Application = cell.Application 0
cell_of Function = cell.Function
cell_of (Place k) = cell.Place (min k 255)
cell_of (Ingredient i) = cell.Ingredient i

-- the application whose right side begins at node number n learns that number
abbrev pub joined : Option Part → ℕ → List Cell → List Cell
joined None n cells = cells
joined (Some (Left a)) n cells = cells
joined (Some (Right a)) n cells = slice_set cells a (cell.Application n)
joined (Some (Body f)) n cells = cells

-- one node more, while there is room
abbrev pub received : Received → Located → Received
received r l =
    if nat_lt 0 r.room
    then record { cells = joined l.part l.number r.cells ++ cell_of l.node ∷ []; room = r.room - 1 }
    else r

-- the cells of a term whose first node has number n, in the order of the code
abbrev pub cells_of : ℕ → Term → List Cell
cells_of n (place k) = cell.Place k ∷ []
cells_of n (ingredient i) = cell.Ingredient i ∷ []
cells_of n (function t) = cell.Function ∷ cells_of (suc n) t
cells_of n (application t u) = cell.Application (suc n + size t) ∷ (cells_of (suc n) t ++ cells_of (suc n + size t) u)

-- the tables before the first transition: the first node is in hand, with no chain
abbrev pub started : List Cell → Tables
started cells = record { cells = cells; entries = []; stack = []; hand = blank_argument }
