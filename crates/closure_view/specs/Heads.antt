-- The head of a term by the cell at a spot. Assumes nothing.
use Rattle.std.specs.Prelude.{ℕ, ◌+◌, ◌-◌, if◌then◌else◌, Some, None, Option, nat_lt}
use Rattle.writer.specs.declared.heads.Head.{Head}
use Rattle.writer.specs.declared.heads.Head.TheVariants as head
use Rattle.closure_tables.specs.declared.positions.Spot.{Spot}
use Rattle.closure_tables.specs.declared.rows.Cell.{Cell}
use Rattle.closure_tables.specs.declared.rows.Cell.TheVariants as cell
use Rattle.closure_tables.specs.Positions.{spot_number, node_spot, body_spot, last_depth}

-- which link of the chain fills a cell under d functions of its closure, if one is to
abbrev pub link_index : ℕ → Cell → Option ℕ
link_index d (cell.Application r) = None
link_index d cell.Function = None
link_index d (cell.Place j) = if nat_lt j d then None else Some (j - d)
link_index d (cell.Ingredient i) = None

-- the head at a spot whose cell nothing fills; no number has room for a greater depth than the last
abbrev pub cell_head : Spot → Cell → Option Head
cell_head s (cell.Application r) = Some (head.Application (spot_number (node_spot s (s.node + 1))) (spot_number (node_spot s r)))
cell_head s cell.Function = if nat_lt s.depth last_depth then Some (head.Function (spot_number (body_spot s))) else None
cell_head s (cell.Place j) = Some (head.Place j)
cell_head s (cell.Ingredient i) = Some (head.Ingredient i)
