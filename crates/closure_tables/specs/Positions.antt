-- Positions of the standing term, by which it is looked at from its root down. Assumes nothing.
use Rattle.std.specs.Prelude.{ℕ, zero, suc, ◌+◌, ◌-◌, ◌*◌, ◌/◌, ◌%◌, ◌^◌, Bool, if◌then◌else◌, ◌&&◌, List, map, length, take, Some, None, Option, nat_le, nat_lt}
use Rattle.std.specs.Option.{option_map}
use Rattle.term.specs.Terms as term
use Rattle.term.specs.Terms.{Term}
use Rattle.writer.specs.Heads.{both}
use Rattle.abstract_machine.specs.Pieces.{Piece, place, ingredient, function, application, filled, numbered, plugged}
use Rattle.abstract_machine.specs.States.{values, applied_to}
use Rattle.closure_tables.specs.declared.positions.Spot.{Spot}
use Rattle.closure_tables.specs.declared.positions.Position.{Position}
use Rattle.closure_tables.specs.declared.positions.Position.TheVariants.{Spine, Inside}
use Rattle.closure_tables.specs.declared.rows.Argument.{Argument}
use Rattle.closure_tables.specs.Tables.{Tables}
use Rattle.closure_tables.specs.Presented.{height, chain_in, piece_at, presented}

-- A position is a number of 64 bits. The upper half is for the spine.
abbrev pub first_spine : ℕ
first_spine = 2 ^ 63

abbrev pub spine_number : ℕ → ℕ
spine_number k = first_spine + k

-- 16 bits for the node, 16 for the depth, 31 for the chain, which its height gives
abbrev pub spot_number : Spot → ℕ
spot_number s = s.node + 65536 * s.depth + 4294967296 * height s.chain

-- the chain of a height
abbrev pub front : ℕ → Option ℕ
front zero = None
front (suc e) = Some e

abbrev pub spot_of : ℕ → Spot
spot_of p = record { node = p % 65536; depth = p / 65536 % 65536; chain = front (p / 4294967296) }

abbrev pub position_of : ℕ → Position
position_of p = if nat_lt p first_spine then Inside (spot_of p) else Spine (p - first_spine)

-- where a closure begins
abbrev pub closure_spot : Argument → Spot
closure_spot a = record { node = a.node; depth = 0; chain = a.chain }

-- another node of the closure, under the same functions
abbrev pub node_spot : Spot → ℕ → Spot
node_spot s i = record { node = i; depth = s.depth; chain = s.chain }

-- the body of the function at a spot
abbrev pub body_spot : Spot → Spot
body_spot s = record { node = s.node + 1; depth = s.depth + 1; chain = s.chain }

-- no position is further down in a closure
abbrev pub last_depth : ℕ
last_depth = 65535

-- A piece under d functions of its closure as a term. There is none where a place is free, as no index could be written for it,
-- or where a part has no position.
abbrev pub plugged_under : ℕ → List Term → Piece → Option Term
plugged_under d ts (place k) = if nat_lt k d then Some (term.place k) else None
plugged_under d ts (ingredient i) = Some (term.ingredient i)
plugged_under d ts (function p) = if nat_lt d last_depth then option_map term.function (plugged_under (suc d) ts p) else None
plugged_under d ts (application p q) = both term.application (plugged_under d ts p) (plugged_under d ts q)
plugged_under d ts (filled j) = Some (numbered (term.ingredient 0) ts j)

-- a node that there is, with a chain of entries that there are
abbrev pub spot_inside : Tables → Spot → Bool
spot_inside t s = nat_lt s.node (length t.cells) && nat_le (height s.chain) (length t.entries)

abbrev pub spot_piece : Tables → Spot → Piece
spot_piece t s = piece_at (length t.cells) t.cells (chain_in t.entries s.chain) s.depth s.node

-- the term of each entry
abbrev pub entry_values : Tables → List Term
entry_values t = values (presented t).entries

abbrev pub term_inside : Tables → Spot → Option Term
term_inside t s = if spot_inside t s then plugged_under s.depth (entry_values t) (spot_piece t s) else None

-- the closure in hand applied to k arguments, where a term stands and so many are stacked
abbrev pub term_on_spine : Tables → ℕ → Option Term
term_on_spine t k =
    if nat_lt 0 (length t.cells) && nat_le k (length t.stack)
    then Some (applied_to (plugged (entry_values t) (presented t).hand) (take k (map (plugged (entry_values t)) (presented t).stack)))
    else None

abbrev pub term_of : Tables → Position → Option Term
term_of t (Spine k) = term_on_spine t k
term_of t (Inside s) = term_inside t s

abbrev pub term_at : Tables → ℕ → Option Term
term_at t p = term_of t (position_of p)

-- the whole of the standing term
abbrev pub root : Tables → ℕ
root t = spine_number (length t.stack)
