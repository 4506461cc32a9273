-- What is still to come of a code, as the reading keeps it. Assumes nothing.
use Rattle.std.specs.Prelude.{◌≡◌, ℕ, zero, suc, ◌+◌, ◌≤◌, List, [], ◌∷◌, map, Some, None, Option, slice_index}
use Rattle.node.specs.declared.nodes.Part.{Part}
use Rattle.node.specs.declared.nodes.Part.TheVariants.{Right}
use Rattle.node.specs.declared.nodes.Located.{Located}
use Rattle.code.specs.Scans.{Slot, parts_of}
use Rattle.reading.specs.declared.frontier.Opening.{Opening}
use Rattle.reading.specs.declared.right_sides.RightSide.{RightSide}
use Rattle.reading.specs.declared.frontier.Frontier.{Frontier}
use Rattle.reading.specs.RightSides.{top_down}

-- the first d binders of the table, the nearest first
abbrev pub around : List ℕ → ℕ → List ℕ
around binders zero = []
around binders (suc d) = slice_index binders d ∷ around binders d

-- the slot of a part under d functions
abbrev pub slot_at : List ℕ → Option Part → ℕ → Slot
slot_at binders part d = record { part = part; around = around binders d }

abbrev pub slot_of : List ℕ → Opening → Slot
slot_of binders o = slot_at binders o.part o.depth

-- the slots of right sides
abbrev pub stacked : List ℕ → List RightSide → List Slot
stacked binders = map (λ r. slot_at binders (Some (Right r.application)) r.depth)

abbrev pub waiting : Frontier → List Slot
waiting f = stacked f.binders (top_down f.right_sides)

-- the nearest opening and what waits behind it; nothing waits where there is none
abbrev pub upcoming : Option Opening → Frontier → List Slot
upcoming None f = []
upcoming (Some o) f = slot_of f.binders o ∷ waiting f

-- no right side is deeper than one before it, or than d
abbrev pub Falling : ℕ → List RightSide → Type 0
Falling d [] = Unit {0}
Falling d (r ∷ rs) = (r.depth ≤ d) × Falling r.depth rs

-- and the nearest opening is no less deep than they
abbrev pub Nested : Option Opening → Frontier → Type 0
Nested None f = Unit {0}
Nested (Some o) f = Falling o.depth (top_down f.right_sides)

-- a node has filled the nearest opening before a frontier f; now r is the nearest opening, before the frontier g
pub record Opened (f g : Frontier) (filled : Located) (r : Option Opening) : Type 0 where
  pub slots : upcoming r g ≡ parts_of filled.number (slot_at f.binders filled.part filled.depth) filled.node (waiting f)
  pub count : g.right_sides.count ≤ f.right_sides.count + 1
  pub nested : Nested r g
