-- The reading of a code, node by node. Assumes nothing.
use Rattle.std.specs.Prelude.{ℕ, zero, suc, ◌-◌, List, [], ◌∷◌, length, drop, Some, None, Ok, Err, Option, Result, slice_index}
use Rattle.node.specs.declared.nodes.Node.{Node}
use Rattle.node.specs.declared.nodes.Node.TheVariants.{Application, Function, Place, Ingredient}
use Rattle.node.specs.declared.nodes.Part.{Part}
use Rattle.node.specs.declared.nodes.Part.TheVariants.{Left, Right, Body}
use Rattle.node.specs.declared.nodes.Located.{Located}
use Rattle.node.specs.declared.faults.Fault.{Fault}
use Rattle.node.specs.declared.faults.Fault.TheVariants.{TooManyNodes, Leftover}
use Rattle.term.specs.Terms.{most_nodes}
use Rattle.node.specs.Spell.{spelling_of, width_of}
use Rattle.node.specs.Checks.{judged}

-- A slot is a part of the term that is still to come: which part of which node it is, none if it is the whole term,
-- and the numbers of the functions around it, the nearest first.
pub record Slot : Type 0 where
  pub part : Option Part
  pub around : List ℕ

abbrev pub root : Slot
root = record { part = None; around = [] }

-- the slots of the parts of node number n, which stands in a slot itself
abbrev pub left_of : ℕ → Slot → Slot
left_of n s = record { part = Some (Left n); around = s.around }

abbrev pub right_of : ℕ → Slot → Slot
right_of n s = record { part = Some (Right n); around = s.around }

abbrev pub body_of : ℕ → Slot → Slot
body_of n s = record { part = Some (Body n); around = n ∷ s.around }

-- of a place, the number of its function
abbrev pub binder_of : Node → List ℕ → Option ℕ
binder_of Application around = None
binder_of Function around = None
binder_of (Place k) around = Some (slice_index around k)
binder_of (Ingredient i) around = None

-- node number n, in a slot
abbrev pub located : ℕ → Slot → Node → Located
located n s node =
    record { number = n; node = node; depth = length s.around; binder = binder_of node s.around; part = s.part }

-- what is to come once node number n has filled a slot before others: its parts, and then those
abbrev pub parts_of : ℕ → Slot → Node → List Slot → List Slot
parts_of n s Application ss = left_of n s ∷ right_of n s ∷ ss
parts_of n s Function ss = body_of n s ∷ ss
parts_of n s (Place k) ss = ss
parts_of n s (Ingredient i) ss = ss

-- what a reading comes to: the nodes that it hands over, and their number or the fault that ended it
pub record Scan : Type 0 where
  pub handed : List Located
  pub ended : Result ℕ Fault

-- every slot is filled: no byte may be left
abbrev pub finished : ℕ → ℕ → List ℕ → Result ℕ Fault
finished end n [] = Ok n
finished end n (b ∷ bs) = Err (Leftover (end - length (b ∷ bs)))

-- the checks at the front of what is left of a code of `end` bytes
abbrev pub next : ℕ → ℕ → Slot → List ℕ → Result Node Fault
next end n s bs = judged end (end - length bs) n (length s.around) (spelling_of bs)

-- the reading from node number n on, where at most m more fit, slots are to be filled and bs is left of a code of `end` bytes;
-- where none fits, the check of the room has refused the node, so the case of a good one does not come
abbrev pub scan : ℕ → ℕ → ℕ → List Slot → List ℕ → Scan
scan end m n [] bs = record { handed = []; ended = finished end n bs }
scan end zero n (s ∷ ss) bs =
    record { handed = []; ended = elim (next end n s bs) [ Ok node ↦ Err (TooManyNodes (end - length bs)) | Err f ↦ Err f ] }
scan end (suc m) n (s ∷ ss) bs = elim (next end n s bs) [
  | Ok node ↦
      let rest = scan end m (suc n) (parts_of n s node ss) (drop (width_of node) bs) in
      record { handed = located n s node ∷ rest.handed; ended = rest.ended }
  | Err f ↦ record { handed = []; ended = Err f }
]

-- the reading of a whole code
unfoldable pub reading : List ℕ → Scan
reading bs = scan (length bs) most_nodes 0 (root ∷ []) bs

-- the nodes that a reading hands over, left to right: those before the first fault
abbrev pub handed_over : List ℕ → List Located
handed_over bs = (reading bs).handed
