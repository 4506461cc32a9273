-- What stands inside a closure, by the cell there. Assumes nothing.
use Rattle.std.proofs.Common.{◌≡◌, ℕ, suc, ◌+◌, ◌-◌, ◌^◌, ◌<◌, ◌≤◌, ltb, List, length, get_or, Some, None, Option, sym, refl, ap, ◌∙◌, subst, arith}
use Rattle.std.proofs.lemmas.List.{get_or_default}
use Rattle.std.proofs.lemmas.Bool.{and_from, and_left, cond-true, cond-false, lt-ltb, le-ltb, le-leb}
use Rattle.std.specs.Option.{option_map}
use Rattle.std.specs.List.{slice_get}
use Rattle.term.specs.Terms as term
use Rattle.term.specs.Terms.{Term}
use Rattle.writer.specs.declared.heads.Head.TheVariants as head
use Rattle.writer.specs.Heads.{both, headed}
use Rattle.abstract_machine.specs.Pieces.{Piece, place, ingredient, function, application, filled, weight, outer, plugged}
use Rattle.abstract_machine.specs.States.{entry_of}
use Rattle.abstract_machine.specs.Soundness.{SoundPiece}
use Rattle.abstract_machine.proofs.Plugging.{weight_some}
use Rattle.abstract_machine.proofs.Sound.{entry_sound, value_of}
use Rattle.closure_tables.specs.declared.positions.Spot.{Spot}
use Rattle.closure_tables.specs.declared.rows.Cell.{Cell}
use Rattle.closure_tables.specs.declared.rows.Cell.TheVariants as cell
use Rattle.closure_tables.specs.declared.rows.Argument.{Argument}
use Rattle.closure_tables.specs.Tables.{blank_cell, blank_entry, Tables}
use Rattle.closure_tables.specs.Presented.{height, chain_in, filled_by, cell_piece, piece_at, closure_of, entry_piece, presented}
use Rattle.closure_tables.specs.Positions.{spot_number, closure_spot, node_spot, body_spot, last_depth, plugged_under, spot_inside, spot_piece, entry_values, term_inside, term_at}
use Rattle.closure_tables.proofs.Latest.{length_latest, numbered_latest}
use Rattle.closure_tables.proofs.Chains.{chain_low}
use Rattle.closure_tables.proofs.Pieces.{piece_here}
use Rattle.closure_tables.proofs.Kept.{Kept, Inside, onward, sides_inside, body_inside, entry_is, falling}
use Rattle.closure_tables.proofs.Numbers.{Numbered, term_at_spot}

-- a piece with no free place that is small enough has a term
pub plugged_whole : (d : ℕ) (ts : List Term) (p : Piece) → outer p ≤ d → d + weight p ≤ 65536 → plugged_under d ts p ≡ Some (plugged ts p)
plugged_whole d ts (place k) free small = cond-true (ltb k d) (Some (term.place k)) None (lt-ltb k d free)
plugged_whole d ts (ingredient i) free small = refl
plugged_whole d ts (function p) free small =
    let some = weight_some p in
    let shallow : d < last_depth = omega arith in
    cond-true (ltb d last_depth) (option_map term.function (plugged_under (suc d) ts p)) None (lt-ltb d last_depth shallow)
    ∙ ap (option_map term.function) (plugged_whole (suc d) ts p (omega arith) (omega arith))
plugged_whole d ts (application p q) free small =
    let one = plugged_whole d ts p (omega arith) (omega arith) in
    let two = plugged_whole d ts q (omega arith) (omega arith) in
    ap (λ x. both term.application x (plugged_under d ts q)) one ∙ ap (both term.application (Some (plugged ts p))) two
plugged_whole d ts (filled j) free small = refl

-- a spot that there is, and the cell there
pub record At (t : Tables) (s : Spot) (x : Cell) : Type 0 where
  pub node : s.node < length t.cells
  pub chain : height s.chain ≤ length t.entries
  pub cell : get_or t.cells s.node blank_cell ≡ x

-- as code reads the cell, with a default of its own
pub at_read : (t : Tables) (s : Spot) (x d : Cell) → s.node < length t.cells → height s.chain ≤ length t.entries → get_or t.cells s.node d ≡ x → At t s x
at_read t s x d hn hc is = record { node = hn; chain = hc; cell = get_or_default t.cells s.node blank_cell d hn ∙ is }

-- the argument of entry e, which is inside, has a lower chain than the spot
pub record Lower (t : Tables) (s : Spot) (e : ℕ) : Type 0 where
  pub entry : e < length t.entries
  pub node : (get_or t.entries e blank_entry).argument.node < length t.cells
  pub chain : height (get_or t.entries e blank_entry).argument.chain < height s.chain

-- out of range there is nothing

pub node_past : (t : Tables) (s : Spot) → length t.cells ≤ s.node → term_inside t s ≡ None
node_past t s h =
    cond-false (spot_inside t s) (plugged_under s.depth (entry_values t) (spot_piece t s)) None
    (and_left _ _ (le-ltb s.node (length t.cells) h))

term_is : (t : Tables) (s : Spot) → s.node < length t.cells → height s.chain ≤ length t.entries → term_inside t s ≡ plugged_under s.depth (entry_values t) (spot_piece t s)
term_is t s hn hc =
    cond-true (spot_inside t s) (plugged_under s.depth (entry_values t) (spot_piece t s)) None
    (and_from _ _ (lt-ltb s.node (length t.cells) hn) (le-leb (height s.chain) (length t.entries) hc))

-- a closure that is sound stands for its plugged piece
pub closure_is : (t : Tables) → Kept t → (b : ℕ) (a : Argument) → Inside (length t.cells) (length t.entries) a → SoundPiece (length t.cells) b (closure_of t.cells t.entries a) → term_inside t (closure_spot a) ≡ Some (plugged (entry_values t) (closure_of t.cells t.entries a))
closure_is t k b a h s =
    term_is t (closure_spot a) h.node h.chain
    ∙ plugged_whole 0 (entry_values t) (closure_of t.cells t.entries a) s.closed (omega (arith, s.small, k.few))

-- the pieces further on in the closure of a spot
abbrev further : Tables → Spot → ℕ → ℕ → Piece
further t s = piece_at (length t.cells) t.cells (chain_in t.entries s.chain)

module _ (t : Tables) (k : Kept t) where
  spot_is : (s : Spot) (x : Cell) → At t s x → term_inside t s ≡ plugged_under s.depth (entry_values t) (cell_piece (further t s) (chain_in t.entries s.chain) s.depth s.node x)
  spot_is s x at =
      let chain = chain_in t.entries s.chain in
      term_is t s at.node at.chain
      ∙ ap (plugged_under s.depth (entry_values t))
      (piece_here t.cells chain s.depth s.node (onward t k) at.node ∙ ap (cell_piece (further t s) chain s.depth s.node) at.cell)

  -- at a spot with a number
  number_is : (s : Spot) → length t.entries < 2 ^ 31 → s.node < length t.cells → s.depth < 65536 → height s.chain ≤ length t.entries → term_at t (spot_number s) ≡ plugged_under s.depth (entry_values t) (spot_piece t s)
  number_is s few hn hd hc =
      let number : Numbered s = record { node = omega (arith, k.few); depth = hd; chain = omega arith } in
      term_at_spot t s number ∙ term_is t s hn hc

  pub application_looks :
      (s : Spot) (r : ℕ) → length t.entries < 2 ^ 31 → s.depth < 65536 → At t s (cell.Application r) →
      term_inside t s ≡ headed (term_at t) (head.Application (spot_number (node_spot s (s.node + 1))) (spot_number (node_spot s r)))
  application_looks s r few deep at =
      let inner = sides_inside t k s.node r at.node at.cell in
      let same : s.node + 1 ≡ suc s.node = omega arith in
      let left : term_at t (spot_number (node_spot s (s.node + 1))) ≡ plugged_under s.depth (entry_values t) (further t s s.depth (suc s.node))
      = number_is (node_spot s (s.node + 1)) few (omega (arith, inner.0)) deep at.chain ∙ ap (λ i. plugged_under s.depth (entry_values t) (further t s s.depth i)) same in
      let right = number_is (node_spot s r) few inner.1 deep at.chain in
      spot_is s (cell.Application r) at
      ∙ ap (λ x. both term.application x (plugged_under s.depth (entry_values t) (further t s s.depth r))) (sym left)
      ∙ ap (both term.application (term_at t (spot_number (node_spot s (s.node + 1))))) (sym right)

  pub function_looks :
      (s : Spot) → length t.entries < 2 ^ 31 → s.depth < last_depth → At t s cell.Function →
      term_inside t s ≡ headed (term_at t) (head.Function (spot_number (body_spot s)))
  function_looks s few deep at =
      let d = s.depth in
      let same : s.node + 1 ≡ suc s.node = omega arith in
      let under : d + 1 ≡ suc d = omega arith in
      let inner : term_at t (spot_number (body_spot s)) ≡ plugged_under (suc d) (entry_values t) (further t s (suc d) (suc s.node))
      = number_is (body_spot s) few (omega (arith, body_inside t k s.node at.node at.cell)) (omega arith) at.chain
      ∙ ap (λ i. plugged_under (d + 1) (entry_values t) (further t s (d + 1) i)) same
      ∙ ap (λ e. plugged_under e (entry_values t) (further t s e (suc s.node))) under in
      spot_is s cell.Function at
      ∙ cond-true (ltb d last_depth) (option_map term.function (plugged_under (suc d) (entry_values t) (further t s (suc d) (suc s.node)))) None (lt-ltb d last_depth deep)
      ∙ ap (option_map term.function) (sym inner)

  pub deepest_looks : (s : Spot) → last_depth ≤ s.depth → At t s cell.Function → term_inside t s ≡ None
  deepest_looks s deep at =
      let d = s.depth in
      spot_is s cell.Function at
      ∙ cond-false (ltb d last_depth) (option_map term.function (plugged_under (suc d) (entry_values t) (further t s (suc d) (suc s.node)))) None (le-ltb d last_depth deep)

  pub ingredient_looks : (s : Spot) (i : ℕ) → At t s (cell.Ingredient i) → term_inside t s ≡ headed (term_at t) (head.Ingredient i)
  ingredient_looks s i at = spot_is s (cell.Ingredient i) at

  -- a place of a function that was passed
  pub place_looks : (s : Spot) (j : ℕ) → At t s (cell.Place j) → j < s.depth → term_inside t s ≡ headed (term_at t) (head.Place j)
  place_looks s j at low =
      let d = s.depth in
      let below = lt-ltb j d low in
      spot_is s (cell.Place j) at
      ∙ ap (plugged_under d (entry_values t)) (cond-true (ltb j d) (place j) (filled_by (slice_get (chain_in t.entries s.chain) (j - d)) j) below)
      ∙ cond-true (ltb j d) (Some (term.place j)) None below

  -- any other place, by what the chain fills it with
  beyond_is : (s : Spot) (j : ℕ) (o : Option ℕ) → At t s (cell.Place j) → s.depth ≤ j → slice_get (chain_in t.entries s.chain) (j - s.depth) ≡ o → term_inside t s ≡ plugged_under s.depth (entry_values t) (filled_by o j)
  beyond_is s j o at high found =
      let d = s.depth in
      spot_is s (cell.Place j) at
      ∙ ap (plugged_under d (entry_values t))
      (cond-false (ltb j d) (place j) (filled_by (slice_get (chain_in t.entries s.chain) (j - d)) j) (le-ltb j d high)
      ∙ ap (λ p. filled_by p j) found)

  pub free_looks : (s : Spot) (j : ℕ) → At t s (cell.Place j) → s.depth ≤ j → slice_get (chain_in t.entries s.chain) (j - s.depth) ≡ None → term_inside t s ≡ None
  free_looks s j at high found = beyond_is s j None at high found ∙ cond-false (ltb j s.depth) (Some (term.place j)) None (le-ltb j s.depth high)

  pub link_low : (s : Spot) (j e : ℕ) → height s.chain ≤ length t.entries → slice_get (chain_in t.entries s.chain) j ≡ Some e → e < height s.chain
  link_low s j e le found = chain_low (height s.chain) t.entries s.chain j e (falling t k (height s.chain) le) found

  -- what fills a place is inside, with a lower chain
  pub filled_lower : (s : Spot) (j e : ℕ) → height s.chain ≤ length t.entries → slice_get (chain_in t.entries s.chain) j ≡ Some e → Lower t s e
  filled_lower s j e le found =
      let low = link_low s j e le found in
      let h = (entry_is t k e (omega arith)).0 in
      record { entry = omega arith; node = h.node; chain = omega (arith, h.chain) }

  pub filled_looks :
      (s : Spot) (j e : ℕ) → At t s (cell.Place j) → s.depth ≤ j → slice_get (chain_in t.entries s.chain) (j - s.depth) ≡ Some e →
      term_inside t s ≡ term_inside t (closure_spot (get_or t.entries e blank_entry).argument)
  filled_looks s j e at high found =
      let n = length t.cells in
      let es = (presented t).entries in
      let a = (get_or t.entries e blank_entry).argument in
      let lower = filled_lower s (j - s.depth) e at.chain found in
      let many = length_latest (entry_piece t.cells t.entries) t.entries in
      let low : e < length es = omega (arith, lower.entry) in
      let is : entry_of es e ≡ closure_of t.cells t.entries a
      = numbered_latest (entry_piece t.cells t.entries) (ingredient 0) blank_entry t.entries e lower.entry in
      let inside : Inside n (length t.entries) a = record { node = lower.node; chain = omega (arith, lower.chain, at.chain) } in
      beyond_is s j (Some e) at high found
      ∙ ap Some (value_of n es e k.sound.entries low)
      ∙ ap (λ p. Some (plugged (entry_values t) p)) is
      ∙ sym (closure_is t k e a inside (subst (SoundPiece n e) is (entry_sound n es e k.sound.entries low)))
