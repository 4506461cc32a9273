-- Looks at the closure machine's tables, row by row. Assumes nothing.
use Rattle.std.proofs.Common.{◌≡◌, ℕ, ◌-◌, ◌^◌, ◌<◌, ◌≤◌, true, false, cond, ltb, length, get_or, Some, None, Option, option_and_then, sym, refl, ap, ◌∙◌, subst, arith}
use Rattle.std.proofs.lemmas.List.{get_or_default}
use Rattle.std.proofs.lemmas.Bool.{ltb-true, ltb-false}
use Rattle.std.specs.List.{slice_get}
use Rattle.writer.specs.declared.heads.Head.{Head}
use Rattle.writer.specs.declared.heads.Head.TheVariants as head
use Rattle.writer.specs.Heads.{headed}
use Rattle.closure_tables.specs.declared.positions.Spot.{Spot}
use Rattle.closure_tables.specs.declared.rows.Argument.{Argument}
use Rattle.closure_tables.specs.declared.rows.Cell.{Cell}
use Rattle.closure_tables.specs.declared.rows.Cell.TheVariants as cell
use Rattle.closure_tables.specs.declared.rows.Entry.{Entry}
use Rattle.closure_tables.specs.Tables.{blank_argument, blank_entry, Tables}
use Rattle.closure_tables.specs.Presented.{height, chain_in}
use Rattle.closure_tables.specs.Positions.{spine_number, spot_number, closure_spot, body_spot, last_depth, term_inside, term_on_spine, term_at}
use Rattle.closure_tables.proofs.Kept.{Kept, kept}
use Rattle.closure_tables.proofs.Spots as spots
use Rattle.closure_tables.proofs.Spots.{At, at_read}
use Rattle.closure_tables.proofs.Spines as spines
use Rattle.closure_view.specs.declared.views.View.{View}
use Rattle.closure_view.specs.Views.{tables_of}
use Rattle.closure_view.specs.Links.{linked}
use Rattle.closure_view.specs.Heads.{link_index, cell_head}
use Rattle.closure_view.specs.Looks.{standing_at, Shows, ShowsOnSpine}
use Rattle.closure_view.proofs.Chains.{linked_is}

-- a spot of a node and a chain that there are
pub record Held (v : View) (s : Spot) : Type 0 where
  pub node : s.node < length v.cells.now
  pub depth : s.depth < 65536
  pub chain : height s.chain ≤ length v.entries.now

held_kept : (v : View) (s : Spot) → Held v s → Kept (tables_of v)
held_kept v s h = kept (tables_of v) (omega (arith, h.node)) v.kept

-- the cell at a spot, as it is read
held_at : (v : View) (s : Spot) (d : Cell) (n : ℕ) → n ≡ s.node → Held v s → At (tables_of v) s (get_or v.cells.now n d)
held_at v s d n is h = at_read (tables_of v) s (get_or v.cells.now n d) d h.node h.chain (ap (λ m. get_or v.cells.now m d) (sym is))

-- cells that nothing fills

module _ (t : Tables) (k : Kept t) (few : length t.entries < 2 ^ 31) (s : Spot) (deep : s.depth < 65536) where
  function_head : At t s cell.Function → term_inside t s ≡ option_and_then (headed (term_at t)) (cell_head s cell.Function)
  function_head at =
      elim (ltb s.depth last_depth) as (λ b. ltb s.depth last_depth ≡ b → term_inside t s ≡ option_and_then (headed (term_at t)) (cond b (Some (head.Function (spot_number (body_spot s)))) None)) [
        | true ↦ λ e. spots.function_looks t k s few (ltb-true _ _ e) at
        | false ↦ λ e. spots.deepest_looks t k s (ltb-false _ _ e) at
      ] refl

  cell_looks : (x : Cell) → At t s x → link_index s.depth x ≡ None → term_inside t s ≡ option_and_then (headed (term_at t)) (cell_head s x)
  cell_looks (cell.Application r) at none = spots.application_looks t k s r few deep at
  cell_looks cell.Function at none = function_head at
  cell_looks (cell.Place j) at none =
      elim (ltb j s.depth) as (λ b. ltb j s.depth ≡ b → cond b None (Some (j - s.depth)) ≡ None → term_inside t s ≡ headed (term_at t) (head.Place j)) [
        | true ↦ λ e q. spots.place_looks t k s j at (ltb-true _ _ e)
        | false ↦ λ e q. cc
      ] refl none
  cell_looks (cell.Ingredient i) at none = spots.ingredient_looks t k s i at

pub leads_here :
    (v : View) (from s : Spot) (d : Cell) (n : ℕ) → n ≡ s.node → term_inside (tables_of v) from ≡ term_inside (tables_of v) s → Held v s →
    link_index s.depth (get_or v.cells.now n d) ≡ None → Shows v from (cell_head s (get_or v.cells.now n d))
leads_here v from s d n is same h none =
    same ∙ cell_looks (tables_of v) (held_kept v s h) v.few s h.depth (get_or v.cells.now n d) (held_at v s d n is h) none

-- a place to be filled

record Unfilled (d : ℕ) (x : Cell) (i : ℕ) : Type 0 where
  index : ℕ
  cell : x ≡ cell.Place index
  free : d ≤ index
  link : i ≡ index - d

unfilled : (d : ℕ) (x : Cell) (i : ℕ) → link_index d x ≡ Some i → Unfilled d x i
unfilled d (cell.Application r) i e = cc
unfilled d cell.Function i e = cc
unfilled d (cell.Place j) i e =
    elim (ltb j d) as (λ b. ltb j d ≡ b → cond b None (Some (j - d)) ≡ Some i → Unfilled d (cell.Place j) i) [
      | true ↦ λ t q. cc
      | false ↦ λ t q. let same : j - d ≡ i = cc in record { index = j; cell = refl; free = ltb-false _ _ t; link = sym same }
    ] refl e
unfilled d (cell.Ingredient n) i e = cc

-- spot r has a lower chain than spot s, and the same term stands there
pub record Filler (v : View) (s r : Spot) : Type 0 where
  pub held : Held v r
  pub lower : height r.chain < height s.chain
  pub same : term_inside (tables_of v) s ≡ term_inside (tables_of v) r

module _ (v : View) (s : Spot) (h : Held v s) where
  abbrev entry_at : ℕ → Option ℕ
  entry_at i = slice_get (chain_in v.entries.now s.chain) i

  found_at : (i : ℕ) (o : Option ℕ) → linked v.entries.now s.chain i ≡ o → entry_at i ≡ o
  found_at i o found = sym (linked_is (tables_of v) (held_kept v s h) s.chain i h.chain) ∙ found

  pub entry_held : (i e : ℕ) → linked v.entries.now s.chain i ≡ Some e → e < length v.entries.now
  entry_held i e found = (spots.filled_lower (tables_of v) (held_kept v s h) s i e h.chain (found_at i (Some e) found)).entry

  pub free_shows :
      (d : Cell) (n i : ℕ) → n ≡ s.node → link_index s.depth (get_or v.cells.now n d) ≡ Some i → linked v.entries.now s.chain i ≡ None → term_inside (tables_of v) s ≡ None
  free_shows d n i is index none =
      let u = unfilled s.depth (get_or v.cells.now n d) i index in
      let at = subst (At (tables_of v) s) u.cell (held_at v s d n is h) in
      spots.free_looks (tables_of v) (held_kept v s h) s u.index at u.free (ap entry_at (sym u.link) ∙ found_at i None none)

  -- what fills a place
  pub fills :
      (d : Cell) (n i e : ℕ) (f : Entry) (r : Spot) → n ≡ s.node → link_index s.depth (get_or v.cells.now n d) ≡ Some i → linked v.entries.now s.chain i ≡ Some e →
      r ≡ closure_spot (get_or v.entries.now e f).argument → Filler v s r
  fills d n i e f r is-node index found next =
      let t = tables_of v in
      let k = held_kept v s h in
      let u = unfilled s.depth (get_or v.cells.now n d) i index in
      let at = subst (At t s) u.cell (held_at v s d n is-node h) in
      let here = found_at i (Some e) found in
      let lower = spots.filled_lower t k s i e h.chain here in
      let is : r ≡ closure_spot (get_or t.entries e blank_entry).argument = next ∙ ap (λ y. closure_spot y.argument) (get_or_default t.entries e f blank_entry lower.entry) in
      let node = ap (λ y. y.node) is in
      let chain = ap (λ y. height y.chain) is in
      record {
        held = record { node = omega (arith, lower.node, node); depth = omega (arith, ap (λ y. y.depth) is); chain = omega (arith, lower.chain, chain, h.chain) };
        lower = omega (arith, lower.chain, chain);
        same = spots.filled_looks t k s u.index e at u.free (ap entry_at (sym u.link) ∙ here) ∙ ap (term_inside t) (sym is);
      }

-- the spine

pub hand_shows : (v : View) (k : ℕ) (s : Spot) (x : Option Head) → k ≡ 0 → s ≡ closure_spot v.hand → Shows v s x → ShowsOnSpine v k x
hand_shows v k s x none here shows =
    ap (term_on_spine (tables_of v)) none ∙ spines.spine_hand (tables_of v) v.kept ∙ ap (term_inside (tables_of v)) (sym here) ∙ shows

module _ (v : View) (k : ℕ) (a : Argument) (some : 0 < k) (few : k ≤ length v.stack.now) (read : a ≡ get_or v.stack.now (length v.stack.now - k) a) where
  -- the last of the k nearest arguments
  last_is : a ≡ get_or v.stack.now (length v.stack.now - k) blank_argument
  last_is = read ∙ get_or_default v.stack.now (length v.stack.now - k) a blank_argument (omega arith)

  pub last_chain : 0 < length v.cells.now → height a.chain < 2 ^ 31
  last_chain stands =
      let inside = spines.taken_inside (tables_of v) (kept (tables_of v) stands v.kept) k some few in
      omega (arith, inside.chain, ap (λ y. height y.chain) last_is, v.few)

  pub last_shows : ShowsOnSpine v k (Some (head.Application (spine_number (k - 1)) (spot_number (closure_spot a))))
  last_shows =
      spines.spine_looks (tables_of v) k v.kept v.few some few
      ∙ ap (λ y. headed (standing_at v) (head.Application (spine_number (k - 1)) (spot_number (closure_spot y)))) (sym last_is)
