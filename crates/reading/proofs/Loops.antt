-- What the loop of the reading keeps. Assumes nothing.
use Rattle.std.proofs.Common.{Result, ◌≡◌, ℕ, suc, ◌+◌, ◌-◌, ◌<◌, ◌≤◌, List, [], ◌∷◌, length, drop, Some, Ok, Err, fold, Option, sym, ap, ◌∙◌, subst, subst₂, arith, length-drop}
use Rattle.node.specs.declared.nodes.Node.{Node}
use Rattle.node.specs.declared.nodes.Misspelling.{Misspelling}
use Rattle.node.specs.declared.nodes.Located.{Located}
use Rattle.node.specs.declared.faults.Fault.{Fault}
use Rattle.term.specs.Terms.{most_nodes}
use Rattle.node.specs.Spell.{spelling_of, width_of}
use Rattle.node.specs.Checks.{Fitting, judged}
use Rattle.code.specs.Scans.{Slot, Scan, root, located, parts_of, next, scan, reading}
use Rattle.code.proofs.Turns.{judged_ok, onward, goes_on, stops, spells, spelled_width}
use Rattle.reading.specs.declared.frontier.Frontier.{Frontier}
use Rattle.reading.specs.declared.frontier.Opening.{Opening}
use Rattle.reading.specs.RightSides.{rows}
use Rattle.reading.specs.Frontiers.{slot_at, slot_of, stacked, waiting, upcoming, Falling, Nested, Opened}
use Rattle.reading.proofs.Stacks.{length_around}

-- what is left to read
abbrev pub rest_of : ℕ → ℕ → List Slot → List ℕ → Scan
rest_of end n ss bs = scan end (most_nodes - n) n ss bs

-- where a node stands that fills an opening
module _ (bs : List ℕ) {n : ℕ} (o : Opening) {node : Node} {l : Located} (is : l ≡ located n (slot_of bs o) node) where
  pub located_depth : l.depth ≡ o.depth
  located_depth = ap (λ x. x.depth) is ∙ length_around bs o.depth

  pub located_fits : Fitting o.depth node → Fitting l.depth l.node
  located_fits = subst₂ Fitting (sym located_depth) (sym (ap (λ x. x.node) is))

  located_parts : (ss : List Slot) → parts_of l.number (slot_at bs l.part l.depth) l.node ss ≡ parts_of n (slot_of bs o) node ss
  located_parts ss = (λ i. parts_of (is i).number (slot_at bs (is i).part (located_depth i)) (is i).node ss)

-- what is known of a node that passed the checks at the front of bs
pub record Passed (n d : ℕ) (bs : List ℕ) (node : Node) : Type 0 where
  pub room : n < most_nodes
  pub fitting : Fitting d node
  pub wide : width_of node ≤ length bs

pub passed : (end at n d : ℕ) (sp : Result Node Misspelling) (bs : List ℕ) (node : Node) → sp ≡ spelling_of bs → Ok node ≡ judged end at n d sp → Passed n d bs node
passed end at n d sp bs node spelt e =
    let ok = judged_ok end at n d sp node (sym e) in
    record { room = ok.room; fitting = ok.fitting; wide = spelled_width bs node (spells bs node (sym spelt ∙ ok.spelled)) }

module _ {H : Type 0} (more : H → Located → H) where
  -- what is left to read ends the reading as its code does, and brings the receiver to the same state
  pub record Underway (code : List ℕ) (start : H) (n : ℕ) (nearest : Option Opening) (f : Frontier) (bs : List ℕ) (now : H) : Type 0 where
    pub few : f.right_sides.count ≤ n
    pub nested : Nested nearest f
    pub small : n ≤ most_nodes
    pub left : length bs ≤ length code
    pub ended : (rest_of (length code) n (upcoming nearest f) bs).ended ≡ (reading code).ended
    pub held : fold more now (rest_of (length code) n (upcoming nearest f) bs).handed ≡ fold more start (reading code).handed

  -- before the first node
  pub begins : (code : List ℕ) (start : H) (f : Frontier) (o : Opening) → f.right_sides.count ≡ 0 → slot_of f.binders o ≡ root → Underway code start 0 (Some o) f code start
  unfolding reading
  begins code start f o none whole =
      let first : upcoming (Some o) f ≡ root ∷ [] = λ i. whole i ∷ stacked f.binders (rows f.right_sides.applications f.right_sides.depths (none i)) in
      record {
        few = omega arith;
        nested = subst (λ k. Falling o.depth (rows f.right_sides.applications f.right_sides.depths k)) (sym none) tt;
        small = omega arith;
        left = omega arith;
        ended = ap (λ ss. (rest_of (length code) 0 ss code).ended) first;
        held = ap (λ ss. fold more start (rest_of (length code) 0 ss code).handed) first;
      }

  pub nearest_is : {code : List ℕ} {start : H} {n : ℕ} {r s : Option Opening} {f : Frontier} {bs : List ℕ} {now : H} → r ≡ s → Underway code start n r f bs now → Underway code start n s f bs now
  nearest_is {code} {start} {n} {r} {s} {f} {bs} {now} is = subst (λ x. Underway code start n x f bs now) is

  module _ {code : List ℕ} {start : H} {n : ℕ} {f : Frontier} {bs : List ℕ} {now : H} {o : Opening} {sp : Result Node Misspelling} (u : Underway code start n (Some o) f bs now) (spelt : sp ≡ spelling_of bs) where
    -- the checks at the nearest opening
    next_here : next (length code) n (slot_of f.binders o) bs ≡ judged (length code) (length code - length bs) n o.depth sp
    next_here = λ i. judged (length code) (length code - length bs) n (length_around f.binders o.depth i) (sym spelt i)

    -- a node that passes is handed over
    pub turned : {g : Frontier} {r : Option Opening} {rest : List ℕ} {then : H} (node : Node) (l : Located) → Ok node ≡ judged (length code) (length code - length bs) n o.depth sp → l ≡ located n (slot_of f.binders o) node → Opened f g l r → rest ≡ drop (width_of node) bs → then ≡ more now l → Underway code start (n + 1) r g rest then
    turned {g} {r} {rest} {then} node l e is opened dropped put =
        let s = slot_of f.binders o in
        let ok = passed _ _ n o.depth sp bs node spelt e in
        let room : most_nodes - n ≡ suc (most_nodes - (n + 1)) = omega (arith, ok.room) in
        let up : suc n ≡ n + 1 = omega arith in
        let after = rest_of (length code) (n + 1) (upcoming r g) rest in
        let parts = opened.slots ∙ located_parts f.binders o is (waiting f) in
        let on : onward (length code) (most_nodes - (n + 1)) n s (waiting f) bs node ≡ after = λ i. scan (length code) (most_nodes - (n + 1)) (up i) (sym parts i) (sym dropped i) in
        let here : rest_of (length code) n (s ∷ waiting f) bs ≡ record { handed = located n s node ∷ after.handed; ended = after.ended } = ap (λ m. scan (length code) m n (s ∷ waiting f) bs) room ∙ goes_on (length code) (most_nodes - (n + 1)) n s (waiting f) bs node (next_here ∙ sym e) ∙ ap (λ (z : Scan). record { handed = located n s node ∷ z.handed; ended = z.ended }) on in
        record {
          few = omega (arith, u.few, opened.count);
          nested = opened.nested;
          small = omega (arith, ok.room);
          left = rw dropped (simp length-drop (omega (arith, u.left)));
          ended = sym (ap (λ z. z.ended) here) ∙ u.ended;
          held = ap (λ x. fold more x after.handed) (put ∙ ap (more now) is) ∙ sym (ap (λ z. fold more now z.handed) here) ∙ u.held;
        }

    -- a fault ends the reading
    pub stopped : (x : Fault) → Err x ≡ judged (length code) (length code - length bs) n o.depth sp → (Err x ≡ (reading code).ended) × (now ≡ fold more start (reading code).handed)
    stopped x e =
        let here = stops (length code) (most_nodes - n) n (slot_of f.binders o) (waiting f) bs x (next_here ∙ sym e) in
        (sym (ap (λ z. z.ended) here) ∙ u.ended, sym (ap (λ z. fold more now z.handed) here) ∙ u.held)
