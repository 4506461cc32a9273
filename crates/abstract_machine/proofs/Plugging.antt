-- Laws of pieces: what opening a function does to a piece, and plugging terms into it. Assumes nothing.
use Rattle.std.proofs.Common.{◌≡◌, ℕ, suc, ◌<◌, ◌≤◌, max, true, false, cond, eqb, List, [], ◌∷◌, length, sym, refl, ap, ◌∙◌, arith, eq-eqb, ne_eqb}
use borrow.Author.Tests.{eqb-false}
use Rattle.std.proofs.lemmas.Bool.{cond-true, cond-false}
use Rattle.term.specs.Terms as term
use Rattle.term.specs.Terms.{Term, Covered, Closed, fill, size}
use Rattle.term.proofs.Reduces.{fill_others, covered_more}
use Rattle.abstract_machine.specs.Pieces.{Piece, place, ingredient, function, application, filled, unfilled, weight, reach, outer, opened, numbered, plugged}

pub weight_opened : (i j : ℕ) (p : Piece) → weight (opened i j p) ≡ weight p
weight_opened i j (place k) =
    elim (eqb k i) as (λ b. weight (cond b (filled j) (place k)) ≡ 1) [ true ↦ refl | false ↦ refl ]
weight_opened i j (ingredient n) = refl
weight_opened i j (function p) = ap suc (weight_opened (suc i) j p)
weight_opened i j (application p q) = omega (arith, weight_opened i j p, weight_opened i j q)
weight_opened i j (filled n) = refl

pub reach_opened : (i j : ℕ) (p : Piece) → reach (opened i j p) ≤ max (reach p) (suc j)
reach_opened i j (place k) =
    elim (eqb k i) as (λ b. reach (cond b (filled j) (place k)) ≤ max 0 (suc j)) [ true ↦ omega arith | false ↦ omega arith ]
reach_opened i j (ingredient n) = omega arith
reach_opened i j (function p) = reach_opened (suc i) j p
reach_opened i j (application p q) = omega (arith, reach_opened i j p, reach_opened i j q)
reach_opened i j (filled n) = omega arith

pub outer_opened : (i j : ℕ) (p : Piece) → outer p ≤ suc i → outer (opened i j p) ≤ i
outer_opened i j (place k) h =
    elim (eqb k i) as (λ b. eqb k i ≡ b → outer (cond b (filled j) (place k)) ≤ i) [ true ↦ λ e. omega arith | false ↦ λ e. omega (arith, eqb-false k i e) ] refl
outer_opened i j (ingredient n) h = omega arith
outer_opened i j (function p) h = omega (arith, outer_opened (suc i) j p (omega arith))
outer_opened i j (application p q) h =
    omega (arith, outer_opened i j p (omega arith), outer_opened i j q (omega arith))
outer_opened i j (filled n) h = omega arith

pub weight_some : (p : Piece) → 1 ≤ weight p
weight_some (place k) = omega arith
weight_some (ingredient i) = omega arith
weight_some (function p) = omega arith
weight_some (application p q) = omega arith
weight_some (filled j) = omega arith

-- a term as a piece

pub weight_unfilled : (t : Term) → weight (unfilled t) ≡ size t
weight_unfilled (term.place k) = refl
weight_unfilled (term.ingredient i) = refl
weight_unfilled (term.function t) = ap suc (weight_unfilled t)
weight_unfilled (term.application t u) = omega (arith, weight_unfilled t, weight_unfilled u)

pub reach_unfilled : (t : Term) → reach (unfilled t) ≡ 0
reach_unfilled (term.place k) = refl
reach_unfilled (term.ingredient i) = refl
reach_unfilled (term.function t) = reach_unfilled t
reach_unfilled (term.application t u) = omega (arith, reach_unfilled t, reach_unfilled u)

pub outer_unfilled : (d : ℕ) (t : Term) → Covered d t → outer (unfilled t) ≤ d
outer_unfilled d (term.place k) c = c
outer_unfilled d (term.ingredient i) c = omega arith
outer_unfilled d (term.function t) c = omega (arith, outer_unfilled (suc d) t c)
outer_unfilled d (term.application t u) c =
    omega (arith, outer_unfilled d t c.0, outer_unfilled d u c.1)

pub plugged_unfilled : (ts : List Term) (t : Term) → plugged ts (unfilled t) ≡ t
plugged_unfilled ts (term.place k) = refl
plugged_unfilled ts (term.ingredient i) = refl
plugged_unfilled ts (term.function t) = ap term.function (plugged_unfilled ts t)
plugged_unfilled ts (term.application t u) =
    let left = plugged_unfilled ts t in
    let right = plugged_unfilled ts u in
    cc

-- plugging closed terms

abbrev pub AllClosed : List Term → Type 0
AllClosed [] = Unit {0}
AllClosed (t ∷ ts) = Closed t × AllClosed ts

pub numbered_closed : (ts : List Term) (j : ℕ) → AllClosed ts → Closed (numbered (term.ingredient 0) ts j)
numbered_closed [] j c = tt
numbered_closed (t ∷ ts) j c =
    elim (eqb j (length ts)) as (λ b. Closed (cond b t (numbered (term.ingredient 0) ts j))) [ true ↦ c.0 | false ↦ numbered_closed ts j c.1 ]

pub plugged_covered : (d : ℕ) (ts : List Term) (p : Piece) → AllClosed ts → outer p ≤ d → Covered d (plugged ts p)
plugged_covered d ts (place k) c h = h
plugged_covered d ts (ingredient i) c h = tt
plugged_covered d ts (function p) c h = plugged_covered (suc d) ts p c (omega arith)
plugged_covered d ts (application p q) c h =
    (plugged_covered d ts p c (omega arith), plugged_covered d ts q c (omega arith))
plugged_covered d ts (filled j) c h =
    covered_more (numbered (term.ingredient 0) ts j) 0 d (omega arith) (numbered_closed ts j c)

-- an element in front changes none behind it
pub numbered_behind : {X : Type 0} (d x : X) (xs : List X) (j : ℕ) → j < length xs → numbered d (x ∷ xs) j ≡ numbered d xs j
numbered_behind d x xs j h =
    let apart : j ≡ length xs → ⊥ = omega arith in
    cond-false (eqb j (length xs)) x (numbered d xs j) (ne_eqb j (length xs) apart)

-- entries that come later leave a piece alone
pub plugged_weaker : (u : Term) (ts : List Term) (p : Piece) → reach p ≤ length ts → plugged (u ∷ ts) p ≡ plugged ts p
plugged_weaker u ts (place k) h = refl
plugged_weaker u ts (ingredient i) h = refl
plugged_weaker u ts (function p) h = ap term.function (plugged_weaker u ts p h)
plugged_weaker u ts (application p q) h =
    let left = plugged_weaker u ts p (omega arith) in
    let right = plugged_weaker u ts q (omega arith) in
    cc
plugged_weaker u ts (filled j) h = numbered_behind (term.ingredient 0) u ts j h

-- opening, then plugging, is plugging, then filling
pub plugged_opened :
    (i : ℕ) (u : Term) (ts : List Term) (p : Piece) →
    AllClosed ts →
    reach p ≤ length ts →
    plugged (u ∷ ts) (opened i (length ts) p) ≡ fill i u (plugged ts p)
plugged_opened i u ts (place k) c h =
    elim (eqb k i) as (λ b. plugged (u ∷ ts) (cond b (filled (length ts)) (place k)) ≡ cond b u (term.place k)) [ true ↦ cond-true (eqb (length ts) (length ts)) u (numbered (term.ingredient 0) ts (length ts)) (eq-eqb (length ts) (length ts) refl) | false ↦ refl ]
plugged_opened i u ts (ingredient n) c h = refl
plugged_opened i u ts (function p) c h = ap term.function (plugged_opened (suc i) u ts p c h)
plugged_opened i u ts (application p q) c h =
    let left = plugged_opened i u ts p c (omega arith) in
    let right = plugged_opened i u ts q c (omega arith) in
    cc
plugged_opened i u ts (filled j) c h =
    let t = numbered (term.ingredient 0) ts j in
    numbered_behind (term.ingredient 0) u ts j h
    ∙ sym (fill_others i u t (covered_more t 0 i (omega arith) (numbered_closed ts j c)))
