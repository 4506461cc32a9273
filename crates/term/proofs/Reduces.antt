-- The laws of weak head reduction. Assumes nothing.
use Rattle.std.proofs.Common.{◌≡◌, ℕ, suc, ◌≤◌, true, false, cond, eqb, ◌⊎◌, refl, ap, subst, inl, inr, arith, eq-eqb, ne_eqb}
use borrow.Author.Tests.{eqb-false}
use Rattle.std.proofs.lemmas.Bool.{cond-true, cond-false}
use Rattle.term.specs.Terms.{Term, place, ingredient, function, application, Covered, Closed, fill}
use Rattle.term.specs.Reduction.{Step, beta, left, Steps, none, more, Neutral, bare, applied, Normal, abstraction, neutral, FillsItsPlace, TakesInTurn, AtMostOneStep, NormalOrSteps, StepKeepsClosed}

fill_own : (i : ℕ) (u : Term) → fill i u (place i) ≡ u
fill_own i u = cond-true (eqb i i) u (place i) (eq-eqb i i refl)

pub fill_others : (i : ℕ) (u t : Term) → Covered i t → fill i u t ≡ t
fill_others i u (place k) c = let apart : k ≡ i → ⊥ = omega arith in cond-false (eqb k i) u (place k) (ne_eqb k i apart)
fill_others i u (ingredient j) c = refl
fill_others i u (function t) c = ap function (fill_others (suc i) u t c)
fill_others i u (application t v) c =
    let left = fill_others i u t c.0 in
    let right = fill_others i u v c.1 in
    cc

pub fills_its_place : FillsItsPlace
fills_its_place = record { own = fill_own; others = fill_others }

pub takes_in_turn : TakesInTurn
takes_in_turn a b = more (left beta) (more beta none)

function_stays : {t u : Term} → Step (function t) u → ⊥
function_stays s = elim s [ ]

at_most_one : (t u v : Term) → Step t u → Step t v → u ≡ v
at_most_one t u v beta beta = refl
at_most_one t u v beta (left q) = absurd (function_stays q)
at_most_one t u v (left p) beta = absurd (function_stays p)
at_most_one _ _ _ (left {t = a} {t' = b} {u = u} p) (left {t' = c} q) = ap (λ x. application x u) (at_most_one a b c p q)

steps_agree : (n : ℕ) (t u v : Term) → Steps n t u → Steps n t v → u ≡ v
steps_agree _ t _ _ none none = refl
steps_agree _ t u v (more {n = n} {u = a} p ps) (more {u = b} q qs) =
    steps_agree n b u v (subst (λ x. Steps n x u) (at_most_one t a b p q) ps) qs

pub at_most_one_step : AtMostOneStep
at_most_one_step = record { one = at_most_one; many = steps_agree }

neutral_stays : (t u : Term) → Neutral t → Step t u → ⊥
neutral_stays t u bare s = elim s [ ]
neutral_stays t u (applied n) beta = elim n [ ]
neutral_stays t u (applied {t = a} n) (left {t' = b} s) = neutral_stays a b n s

normal_stays : (t u : Term) → Normal t → Step t u → ⊥
normal_stays t u abstraction s = function_stays s
normal_stays t u (neutral n) s = neutral_stays t u n s

either : (t : Term) → Closed t → Normal t ⊎ ((u : Term) × Step t u)
either (place k) c = absurd (omega arith)
either (ingredient i) c = inl (neutral bare)
either (function t) c = inl abstraction
either (application t u) c = applies t u (either t c.0)
  where
    applies : (t u : Term) → Normal t ⊎ ((v : Term) × Step t v) → Normal (application t u) ⊎ ((v : Term) × Step (application t u) v)
    applies t u (inl abstraction) = inr (_, beta)
    applies t u (inl (neutral n)) = inl (neutral (applied n))
    applies t u (inr (v, s)) = inr (application v u, left s)

pub normal_or_steps : NormalOrSteps
normal_or_steps = record { either = either; never_both = normal_stays }

-- what d functions cover, more do
pub covered_more : (t : Term) (d e : ℕ) → d ≤ e → Covered d t → Covered e t
covered_more (place k) d e h c = omega arith
covered_more (ingredient i) d e h c = tt
covered_more (function t) d e h c = covered_more t (suc d) (suc e) (omega arith) c
covered_more (application t u) d e h c = (covered_more t d e h c.0, covered_more u d e h c.1)

-- t with a closed term for its outermost place needs one function less
fill_covered : (t u : Term) (i : ℕ) → Closed u → Covered (suc i) t → Covered i (fill i u t)
fill_covered (place k) u i cu c =
    elim (eqb k i) as (λ b. eqb k i ≡ b → Covered i (cond b u (place k))) [ true ↦ λ e. covered_more u 0 i (omega arith) cu | false ↦ λ e. omega (arith, eqb-false k i e) ] refl
fill_covered (ingredient j) u i cu c = tt
fill_covered (function t) u i cu c = fill_covered t u (suc i) cu c
fill_covered (application t v) u i cu c = (fill_covered t u i cu c.0, fill_covered v u i cu c.1)

keeps_closed : (t u : Term) → Closed t → Step t u → Closed u
keeps_closed _ _ c (beta {t = t} {u = u}) = fill_covered t u 0 c.1 c.0
keeps_closed _ _ c (left {t = t} {t' = v} s) = (keeps_closed t v c.0 s, c.1)

steps_keep_closed : (n : ℕ) (t u : Term) → Closed t → Steps n t u → Closed u
steps_keep_closed _ t u c none = c
steps_keep_closed _ t u c (more {n = n} {u = v} s ss) = steps_keep_closed n v u (keeps_closed t v c s) ss

pub step_keeps_closed : StepKeepsClosed
step_keeps_closed = record { one = keeps_closed; many = steps_keep_closed }
