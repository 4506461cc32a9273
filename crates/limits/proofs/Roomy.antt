-- A term that is some steps from a normal form, and the places that are enough for it. Assumes nothing.
use Rattle.std.proofs.Common.{◌≡◌, ℕ, ◌<◌, ◌≤◌, List, Some, Ok, refl, ap, ◌∙◌, inl, inr, arith, lt-ltb, le-leb}
use Rattle.std.proofs.lemmas.Bool.{cond-true}
use Rattle.term.specs.Terms.{Term, size}
use Rattle.term.specs.Reduction.{Steps, Normal}
use Rattle.machine.specs.declared.transitions.Transition.{Transition}
use Rattle.machine.specs.declared.transitions.Transition.TheVariants.{Beta, Substitution, Search}
use Rattle.machine.specs.Meanings.{Due, transition, done, Standing, Meaning, SoundStanding}
use Rattle.machine.specs.Rules.{outcome_of, outcome_due}
use Rattle.limits.specs.Counts.{most_work}
use Rattle.limits.specs.Limits.{Limits, Enough, NotFull, EnoughPlaces}
use Rattle.limits.proofs.Triangular.{work_more}
use Rattle.limits.proofs.Chains.{at_most, fewer}
use Rattle.limits.proofs.Runs.{run_sound, Kept, kept}
use Rattle.limits.proofs.Limited.{outcome_standing, limits}

-- no table is full where each has places for the transition due
not_full :
    (m : Meaning) (s : Standing) → m.standing ≡ Some s → (s.due ≡ transition Beta → 0 < m.free.entries) →
    (s.due ≡ transition Substitution → s.price ≤ m.free.nodes) → (s.due ≡ transition Search → 0 < m.free.stack) → NotFull m
not_full m s e beta substitution search-room = by_due s.due refl
  where
    comes_to : (d : Due) → s.due ≡ d → outcome_due m ≡ Ok (outcome_of m.free s.price d)
    comes_to d q = outcome_standing m s e ∙ ap (λ x. Ok (outcome_of m.free s.price x)) q

    by_due : (d : Due) → s.due ≡ d → NotFull m
    by_due done q = inl (comes_to done q)
    by_due (transition Beta) q = inr (Beta, comes_to (transition Beta) q ∙ ap Ok (cond-true _ _ _ (lt-ltb _ _ (beta q))))
    by_due (transition Substitution) q = inr (Substitution, comes_to (transition Substitution) q ∙ ap Ok (cond-true _ _ _ (le-leb _ _ (substitution q))))
    by_due (transition Search) q = inr (Search, comes_to (transition Search) q ∙ ap Ok (cond-true _ _ _ (lt-ltb _ _ (search-room q))))

module _ (t u : Term) (n : ℕ) (ks : List Transition) (m : Meaning) (c : Steps n t u) (normal : Normal u) (h : Kept t ks m) where
  within : h.now.betas ≤ n
  within = at_most h.now.betas n t h.now.term u h.reached c normal

  work_within : most_work h.now.loaded h.now.betas ≤ most_work (size t) n
  work_within = rw h.loaded (work_more (size t) h.now.betas n within)

  never_full : SoundStanding h.now → Limits t ks m h.now → Enough t n m.capacity → NotFull m
  never_full o i enough =
      let s = h.now in
      let l = h.lines in
      let work = work_within in
      not_full m s h.stands
      (λ d. omega (arith, fewer s.betas n t s.term (o.beta_steps d).0 u h.reached (o.beta_steps d).1 c normal))
      (λ d. omega (arith, (i.substitution_due d).nodes))
      (λ d. omega (arith, (i.search_due d).stack))

pub enough_places : EnoughPlaces
enough_places t u n ks m c normal r =
    let h = kept t ks m r in
    let i = limits t ks m h.now r h.stands in
    record {
      betas = omega (arith, h.lines.betas, within t u n ks m c normal h);
      transitions = omega (arith, i.transitions, work_within t u n ks m c normal h);
      never_full = never_full t u n ks m c normal h ((run_sound t ks m r).standing h.now h.stands) i;
    }
