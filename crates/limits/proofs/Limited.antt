-- The limits follow from the lines. Assumes nothing.
use Rattle.std.proofs.Common.{◌≡◌, ℕ, suc, ◌*◌, ◌^◌, ◌<◌, ◌≤◌, Bool, true, false, cond, ltb, leb, List, length, Some, Ok, refl, subst, mul-le-mul_left, mul-suc, arith}
use Rattle.term.specs.Terms.{Term, size, most_nodes}
use Rattle.machine.specs.declared.transitions.Transition.{Transition}
use Rattle.machine.specs.declared.transitions.Transition.TheVariants.{Beta, Substitution, Search}
use Rattle.machine.specs.declared.outcomes.Table.{Table}
use Rattle.machine.specs.declared.outcomes.Table.TheVariants.{Stack, Entries, Nodes}
use Rattle.machine.specs.declared.outcomes.Outcome.TheVariants.{Made, Done, Full}
use Rattle.machine.specs.Meanings.{Places, Due, transition, done, Standing, Meaning, SoundStanding}
use Rattle.machine.specs.Rules.{outcome_of, outcome_due}
use Rattle.limits.specs.Counts.{count_of, most_work}
use Rattle.limits.specs.Runs.{Run}
use Rattle.limits.specs.Limits.{Lines, SubstitutionFits, Limits, LimitsOfRuns}
use Rattle.limits.proofs.Triangular.{work_countable}
use Rattle.limits.proofs.Runs.{run_sound, Kept, kept}

-- where a term stands, what is due says the outcome
pub outcome_standing : (m : Meaning) (s : Standing) → m.standing ≡ Some s → outcome_due m ≡ Ok (outcome_of m.free s.price s.due)
outcome_standing m s e = rw e

-- only what is done comes to `Done`
never_done : (b : Bool) (k : Transition) (t : Table) (d : Due) → cond b (Made k) (Full t) ≡ Done → d ≡ done
never_done true k t d e = cc
never_done false k t d e = cc

only_done : (p : Places) (price : ℕ) (d : Due) → outcome_of p price d ≡ Done → d ≡ done
only_done p price done e = refl
only_done p price (transition Beta) e = never_done (ltb 0 p.entries) Beta Entries (transition Beta) e
only_done p price (transition Substitution) e = never_done (leb price p.nodes) Substitution Nodes (transition Substitution) e
only_done p price (transition Search) e = never_done (ltb 0 p.stack) Search Stack (transition Search) e

substitution_fits : (ks : List Transition) (m : Meaning) (s : Standing) → SoundStanding s → Lines ks m s → 0 < s.reach → SubstitutionFits ks m s
substitution_fits ks m s o l h =
    let work : s.loaded * suc (suc (count_of Substitution ks)) ≤ most_work s.loaded s.betas = mul-le-mul_left s.loaded (omega arith) in
    let more = mul-suc s.loaded (suc (count_of Substitution ks)) in
    record { substitutions = omega arith; transitions = omega arith; nodes = omega arith }

limits_from : (t : Term) (ks : List Transition) (m : Meaning) (h : Kept t ks m) → SoundStanding h.now → Limits t ks m h.now
limits_from t ks m h o =
    let s = h.now in
    let l = h.lines in
    let work : s.loaded * suc (count_of Substitution ks) ≤ most_work s.loaded s.betas = mul-le-mul_left s.loaded (omega arith) in
    record {
      loaded = h.loaded;
      reached = h.reached;
      done_normal = λ e. o.done_normal (only_done m.free s.price s.due (let out = outcome_standing m s h.stands in cc));
      substitutions = omega arith;
      transitions = omega arith;
      nodes = omega arith;
      stack = omega arith;
      beta_due = λ d. omega (arith, o.beta_weighs d);
      substitution_due = λ d. substitution_fits ks m s o l (o.substitution_reaches d);
      search_due = λ d. record { transitions = omega (arith, o.search_weighs d); stack = omega arith };
    }

module _ (t : Term) (ks : List Transition) (m : Meaning) where
  stands : Run t ks m → (s : Standing) × (m.standing ≡ Some s)
  stands r = ((kept t ks m r).now, (kept t ks m r).stands)

  pub lines : (s : Standing) → Run t ks m → m.standing ≡ Some s → Lines ks m s
  lines s r e =
      let h = kept t ks m r in
      let same : h.now ≡ s = cc in
      subst (λ x. Lines ks m x) same h.lines

  pub limits : (s : Standing) → Run t ks m → m.standing ≡ Some s → Limits t ks m s
  limits s r e =
      let h = kept t ks m r in
      let same : h.now ≡ s = cc in
      subst (λ x. Limits t ks m x) same (limits_from t ks m h ((run_sound t ks m r).standing h.now h.stands))

  countable : Run t ks m → size t ≤ most_nodes → length ks < 2 ^ 52
  countable r small =
      let (s, e) = stands r in
      let l = lines s r e in
      let i = limits s r e in
      let o = run_sound t ks m r in
      omega (arith, work_countable s.loaded s.betas (omega arith) (omega arith))

pub limits_of_runs : LimitsOfRuns
limits_of_runs = record { stands = stands; lines = lines; limits = limits; countable = countable }
