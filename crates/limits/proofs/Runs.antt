-- What an induction over runs gives. Assumes nothing.
use Rattle.std.proofs.Common.{◌≡◌, ℕ, Bool, true, false, cond, leb, List, [], ◌∷◌, ◌++◌, Some, None, Ok, Err, Option, Result, refl, ◌∙◌, subst, arith}
use Rattle.term.specs.Terms.{Term, size}
use Rattle.term.specs.Reduction.{Steps, none}
use Rattle.code.specs.Verdicts.{Verdict, verdict, accepted, refused, told}
use Rattle.machine.specs.declared.faults.MachineFault.{MachineFault}
use Rattle.machine.specs.declared.faults.MachineFault.TheVariants as refusal
use Rattle.machine.specs.declared.transitions.Transition.{Transition}
use Rattle.machine.specs.declared.transitions.Transition.TheVariants.{Beta, Substitution, Search}
use Rattle.machine.specs.Meanings.{Standing, Meaning, Sound}
use Rattle.machine.specs.Rules.{sized, AfterStart, Rule, Moved}
use Rattle.limits.specs.Runs.{Run, started, stepped, Moves, unmoved, moved, RunsGrow}
use Rattle.limits.specs.Limits.{Lines}
use Rattle.limits.proofs.Chains.{one_more}
use Rattle.limits.proofs.Rules.{start_lines, rule_lines}

pub run_sound : (t : Term) (ks : List Transition) (m : Meaning) → Run t ks m → Sound m
run_sound t _ m (started v a o) = o
run_sound t _ m (stepped r a o) = o

pub record Kept (t : Term) (ks : List Transition) (m : Meaning) : Type 0 where
  pub now : Standing
  pub stands : m.standing ≡ Some now
  pub lines : Lines ks m now
  pub loaded : now.loaded ≡ size t
  pub reached : Steps now.betas t now.term

rule_reaches :
    (k : Transition) (m n : Meaning) (t : Term) (s s' : Standing) → Steps s.betas t s.term → Rule k m.free s n.free s' → Steps s'.betas t s'.term
rule_reaches Beta m n t s s' c r = rw r.betas (one_more s.betas t s.term s'.term c r.term)
rule_reaches Substitution m n t s s' c r = rw (r.betas, r.term) c
rule_reaches Search m n t s s' c r = rw (r.betas, r.term) c

step_keeps : (t : Term) (k : Transition) (ks : List Transition) (m n : Meaning) → Sound m → Moved k m n → Kept t ks m → Kept t (k ∷ ks) n
step_keeps t k ks m n o e h =
    let same : h.now ≡ e.from = cc in
    record {
      now = e.to;
      stands = e.stands;
      lines = rule_lines k ks m n e.from e.to e.capacity e.loaded (o.standing e.from e.stood) (subst (λ s. Lines ks m s) same h.lines) e.rule;
      loaded = cc;
      reached = rule_reaches k m n t e.from e.to (subst (λ (s : Standing). Steps s.betas t s.term) same h.reached) e.rule;
    }

pub kept : (t : Term) (ks : List Transition) (m : Meaning) → Run t ks m → Kept t ks m
kept t _ _ (started {m = m} {n = n} v a o) =
    let e = a.effect t v in
    record {
      now = e.to;
      stands = e.stands;
      lines = start_lines t m n e;
      loaded = e.loaded;
      reached = rw (e.betas, e.term) none;
    }
kept t _ _ (stepped {ks = ks} {k = k} {m = m} {n = n} r a o) = step_keeps t k ks m n (run_sound t ks m r) a.effect (kept t ks m r)

-- a start that answers a size accepted a term of that size
answered : (s c : ℕ) (x : Option Standing) (v : Verdict) → ◌≡◌ {A = Result ℕ MachineFault} (Ok s) (elim x [ Some y ↦ Err refusal.Standing | None ↦ sized c (told v) ]) → (t : Term) × (v ≡ accepted t) × (size t ≡ s)
answered s c (Some y) v e = let z : ◌≡◌ {A = ℕ} 0 1 = cc in absurd (omega arith)
answered s c None (refused f) e = let z : ◌≡◌ {A = ℕ} 0 1 = cc in absurd (omega arith)
answered s c None (accepted t) e = (t, refl, fits (leb (size t) c) e)
  where
    fits : (b : Bool) → Ok s ≡ cond b (Ok (size t)) (Err refusal.TooLarge) → size t ≡ s
    fits true e = cc
    fits false e = cc

begins : (bs : List ℕ) (s : ℕ) (m n : Meaning) → AfterStart bs m (Ok s) n → Sound n → (t : Term) × (verdict bs ≡ accepted t) × (size t ≡ s) × Run t [] n
begins bs s m n a o =
    let (t, v, e) = answered s m.capacity.nodes m.standing (verdict bs) a.answer in
    (t, v, e, started v a o)

goes_on : (t : Term) (ks js : List Transition) (m n : Meaning) → Run t ks m → Moves m js n → Run t (js ++ ks) n
goes_on t ks _ m _ r unmoved = r
goes_on t ks _ m _ r (moved {ks = js} {n = n} w a o) = stepped (goes_on t ks js m n r w) a o

keeps_capacity : (js : List Transition) (m n : Meaning) → Moves m js n → n.capacity ≡ m.capacity
keeps_capacity _ m _ unmoved = refl
keeps_capacity _ m _ (moved {ks = js} {n = n} w a o) = a.effect.capacity ∙ keeps_capacity js m n w

pub runs_grow : RunsGrow
runs_grow = record { begins = begins; goes_on = goes_on; capacity = keeps_capacity }
