-- A start brings the lines about, and the rule of each kind keeps them. Assumes nothing.
use Rattle.std.proofs.Common.{◌≡◌, ℕ, suc, ◌*◌, List, [], ◌∷◌, refl, ap, mul-one, mul-suc, arith}
use Rattle.term.specs.Terms.{Term, size}
use Rattle.machine.specs.declared.transitions.Transition.{Transition}
use Rattle.machine.specs.declared.transitions.Transition.TheVariants.{Beta, Substitution, Search}
use Rattle.machine.specs.Meanings.{Places, Standing, Meaning, SoundStanding}
use Rattle.machine.specs.Rules.{Stands, Rule}
use Rattle.limits.specs.Counts.{count_of}
use Rattle.limits.specs.Limits.{Lines}

record Same (p q : Places) : Type 0 where
  stack : p.stack ≡ q.stack
  entries : p.entries ≡ q.entries
  nodes : p.nodes ≡ q.nodes

-- in numbers, as `omega` takes it
same : (p q : Places) → p ≡ q → Same p q
same p q e = record { stack = cc; entries = cc; nodes = cc }

pub start_lines : (t : Term) (m n : Meaning) (e : Stands t m n) → Lines [] n e.to
start_lines t m n e =
    let free = same _ _ e.free in
    let capacity = same _ _ e.capacity in
    let loaded = ap (λ (x : ℕ). x * 1) e.loaded in
    let one = mul-one (size t) in
    record {
      total = refl;
      betas = omega arith;
      entries = omega arith;
      stack = omega arith;
      reach = omega arith;
      weight = omega arith;
      nodes = omega arith;
    }

pub rule_lines :
    (k : Transition) (ks : List Transition) (m n : Meaning) (s s' : Standing) →
    n.capacity ≡ m.capacity → s'.loaded ≡ s.loaded → SoundStanding s → Lines ks m s → Rule k m.free s n.free s' → Lines (k ∷ ks) n s'
rule_lines Beta ks m n s s' ce le o l r =
    let capacity = same _ _ ce in
    let loaded = ap (λ (x : ℕ). x * suc (count_of Substitution ks)) le in
    record {
      total = omega arith;
      betas = omega arith;
      entries = omega arith;
      stack = omega arith;
      reach = rw r.betas (omega arith);
      weight = omega arith;
      nodes = omega arith;
    }
rule_lines Substitution ks m n s s' ce le o l r =
    let capacity = same _ _ ce in
    let loaded = ap (λ (x : ℕ). x * suc (suc (count_of Substitution ks))) le in
    let more = mul-suc s.loaded (suc (count_of Substitution ks)) in
    record {
      total = omega arith;
      betas = omega arith;
      entries = omega arith;
      stack = omega arith;
      reach = rw r.betas (omega arith);
      weight = omega arith;
      nodes = omega arith;
    }
rule_lines Search ks m n s s' ce le o l r =
    let capacity = same _ _ ce in
    let loaded = ap (λ (x : ℕ). x * suc (count_of Substitution ks)) le in
    record {
      total = omega arith;
      betas = omega arith;
      entries = omega arith;
      stack = omega arith;
      reach = rw r.betas (omega arith);
      weight = omega arith;
      nodes = omega arith;
    }
