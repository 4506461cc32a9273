-- How often a kind occurs. Assumes nothing.
use Rattle.std.proofs.Common.{◌≡◌, suc, ◌+◌, true, false, cond, eqb, List, [], ◌∷◌, ◌++◌, arith}
use Rattle.machine.specs.declared.transitions.Transition.{Transition}
use Rattle.machine.specs.Outcomes.{transition_number}
use Rattle.limits.specs.Counts.{count_of}

pub count_append : (k : Transition) (js ks : List Transition) → count_of k (js ++ ks) ≡ count_of k js + count_of k ks
count_append k [] ks = omega arith
count_append k (j ∷ js) ks =
    let rest = count_append k js ks in
    elim (eqb (transition_number j) (transition_number k)) as (λ b. cond b (suc (count_of k (js ++ ks))) (count_of k (js ++ ks)) ≡ cond b (suc (count_of k js)) (count_of k js) + count_of k ks) [ true ↦ omega arith | false ↦ omega arith ]
