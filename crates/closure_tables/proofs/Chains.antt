-- Chains of entries. Assumes nothing.
use Rattle.std.proofs.Common.{◌≡◌, ℕ, zero, suc, ◌<◌, ◌≤◌, List, ◌∷◌, get_or, Some, None, Option, refl, ap, ◌∙◌, arith}
use Rattle.std.proofs.lemmas.Bool.Decides.{nat_tests}
use Rattle.std.specs.List.{slice_get}
use Rattle.closure_tables.specs.declared.rows.Entry.{Entry}
use Rattle.closure_tables.specs.Tables.{blank_entry}
use Rattle.closure_tables.specs.Presented.{height, chain_of, chain_in}

-- each of the first b entries goes on with an earlier one
abbrev pub Falling : List Entry → ℕ → Type 0
Falling es b = (k : ℕ) → k < b → height (get_or es k blank_entry).next ≤ k

-- the first b entries of two lists are the same
abbrev pub Same : List Entry → List Entry → ℕ → Type 0
Same es fs b = (k : ℕ) → k < b → get_or es k blank_entry ≡ get_or fs k blank_entry

-- a chain depends on the entries below its height alone, and its height is fuel enough
pub chain_agree : (m n : ℕ) (es fs : List Entry) (c : Option ℕ) → height c ≤ m → height c ≤ n → Falling es (height c) → Same es fs (height c) → chain_of m es c ≡ chain_of n fs c
chain_agree zero zero es fs c hm hn fall same = refl
chain_agree zero (suc n) es fs None hm hn fall same = refl
chain_agree zero (suc n) es fs (Some e) hm hn fall same = absurd (omega arith)
chain_agree (suc m) zero es fs None hm hn fall same = refl
chain_agree (suc m) zero es fs (Some e) hm hn fall same = absurd (omega arith)
chain_agree (suc m) (suc n) es fs None hm hn fall same = refl
chain_agree (suc m) (suc n) es fs (Some e) hm hn fall same =
    let c = (get_or es e blank_entry).next in
    let low : height c ≤ e = fall e (omega arith) in
    let rest : chain_of m es c ≡ chain_of n fs c
    = chain_agree m n es fs c (omega arith) (omega arith) (λ k h. fall k (omega arith)) (λ k h. same k (omega arith)) in
    let is : get_or es e blank_entry ≡ get_or fs e blank_entry = same e (omega arith) in
    ap (λ r. e ∷ r) (rest ∙ ap (λ x. chain_of n fs x.next) is)

-- the chain that begins at entry e
pub chain_cons : (es : List Entry) (e : ℕ) → Falling es (suc e) → chain_in es (Some e) ≡ e ∷ chain_in es (get_or es e blank_entry).next
chain_cons es e fall = grind (arith, nat_tests, chain_agree)

-- no entry of a chain is at its height or above
pub chain_low : (n : ℕ) (es : List Entry) (c : Option ℕ) (k e : ℕ) → Falling es (height c) → slice_get (chain_of n es c) k ≡ Some e → e < height c
chain_low zero es c k e fall is = cc
chain_low (suc n) es None k e fall is = cc
chain_low (suc n) es (Some f) zero e fall is = let same : f ≡ e = cc in omega arith
chain_low (suc n) es (Some f) (suc k) e fall is =
    let c = (get_or es f blank_entry).next in
    let low : height c ≤ f = fall f (omega arith) in
    omega (arith, chain_low n es c k e (λ j h. fall j (omega arith)) is)
