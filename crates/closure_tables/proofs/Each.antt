-- A test of each element of a list. Assumes nothing.
use Rattle.std.proofs.Common.{◌≡◌, ℕ, zero, suc, ◌+◌, ◌<◌, Bool, true, List, [], ◌∷◌, ◌++◌, length, get_or, sym, refl, subst, add-zero, arith}
use Rattle.std.proofs.lemmas.Bool.Decides.{nat_tests}
use Rattle.std.proofs.lemmas.Bool.{and_parts, and_from}
use Rattle.closure_tables.specs.Valid.{each}

pub each_at : {X : Type 0} (test : ℕ → X → Bool) (n : ℕ) (xs : List X) (k : ℕ) (d : X) → each test n xs ≡ true → k < length xs → test (n + k) (get_or xs k d) ≡ true
each_at test n [] k d e h = absurd (omega arith)
each_at test n (x ∷ xs) zero d e h = subst (λ m. test m x ≡ true) (sym (add-zero n)) (and_parts _ _ e).0
each_at test n (x ∷ xs) (suc k) d e h =
    let same : suc n + k ≡ n + suc k = omega arith in
    subst (λ m. test m (get_or xs k d) ≡ true) same (each_at test (suc n) xs k d (and_parts _ _ e).1 (omega arith))

-- from number 0
pub each_here : {X : Type 0} (test : ℕ → X → Bool) (xs : List X) (k : ℕ) (d : X) → each test 0 xs ≡ true → k < length xs → test k (get_or xs k d) ≡ true
each_here test xs k d e h = grind (arith, nat_tests, each_at)

pub each_push : {X : Type 0} (test : ℕ → X → Bool) (n : ℕ) (xs : List X) (x : X) → each test n xs ≡ true → test (n + length xs) x ≡ true → each test n (xs ++ x ∷ []) ≡ true
each_push test n [] x e h = and_from _ _ (subst (λ m. test m x ≡ true) (add-zero n) h) refl
each_push test n (y ∷ xs) x e h =
    let same : n + suc (length xs) ≡ suc n + length xs = omega arith in
    and_from _ _ (and_parts _ _ e).0 (each_push test (suc n) xs x (and_parts _ _ e).1 (subst (λ m. test m x ≡ true) same h))

pub each_append : {X : Type 0} (test : ℕ → X → Bool) (n : ℕ) (xs ys : List X) → each test n xs ≡ true → each test (n + length xs) ys ≡ true → each test n (xs ++ ys) ≡ true
each_append test n [] ys e f = subst (λ m. each test m ys ≡ true) (add-zero n) f
each_append test n (x ∷ xs) ys e f =
    let same : n + suc (length xs) ≡ suc n + length xs = omega arith in
    and_from _ _ (and_parts _ _ e).0 (each_append test (suc n) xs ys (and_parts _ _ e).1 (subst (λ m. each test m ys ≡ true) same f))

pub each_front : {X : Type 0} (test : ℕ → X → Bool) (n : ℕ) (xs ys : List X) → each test n (xs ++ ys) ≡ true → each test n xs ≡ true
each_front test n [] ys e = refl
each_front test n (x ∷ xs) ys e = and_from _ _ (and_parts _ _ e).0 (each_front test (suc n) xs ys (and_parts _ _ e).1)

-- a weaker test, for the numbers that there are
pub each_weaker :
    {X : Type 0} (test other : ℕ → X → Bool) (n : ℕ) (xs : List X) → ((k : ℕ) (x : X) → k < n + length xs → test k x ≡ true → other k x ≡ true) →
    each test n xs ≡ true → each other n xs ≡ true
each_weaker test other n [] w e = refl
each_weaker test other n (x ∷ xs) w e =
    and_from _ _ (w n x (omega arith) (and_parts _ _ e).0)
    (each_weaker test other (suc n) xs (λ k y h. w k y (omega arith)) (and_parts _ _ e).1)
