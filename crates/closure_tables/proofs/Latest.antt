-- A list with its latest element first. Assumes nothing.
use Rattle.std.proofs.Common.{◌≡◌, ℕ, zero, suc, ◌+◌, ◌<◌, Bool, true, eqb, List, [], ◌∷◌, ◌++◌, map, reverse, length, get_or, sym, refl, ap, ◌∙◌, add-zero, zero-add, arith, eq-eqb}
use mathlib.Core.List.{reverse_aux, reverse-append}
use lib.ListN.{length-map, length-reverse}
use Rattle.std.proofs.lemmas.Bool.{and_parts, cond-true}
use Rattle.abstract_machine.specs.Pieces.{numbered}
use Rattle.abstract_machine.proofs.Plugging.{numbered_behind}
use Rattle.closure_tables.specs.Valid.{each}

pub latest_push : {X Y : Type 0} (f : X → Y) (xs : List X) (x : X) → map f (reverse (xs ++ x ∷ [])) ≡ f x ∷ map f (reverse xs)
latest_push f xs x = ap (map f) (reverse-append xs (x ∷ []))

pub length_latest : {X Y : Type 0} (f : X → Y) (xs : List X) → length (map f (reverse xs)) ≡ length xs
length_latest f xs = length-map (reverse xs) f ∙ length-reverse xs

same_onto :
    {X Y : Type 0} (f g : X → Y) (test : ℕ → X → Bool) (n : ℕ) (xs acc : List X) → each test n xs ≡ true → ((k : ℕ) (x : X) → test k x ≡ true → f x ≡ g x) →
    map f acc ≡ map g acc → map f (reverse_aux xs acc) ≡ map g (reverse_aux xs acc)
same_onto f g test n [] acc e same onto = onto
same_onto f g test n (x ∷ xs) acc e same onto =
    let p = and_parts (test n x) (each test (suc n) xs) e in
    let one : f x ≡ g x = same n x p.0 in
    let more : map f (x ∷ acc) ≡ map g (x ∷ acc) = cc in
    same_onto f g test (suc n) xs (x ∷ acc) p.1 same more

-- two functions that agree on each element
pub latest_same :
    {X Y : Type 0} (f g : X → Y) (test : ℕ → X → Bool) (xs : List X) → each test 0 xs ≡ true → ((k : ℕ) (x : X) → test k x ≡ true → f x ≡ g x) →
    map f (reverse xs) ≡ map g (reverse xs)
latest_same f g test xs e same = same_onto f g test 0 xs [] e same refl

numbered_below : {X Y : Type 0} (f : X → Y) (d : Y) (xs acc : List X) (k : ℕ) → k < length acc → numbered d (map f (reverse_aux xs acc)) k ≡ numbered d (map f acc) k
numbered_below f d [] acc k h = refl
numbered_below f d (x ∷ xs) acc k h =
    let long = length-map acc f in
    numbered_below f d xs (x ∷ acc) k (omega arith) ∙ numbered_behind d (f x) (map f acc) k (omega arith)

numbered_onto : {X Y : Type 0} (f : X → Y) (d : Y) (b : X) (xs acc : List X) (j : ℕ) → j < length xs → numbered d (map f (reverse_aux xs acc)) (length acc + j) ≡ f (get_or xs j b)
numbered_onto f d b [] acc j h = absurd (omega arith)
numbered_onto f d b (x ∷ xs) acc zero h =
    let long = length-map acc f in
    ap (numbered d (map f (reverse_aux xs (x ∷ acc)))) (add-zero (length acc))
    ∙ numbered_below f d xs (x ∷ acc) (length acc) (omega arith)
    ∙ cond-true (eqb (length acc) (length (map f acc))) (f x) (numbered d (map f acc) (length acc)) (eq-eqb _ _ (sym long))
numbered_onto f d b (x ∷ xs) acc (suc j) h =
    let same : length acc + suc j ≡ suc (length acc) + j = omega arith in
    ap (numbered d (map f (reverse_aux xs (x ∷ acc)))) same ∙ numbered_onto f d b xs (x ∷ acc) j (omega arith)

-- the element of a number
pub numbered_latest : {X Y : Type 0} (f : X → Y) (d : Y) (b : X) (xs : List X) (j : ℕ) → j < length xs → numbered d (map f (reverse xs)) j ≡ f (get_or xs j b)
numbered_latest f d b xs j h = ap (numbered d (map f (reverse xs))) (sym (zero-add j)) ∙ numbered_onto f d b xs [] j h
