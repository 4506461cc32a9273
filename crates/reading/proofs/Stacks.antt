-- What a write to the table of binders leaves. Assumes nothing.
use Rattle.std.proofs.Common.{◌≡◌, ℕ, zero, suc, ◌+◌, ◌-◌, ◌<◌, ◌≤◌, ◌≢◌, List, [], ◌∷◌, length, get_or, set, refl, ap, ◌∙◌, add-one, arith, get_or-set_other, get_or-set_same}
use Rattle.reading.specs.declared.right_sides.RightSide.{RightSide}
use Rattle.reading.specs.Frontiers.{around, stacked, Falling}

pub length_around : (bs : List ℕ) (d : ℕ) → length (around bs d) ≡ d
length_around bs zero = refl
length_around bs (suc d) = ap suc (length_around bs d)

pub getD_around : (bs : List ℕ) (d k : ℕ) → k < d → get_or (around bs d) k 0 ≡ get_or bs (d - 1 - k) 0
getD_around bs zero k h = absurd (omega arith)
getD_around bs (suc d) zero h = ap (λ i. get_or bs i 0) (omega arith)
getD_around bs (suc d) (suc k) h = getD_around bs d k (omega arith) ∙ ap (λ i. get_or bs i 0) (omega arith)

around_set : (bs : List ℕ) (e v d : ℕ) → d ≤ e → around (set bs e v) d ≡ around bs d
around_set bs e v zero h = refl
around_set bs e v (suc d) h =
    let ne : d ≢ e = omega arith in
    let here = get_or-set_other bs e d v 0 ne in
    let below = around_set bs e v d (omega arith) in
    cc

-- the functions around the body of a function under d others, whose number the table has taken
pub around_body : (bs : List ℕ) (n d : ℕ) → d < length bs → around (set bs d n) (d + 1) ≡ n ∷ around bs d
around_body bs n d h = rw (add-one, get_or-set_same bs d n 0 h, around_set bs d n d (omega arith)) refl

pub falling_weaker : (d e : ℕ) (rs : List RightSide) → d ≤ e → Falling d rs → Falling e rs
falling_weaker d e [] h f = tt
falling_weaker d e (r ∷ rs) h f = (omega arith, f.1)

-- a function's number stands above what the right sides name
pub stacked_set : (bs : List ℕ) (e v d : ℕ) (rs : List RightSide) → d ≤ e → Falling d rs → stacked (set bs e v) rs ≡ stacked bs rs
stacked_set bs e v d [] h f = refl
stacked_set bs e v d (r ∷ rs) h f =
    let here = around_set bs e v r.depth (omega arith) in
    let below = stacked_set bs e v r.depth rs (omega arith) f.1 in
    cc
