-- What a push leaves of the right sides that wait. Assumes nothing.
use Rattle.std.proofs.Common.{◌≡◌, ℕ, zero, suc, ◌+◌, ◌<◌, ◌≤◌, ◌≢◌, List, ◌∷◌, length, set, refl, add-one, arith, get_or-set_other, get_or-set_same}
use Rattle.reading.specs.RightSides.{rows}

rows_set : (ns ds : List ℕ) (j a d k : ℕ) → k ≤ j → rows (set ns j a) (set ds j d) k ≡ rows ns ds k
rows_set ns ds j a d zero h = refl
rows_set ns ds j a d (suc k) h =
    let ne : k ≢ j = omega arith in
    let here = get_or-set_other ns j k a 0 ne in
    let there = get_or-set_other ds j k d 0 ne in
    let below = rows_set ns ds j a d k (omega arith) in
    cc

pub rows_pushed : (ns ds : List ℕ) (k a d : ℕ) → k < length ns → k < length ds → rows (set ns k a) (set ds k d) (k + 1) ≡ record { application = a; depth = d } ∷ rows ns ds k
rows_pushed ns ds k a d in_ns in_ds =
    rw (add-one, get_or-set_same ns k a 0 in_ns, get_or-set_same ds k d 0 in_ds, rows_set ns ds k a d k (omega arith)) refl
