-- The code of a recipe is made of bytes. Assumes nothing.
use Rattle.std.proofs.Common.{ℕ, zero, suc, ◌/◌, ◌%◌, ◌<◌, ◌≤◌, List, [], ◌∷◌, ◌++◌, arith}
use Rattle.term.specs.Terms.{Term, place, ingredient, function, application, code, Recipe, most_nested}
use Rattle.code.specs.Verdicts.{Bytes}
use Rattle.code.proofs.Lists.{Fit}

in_front : (x : ℕ) (xs : List ℕ) → x < 256 → Bytes xs → Bytes (x ∷ xs)
in_front x xs h b zero = h
in_front x xs h b (suc k) = b k

together : (xs ys : List ℕ) → Bytes xs → Bytes ys → Bytes (xs ++ ys)
together [] ys a b = b
together (x ∷ xs) ys a b = in_front x (xs ++ ys) (a 0) (together xs ys (λ k. a (suc k)) b)

nothing : Bytes []
nothing zero = omega arith
nothing (suc k) = omega arith

fit_bytes : (d : ℕ) (t : Term) → d ≤ most_nested → Fit d t → Bytes (code t)
fit_bytes d (place k) h f = let c = f.covered in in_front 3 (k ∷ []) (omega arith) (in_front k [] (omega arith) nothing)
fit_bytes d (ingredient i) h f =
    let c = f.stocked in in_front 4 (i / 256 ∷ i % 256 ∷ []) (omega arith) (in_front (i / 256) (i % 256 ∷ []) (omega arith) (in_front (i % 256) [] (omega arith) nothing))
fit_bytes d (function t) h f =
    in_front 2 (code t) (omega arith) (fit_bytes (suc d) t (omega (arith, f.shallow)) (record { covered = f.covered; shallow = omega (arith, f.shallow); stocked = f.stocked }))
fit_bytes d (application t u) h f =
    let left = fit_bytes d t h (record { covered = f.covered.0; shallow = omega (arith, f.shallow); stocked = f.stocked.0 }) in
    let right = fit_bytes d u h (record { covered = f.covered.1; shallow = omega (arith, f.shallow); stocked = f.stocked.1 }) in
    in_front 1 (code t ++ code u) (omega arith) (together (code t) (code u) left right)

pub code_bytes : (t : Term) → Recipe t → Bytes (code t)
code_bytes t r = fit_bytes 0 t (omega arith) (record { covered = r.closed; shallow = r.shallow; stocked = r.stocked })
