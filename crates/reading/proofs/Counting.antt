-- A counter that is handed a term's nodes has counted the term. Assumes nothing.
use Rattle.std.proofs.Common.{◌≡◌, ℕ, suc, ◌+◌, ◌≤◌, min, true, false, cond, eqb, List, Ok, fold, sym, refl, ap, ◌∙◌, arith}
use Rattle.std.proofs.iter.runs.Lists.{fold-append}
use Rattle.term.specs.Terms.{Term, place, ingredient, function, application, size, occurrences}
use Rattle.code.specs.Scans.{Slot, root, left_of, right_of, body_of, handed_over}
use Rattle.code.specs.Verdicts.{Verdict, accepted, refused, verdict, told}
use Rattle.code.specs.Layouts.{layout}
use Rattle.code.specs.Law.{ReadingLaw}
use Rattle.reading.specs.declared.counter.Counter.{Counter}
use Rattle.reading.specs.Counters.{after_node}
use Rattle.reading.specs.Counts.{occurring}

abbrev counter : ℕ → ℕ → Counter
counter i k = record { ingredient = i; found = k }

-- a term has as many nodes at least as hold an ingredient
occurrences_le : (i : ℕ) (t : Term) → occurrences i t ≤ size t
occurrences_le i (place k) = omega arith
occurrences_le i (ingredient j) = elim (eqb j i) as (λ b. cond b 1 0 ≤ 1) [ true ↦ omega arith | false ↦ omega arith ]
occurrences_le i (function t) = omega (arith, occurrences_le i t)
occurrences_le i (application t u) = omega (arith, occurrences_le i t, occurrences_le i u)

-- while the number fits
counts_term : (i k n : ℕ) (s : Slot) (t : Term) → k + size t ≤ 65535 → fold after_node (counter i k) (layout n s t) ≡ counter i (k + occurrences i t)
counts_term i k n s (place j) h = ap (counter i) (omega arith)
counts_term i k n s (ingredient j) h =
    elim (eqb j i) as (λ b. counter i (cond b (min (k + 1) 65535) k) ≡ counter i (k + cond b 1 0)) [ true ↦ ap (counter i) (omega arith) | false ↦ ap (counter i) (omega arith) ]
counts_term i k n s (function t) h = counts_term i k (suc n) (body_of n s) t (omega arith)
counts_term i k n s (application t u) h =
    let sum : k + occurrences i t + occurrences i u ≡ k + (occurrences i t + occurrences i u) = omega arith in
    fold-append after_node (counter i k) (layout (suc n) (left_of n s) t) (layout (suc n + size t) (right_of n s) u)
    ∙ ap (λ c. fold after_node c (layout (suc n + size t) (right_of n s) u)) (counts_term i k (suc n) (left_of n s) t (omega arith))
    ∙ counts_term i (k + occurrences i t) (suc n + size t) (right_of n s) u (omega (arith, occurrences_le i t))
    ∙ ap (counter i) sum

-- what a counter that begins at 0 finds in an accepted code
pub found : (bs : List ℕ) (n : ℕ) (start end : Counter) → start.found ≡ 0 → Ok n ≡ told (verdict bs) → ReadingLaw bs → end ≡ fold after_node start (handed_over bs) → Ok end.found ≡ occurring start.ingredient (verdict bs)
found bs n start end zero ok law is = go (verdict bs) refl
  where
    i : ℕ
    i = start.ingredient

    go : (v : Verdict) → verdict bs ≡ v → Ok end.found ≡ occurring start.ingredient (verdict bs)
    go (accepted t) e =
        let small = ((law.accepts_exactly t).0 e).1.small in
        let none : 0 + occurrences i t ≡ occurrences i t = omega arith in
        let all = is ∙ (λ x. fold after_node (counter i (zero x)) (law.laid_out t e x)) ∙ counts_term i 0 0 root t (omega arith) ∙ ap (counter i) none in
        ap (λ c. Ok c.found) all ∙ sym (ap (occurring i) e)
    go (refused f) e = cc (ok ∙ ap told e)
