-- The promises on damaged codes. Assumes nothing.
use Rattle.std.proofs.Common.{◌≡◌, ℕ, ◌+◌, ◌-◌, ◌⊎◌, List, [], ◌∷◌, ◌++◌, length, Ok, Err, Result, sym, refl, ap, ◌∙◌, subst, inl, inr, arith, length-append}
use Rattle.std.proofs.lemmas.Bool.Decides.{nat_tests}
use Rattle.std.proofs.lemmas.Bool.{cases_eq}
use Rattle.node.specs.declared.faults.Fault.{Fault}
use Rattle.node.specs.declared.faults.Fault.TheVariants.{Missing, Leftover}
use Rattle.node.specs.Faults.{number_of}
use Rattle.term.specs.Terms.{code, most_nodes}
use Rattle.code.specs.Scans.{root, scan, reading}
use Rattle.code.specs.Verdicts.{accepted, refused, verdict}
use Rattle.code.specs.Damage.{FirstFault, CutShort, LeftOver}
use Rattle.code.proofs.Longer.{Firm, carry, carried, extends, MissingAtEnd, missing_at_end}
use Rattle.code.proofs.Exact.{verdict_ok, verdict_err, reads_back}

-- the reading of a code that goes on
reading_more : (bs more : List ℕ) → Firm (reading bs).ended → reading (bs ++ more) ≡ carried (length bs + length more) more (reading bs)
unfolding reading
reading_more bs more firm =
    ap (λ end. scan end most_nodes 0 (root ∷ []) (bs ++ more)) (length-append bs more) ∙ extends (length bs) most_nodes 0 (root ∷ []) bs more firm

refused_ended : (bs : List ℕ) (f : Fault) → verdict bs ≡ refused f → (reading bs).ended ≡ Err f
refused_ended bs f h = go (reading bs).ended refl
  where
    go : (r : Result ℕ Fault) → (reading bs).ended ≡ r → (reading bs).ended ≡ Err f
    go (Ok k) e = cc (verdict_ok bs k e)
    go (Err g) e = let same = sym (verdict_err bs g e) ∙ h in let is : g ≡ f = cc in e ∙ ap Err is

pub first_fault : (bs : List ℕ) → FirstFault bs
first_fault bs f h firm more = grind (arith, nat_tests, refused_ended, reading_more, verdict_err)

-- a code that is accepted has bytes left over where it goes on
accepted_more : (bs : List ℕ) (k b : ℕ) (more : List ℕ) → (reading bs).ended ≡ Ok k → verdict (bs ++ b ∷ more) ≡ refused (Leftover (length bs))
accepted_more bs k b more e =
    let end = length bs + length (b ∷ more) in
    let place : end - length (b ∷ more) ≡ length bs = omega arith in
    let longer = reading_more bs (b ∷ more) (subst Firm (sym e) tt) in
    verdict_err (bs ++ b ∷ more) (Leftover (length bs)) (ap (λ z. z.ended) longer ∙ ap (carry end (b ∷ more)) e ∙ ap (λ at. Err (Leftover at)) place)

pub left_over : LeftOver
left_over t r b more = go (reading (code t)).ended refl
  where
    go : (z : Result ℕ Fault) → (reading (code t)).ended ≡ z → verdict (code t ++ b ∷ more) ≡ refused (Leftover (length (code t)))
    go (Ok k) e = accepted_more (code t) k b more e
    go (Err f) e = cc (verdict_err (code t) f e, reads_back t r)

reading_missing : (bs : List ℕ) → MissingAtEnd (length bs) (reading bs).ended
unfolding reading
reading_missing bs = missing_at_end (length bs) most_nodes 0 (root ∷ []) bs

pub cut_short : CutShort
cut_short t r bs b more is = go (reading bs).ended refl
  where
    whole : verdict (bs ++ b ∷ more) ≡ accepted t
    whole = ap verdict (sym is) ∙ reads_back t r

    lacking : (f : Fault) → (reading bs).ended ≡ Err f → (number_of f ≡ 1) ⊎ (number_of f ≡ 1 → ⊥) → verdict bs ≡ refused (Missing (length bs))
    lacking f e (inl one) = verdict_err bs f e ∙ ap refused (subst (MissingAtEnd (length bs)) e (reading_missing bs) one)
    lacking f e (inr firm) = cc ((first_fault bs f (verdict_err bs f e) firm (b ∷ more)).0, whole)

    go : (z : Result ℕ Fault) → (reading bs).ended ≡ z → verdict bs ≡ refused (Missing (length bs))
    go (Ok k) e = cc (accepted_more bs k b more e, whole)
    go (Err f) e = lacking f e (cases_eq (number_of f) 1)
