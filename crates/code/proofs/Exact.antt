-- The promises of the reading. Assumes nothing.
use Rattle.std.proofs.Common.{◌≡◌, ℕ, suc, ◌+◌, List, [], ◌∷◌, ◌++◌, length, Ok, Err, Result, sym, refl, ap, ◌∙◌, subst, append_assoc, append-nil, arith}
use Rattle.std.proofs.lemmas.Bool.Decides.{nat_tests}
use Rattle.node.specs.declared.nodes.Node.TheVariants.{Application, Function}
use Rattle.node.specs.declared.nodes.Located.{Located}
use Rattle.node.specs.declared.faults.Fault.{Fault}
use Rattle.term.specs.Terms.{Term, place, ingredient, function, application, size, code, Recipe, most_nodes}
use Rattle.code.specs.Scans.{Slot, root, left_of, right_of, body_of, scan, reading}
use Rattle.code.specs.Verdicts.{accepted, refused, joined_to, terms, first, judgement, verdict, told, Bytes, AcceptsExactly, RoundTrip}
use Rattle.code.specs.Layouts.{layout, LaidOut}
use Rattle.code.proofs.Lists.{Fits}
use Rattle.code.proofs.Bytes.{code_bytes}
use Rattle.code.proofs.Accepted.{Sound, sound}
use Rattle.code.proofs.Recipes.{complete}

-- a term that is laid out is made up again
laid_term : (n : ℕ) (s : Slot) (t : Term) (ls : List Located) → terms (layout n s t ++ ls) ≡ t ∷ terms ls
laid_term n s (place k) ls = refl
laid_term n s (ingredient i) ls = refl
laid_term n s (function t) ls = ap (joined_to Function) (laid_term (suc n) (body_of n s) t ls)
laid_term n s (application t u) ls =
    ap (λ l. joined_to Application (terms l)) (append_assoc (layout (suc n) (left_of n s) t) (layout (suc n + size t) (right_of n s) u) ls)
    ∙ ap (joined_to Application) (laid_term (suc n) (left_of n s) t _ ∙ ap (λ l. t ∷ l) (laid_term (suc n + size t) (right_of n s) u ls))

-- how the code of a recipe is read
recipe_read : (t : Term) → Recipe t → reading (code t) ≡ record { handed = layout 0 root t; ended = Ok (size t) }
unfolding reading
recipe_read t r =
    let fits : Fits (root ∷ []) (t ∷ []) = (record { covered = r.closed; shallow = r.shallow; stocked = r.stocked }, tt) in
    ap (scan (length (code t)) most_nodes 0 (root ∷ [])) (sym (append-nil (code t)))
    ∙ complete (length (code t)) most_nodes 0 (root ∷ []) (t ∷ []) refl fits (omega (arith, r.small))
    ∙ (λ i. record { handed = append-nil (layout 0 root t) i; ended = Ok (size_alone i) })
  where
    size_alone : 0 + (size t + 0) ≡ size t
    size_alone = omega arith

pub reads_back : (t : Term) → Recipe t → verdict (code t) ≡ accepted t
unfolding verdict
reads_back t r =
    ap judgement (recipe_read t r) ∙ ap (λ l. accepted (first l)) (ap terms (sym (append-nil (layout 0 root t))) ∙ laid_term 0 root t [])

pub round_trip : RoundTrip
round_trip t r = (code_bytes t r, reads_back t r)

-- what an accepted reading says of its one term
record Alone (bs : List ℕ) (k : ℕ) (t : Term) : Type 0 where
  spelled : bs ≡ code t
  recipe : Recipe t
  counted : k ≡ size t

alone : (bs : List ℕ) (k : ℕ) (ts : List Term) → Sound most_nodes 0 (root ∷ []) bs k ts → Alone bs k (first ts)
alone bs k [] h = absurd h.fits
alone bs k (t ∷ []) h = grind (arith, nat_tests, append-nil)
alone bs k (t ∷ u ∷ ts) h = absurd h.fits.1

accepted_alone : (bs : List ℕ) (k : ℕ) → Bytes bs → (reading bs).ended ≡ Ok k → Alone bs k (first (terms (reading bs).handed))
unfolding reading
accepted_alone bs k b e = alone bs k _ (sound (length bs) most_nodes 0 (root ∷ []) bs k b e)

-- the verdict, from the end of the reading
pub verdict_ok : (bs : List ℕ) (k : ℕ) → (reading bs).ended ≡ Ok k → verdict bs ≡ accepted (first (terms (reading bs).handed))
unfolding verdict
verdict_ok bs k e = rw e refl

pub verdict_err : (bs : List ℕ) (f : Fault) → (reading bs).ended ≡ Err f → verdict bs ≡ refused f
unfolding verdict
verdict_err bs f e = rw e refl

-- what the reading answers
pub answered : (bs : List ℕ) → Bytes bs → (reading bs).ended ≡ told (verdict bs)
answered bs b = go (reading bs).ended refl
  where
    go : (r : Result ℕ Fault) → (reading bs).ended ≡ r → (reading bs).ended ≡ told (verdict bs)
    go (Ok k) e = e ∙ ap Ok (accepted_alone bs k b e).counted ∙ sym (ap told (verdict_ok bs k e))
    go (Err f) e = e ∙ sym (ap told (verdict_err bs f e))

pub accepts_exactly : (bs : List ℕ) → Bytes bs → AcceptsExactly bs
accepts_exactly bs b t = (λ h. go h (reading bs).ended refl, λ p. ap verdict p.0 ∙ reads_back t p.1)
  where
    go : verdict bs ≡ accepted t → (r : Result ℕ Fault) → (reading bs).ended ≡ r → (bs ≡ code t) × Recipe t
    go h (Ok k) e =
        let it = accepted_alone bs k b e in
        let same : first (terms (reading bs).handed) ≡ t = cc (verdict_ok bs k e) in
        (it.spelled ∙ ap code same, subst Recipe same it.recipe)
    go h (Err f) e = cc (verdict_err bs f e)

pub laid_out : (bs : List ℕ) → Bytes bs → LaidOut bs
laid_out bs b t h =
    let (spelled, recipe) = (accepts_exactly bs b t).0 h in
    ap (λ l. (reading l).handed) spelled ∙ ap (λ z. z.handed) (recipe_read t recipe)
