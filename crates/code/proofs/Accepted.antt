-- What is accepted is the code of terms that fit. Assumes nothing.
use Rattle.std.proofs.Common.{◌≡◌, ℕ, zero, suc, ◌+◌, ◌/◌, ◌%◌, ◌<◌, ◌≤◌, List, [], ◌∷◌, length, get_or, drop, Ok, Err, Result, sym, refl, ap, ◌∙◌, subst, append_assoc, arith, get_or-drop}
use Rattle.std.proofs.lemmas.Bool.Decides.{nat_tests}
use Rattle.std.specs.List.{flat_map}
use Rattle.node.specs.declared.nodes.Node.{Node}
use Rattle.node.specs.declared.nodes.Node.TheVariants.{Application, Function, Place, Ingredient}
use Rattle.node.specs.declared.faults.Fault.{Fault}
use Rattle.term.specs.Terms.{Term, code}
use Rattle.node.specs.Spell.{width_of}
use Rattle.node.specs.Checks.{Fitting}
use Rattle.code.specs.Scans.{Slot, parts_of, next, scan}
use Rattle.code.specs.Verdicts.{Bytes, joined_to, terms}
use Rattle.code.proofs.Turns.{judged_ok, onward, goes_on, stops, Spells, spells}
use Rattle.code.proofs.Lists.{Fits, sizes}

-- bs spells terms for the slots, with k nodes up to the last of them, of which m and no more lie in the terms
pub record Sound (m n : ℕ) (ss : List Slot) (bs : List ℕ) (k : ℕ) (ts : List Term) : Type 0 where
  pub spelled : bs ≡ flat_map code ts
  pub fits : Fits ss ts
  pub counted : k ≡ n + sizes ts
  pub small : sizes ts ≤ m

-- a node in front of its parts
joins : (m n : ℕ) (s : Slot) (ss : List Slot) (bs : List ℕ) (k : ℕ) (node : Node) (ts : List Term) → Bytes bs → Spells node bs → Fitting (length s.around) node → Sound m (suc n) (parts_of n s node ss) (drop (width_of node) bs) k ts → Sound (suc m) n (s ∷ ss) bs k (joined_to node ts)
joins m n s ss bs k Application [] b sp f h = absurd h.fits
joins m n s ss bs k Application (t ∷ []) b sp f h = absurd h.fits.1
joins m n s ss bs k Application (t ∷ u ∷ ts) b sp f h = grind (arith, nat_tests, append_assoc)
joins m n s ss bs k Function [] b sp f h = absurd h.fits
joins m n s ss bs k Function (t ∷ ts) b sp f h = grind (arith, nat_tests)
joins m n s ss bs k (Place i) ts b sp f h = grind (arith, nat_tests)
joins m n s ss bs k (Ingredient i) ts b sp f h =
    let (high, low, value, front) = sp in
    let byte : low < 256 = subst (λ x. x < 256) (ap (λ l. get_or l 2 0) front) (b 2) in
    let over : i / 256 ≡ high = omega arith in
    let under : i % 256 ≡ low = omega arith in
    record {
      spelled = front ∙ ap (λ l. 4 ∷ high ∷ low ∷ l) h.spelled ∙ ap (λ x. 4 ∷ x ∷ low ∷ flat_map code ts) (sym over) ∙ ap (λ x. 4 ∷ i / 256 ∷ x ∷ flat_map code ts) (sym under);
      fits = (record { covered = tt; shallow = omega arith; stocked = f }, h.fits);
      counted = omega (arith, h.counted);
      small = omega (arith, h.small);
    }

bytes_drop : (w : ℕ) (bs : List ℕ) → Bytes bs → Bytes (drop w bs)
bytes_drop w bs b k = rw get_or-drop (b (w + k))

-- one turn that is followed by a sound rest
turn : (end m n : ℕ) (s : Slot) (ss : List Slot) (bs : List ℕ) (k : ℕ) → Bytes bs → (scan end (suc m) n (s ∷ ss) bs).ended ≡ Ok k → ((node : Node) → (onward end m n s ss bs node).ended ≡ Ok k → Sound m (suc n) (parts_of n s node ss) (drop (width_of node) bs) k (terms (onward end m n s ss bs node).handed)) → (r : Result Node Fault) → next end n s bs ≡ r → Sound (suc m) n (s ∷ ss) bs k (terms (scan end (suc m) n (s ∷ ss) bs).handed)
turn end m n s ss bs k b h rest (Ok node) e =
    let on = goes_on end m n s ss bs node e in
    let ok = judged_ok _ _ _ _ _ node e in
    subst (λ z. Sound (suc m) n (s ∷ ss) bs k (terms z.handed)) (sym on)
    (joins m n s ss bs k node _ b (spells bs node ok.spelled) ok.fitting (rest node (sym (ap (λ z. z.ended) on) ∙ h)))
turn end m n s ss bs k b h rest (Err f) e = cc (ap (λ z. z.ended) (stops end (suc m) n s ss bs f e))

no_room : (end n : ℕ) (s : Slot) (ss : List Slot) (bs : List ℕ) (k : ℕ) → (scan end zero n (s ∷ ss) bs).ended ≡ Ok k → (r : Result Node Fault) → next end n s bs ≡ r → ⊥
no_room end n s ss bs k h (Ok node) e = let none = rw (e, scan) at h in cc
no_room end n s ss bs k h (Err f) e = let none = rw (e, scan) at h in cc

pub sound : (end m n : ℕ) (ss : List Slot) (bs : List ℕ) (k : ℕ) → Bytes bs → (scan end m n ss bs).ended ≡ Ok k → Sound m n ss bs k (terms (scan end m n ss bs).handed)
sound end m n [] [] k b h = let same : k ≡ n = cc in record { spelled = refl; fits = tt; counted = omega arith; small = omega arith }
sound end m n [] (x ∷ bs) k b h = cc
sound end zero n (s ∷ ss) bs k b h = absurd (no_room end n s ss bs k h _ refl)
sound end (suc m) n (s ∷ ss) bs k b h =
    turn end m n s ss bs k b h (λ node r. sound end m (suc n) (parts_of n s node ss) (drop (width_of node) bs) k (bytes_drop (width_of node) bs b) r) _ refl
