-- The code of terms that fit is accepted, and handed over as they are laid out. Assumes nothing.
use Rattle.std.proofs.Common.{◌≡◌, ℕ, zero, suc, ◌+◌, ◌*◌, ◌/◌, ◌%◌, ◌<◌, ◌≤◌, List, [], ◌∷◌, ◌++◌, length, Ok, sym, refl, ap, ◌∙◌, append_assoc, arith, lt-ltb, le-leb}
use Rattle.std.proofs.lemmas.Bool.Decides.{nat_tests}
use Rattle.std.specs.List.{flat_map}
use Rattle.node.specs.declared.nodes.Node.{Node}
use Rattle.node.specs.declared.nodes.Node.TheVariants.{Application, Function, Place, Ingredient}
use Rattle.node.specs.declared.nodes.Located.{Located}
use Rattle.term.specs.Terms.{Term, place, ingredient, function, application, size, code, most_nodes}
use Rattle.node.specs.Spell.{spelling_of}
use Rattle.node.specs.Checks.{Fitting, admitted}
use Rattle.code.specs.Scans.{Slot, Scan, left_of, right_of, located, parts_of, scan}
use Rattle.code.specs.Layouts.{layout}
use Rattle.code.proofs.Turns.{onward, goes_on}
use Rattle.code.proofs.Lists.{size_some, Fit, Fits, sizes, layouts}

admits : (at n d : ℕ) (node : Node) → n < most_nodes → Fitting d node → admitted at n d node ≡ Ok node
admits at n d Application r f = rw (lt-ltb n most_nodes r) refl
admits at n d Function r f = rw (lt-ltb n most_nodes r, lt-ltb _ _ f) refl
admits at n d (Place k) r f = rw (lt-ltb n most_nodes r, lt-ltb _ _ f) refl
admits at n d (Ingredient i) r f = rw (lt-ltb n most_nodes r, le-leb _ _ f) refl

-- the whole of a reading that is accepted
abbrev whole : ℕ → List Slot → List Term → Scan
whole n ss ts = record { handed = layouts n ss ts; ended = Ok (n + sizes ts) }

same : {ls ls' : List Located} {k k' : ℕ} → ls ≡ ls' → k ≡ k' → ◌≡◌ {A = Scan} (record { handed = ls; ended = Ok k }) (record { handed = ls'; ended = Ok k' })
same p q = λ i. record { handed = p i; ended = Ok (q i) }

-- a node, and then the rest
then : (end m n : ℕ) (s : Slot) (ss : List Slot) (bs : List ℕ) (node : Node) {ls : List Located} {k : ℕ} → spelling_of bs ≡ Ok node → n < most_nodes → Fitting (length s.around) node → onward end m n s ss bs node ≡ record { handed = ls; ended = Ok k } → scan end (suc m) n (s ∷ ss) bs ≡ record { handed = located n s node ∷ ls; ended = Ok k }
then end m n s ss bs node e r f h = grind (arith, nat_tests, admits, goes_on)

pub complete : (end m n : ℕ) (ss : List Slot) (ts : List Term) → m + n ≡ most_nodes → Fits ss ts → sizes ts ≤ m → scan end m n ss (flat_map code ts) ≡ whole n ss ts
complete end m n [] [] r f h = same refl (omega arith)
complete end m n [] (t ∷ ts) r f h = absurd f
complete end m n (s ∷ ss) [] r f h = absurd f
complete end zero n (s ∷ ss) (t ∷ ts) r f h = absurd (omega (arith, size_some t))
complete end (suc m) n (s ∷ ss) (place k ∷ ts) r f h =
    then end m n s ss (flat_map code (place k ∷ ts)) (Place k) refl (omega arith) f.0.covered (complete end m (suc n) ss ts (omega arith) f.1 (omega arith))
    ∙ same (ap (λ x. located n s (Place k) ∷ layouts x ss ts) (let e : suc n ≡ n + 1 = omega arith in e)) (omega arith)
complete end (suc m) n (s ∷ ss) (ingredient i ∷ ts) r f h =
    let value : 256 * (i / 256) + i % 256 ≡ i = omega arith in
    then end m n s ss (flat_map code (ingredient i ∷ ts)) (Ingredient i) (ap (λ v. Ok (Ingredient v)) value) (omega arith) f.0.stocked (complete end m (suc n) ss ts (omega arith) f.1 (omega arith))
    ∙ same (ap (λ x. located n s (Ingredient i) ∷ layouts x ss ts) (let e : suc n ≡ n + 1 = omega arith in e)) (omega arith)
complete end (suc m) n (s ∷ ss) (function t ∷ ts) r f h =
    let inner : Fit (suc (length s.around)) t = record { covered = f.0.covered; shallow = omega (arith, f.0.shallow); stocked = f.0.stocked } in
    let last : suc n + size t ≡ n + suc (size t) = omega arith in
    then end m n s ss (flat_map code (function t ∷ ts)) Function refl (omega arith) (omega (arith, f.0.shallow)) (complete end m (suc n) (parts_of n s Function ss) (t ∷ ts) (omega arith) (inner, f.1) (omega arith))
    ∙ same (ap (λ x. layout n s (function t) ++ layouts x ss ts) last) (omega arith)
complete end (suc m) n (s ∷ ss) (application t u ∷ ts) r f h =
    let one : Fit (length s.around) t = record { covered = f.0.covered.0; shallow = omega (arith, f.0.shallow); stocked = f.0.stocked.0 } in
    let two : Fit (length s.around) u = record { covered = f.0.covered.1; shallow = omega (arith, f.0.shallow); stocked = f.0.stocked.1 } in
    let sides = parts_of n s Application ss in
    let left = layout (suc n) (left_of n s) t in
    let right = layout (suc n + size t) (right_of n s) u in
    let last : suc n + size t + size u ≡ n + suc (size t + size u) = omega arith in
    then end m n s ss (flat_map code (application t u ∷ ts)) Application refl (omega arith) tt (ap (scan end m (suc n) sides) (append_assoc (code t) (code u) (flat_map code ts)) ∙ complete end m (suc n) sides (t ∷ u ∷ ts) (omega arith) (one, (two, f.1)) (omega arith))
    ∙ same (ap (λ l. located n s Application ∷ l) (sym (append_assoc left right _)) ∙ ap (λ x. layout n s (application t u) ++ layouts x ss ts) last) (omega arith)
