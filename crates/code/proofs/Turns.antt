-- One turn of a reading: what an admitted node tells, and where the reading goes on. Assumes nothing.
use Rattle.std.proofs.Common.{◌≡◌, ℕ, zero, suc, ◌+◌, ◌*◌, ◌<◌, ◌≤◌, Bool, true, false, cond, ltb, List, [], ◌∷◌, length, drop, Ok, Err, Result, refl, ap, subst, arith, ltb-true, leb-true}
use Rattle.std.proofs.lemmas.Bool.Decides.{nat_tests}
use Rattle.node.specs.declared.nodes.Node.{Node}
use Rattle.node.specs.declared.nodes.Node.TheVariants.{Application, Function, Place, Ingredient}
use Rattle.node.specs.declared.nodes.Misspelling.{Misspelling}
use Rattle.node.specs.declared.nodes.Misspelling.TheVariants.{Nothing, Unknown, Cut}
use Rattle.node.specs.declared.faults.Fault.{Fault}
use Rattle.term.specs.Terms.{most_nodes}
use Rattle.node.specs.Spell.{spelling_of, spell_place, spell_ingredient, width_of}
use Rattle.node.specs.Checks.{Fitting, fitted, judged}
use Rattle.code.specs.Scans.{Slot, Scan, located, parts_of, next, scan}

test_passed : {A E : Type 0} (b : Bool) (x : Result A E) (e : E) (a : A) → cond b x (Err e) ≡ Ok a → (b ≡ true) × (x ≡ Ok a)
test_passed true x e a h = (refl, h)
test_passed false x e a h = cc

-- what passed is the node itself, and it may stand there
fitted_ok : (at d : ℕ) (n m : Node) → fitted at d n ≡ Ok m → (n ≡ m) × Fitting d n
fitted_ok at d Application m h = (cc, tt)
fitted_ok at d Function m h = let p = test_passed _ _ _ _ h in (cc p.1, ltb-true _ _ p.0)
fitted_ok at d (Place k) m h = let p = test_passed _ _ _ _ h in (cc p.1, ltb-true _ _ p.0)
fitted_ok at d (Ingredient i) m h = let p = test_passed _ _ _ _ h in (cc p.1, leb-true _ _ p.0)

pub record Admitted (n d : ℕ) (s : Result Node Misspelling) (node : Node) : Type 0 where
  pub spelled : s ≡ Ok node
  pub room : n < most_nodes
  pub fitting : Fitting d node

pub judged_ok : (end at n d : ℕ) (s : Result Node Misspelling) (node : Node) → judged end at n d s ≡ Ok node → Admitted n d s node
judged_ok end at n d (Err Nothing) node h = cc
judged_ok end at n d (Err Unknown) node h = cc
judged_ok end at n d (Err Cut) node h = cc ((test_passed (ltb n most_nodes) _ _ _ h).1)
judged_ok end at n d (Ok m) node h = grind (arith, nat_tests, test_passed, fitted_ok)

-- the reading after node number n, and with that node
abbrev pub onward : (end m n : ℕ) (s : Slot) (ss : List Slot) (bs : List ℕ) (node : Node) → Scan
onward end m n s ss bs node = scan end m (suc n) (parts_of n s node ss) (drop (width_of node) bs)

pub goes_on : (end m n : ℕ) (s : Slot) (ss : List Slot) (bs : List ℕ) (node : Node) → next end n s bs ≡ Ok node → scan end (suc m) n (s ∷ ss) bs ≡ record { handed = located n s node ∷ (onward end m n s ss bs node).handed; ended = (onward end m n s ss bs node).ended }
goes_on end m n s ss bs node h = rw (h, scan) refl

pub stops : (end m n : ℕ) (s : Slot) (ss : List Slot) (bs : List ℕ) (f : Fault) → next end n s bs ≡ Err f → scan end m n (s ∷ ss) bs ≡ record { handed = []; ended = Err f }
stops end zero n s ss bs f h = rw h refl
stops end (suc m) n s ss bs f h = rw (h, scan) refl

-- the front of bs spells a node
abbrev pub Spells : Node → List ℕ → Type 0
Spells Application bs = bs ≡ 1 ∷ drop 1 bs
Spells Function bs = bs ≡ 2 ∷ drop 1 bs
Spells (Place k) bs = bs ≡ 3 ∷ k ∷ drop 2 bs
Spells (Ingredient i) bs = (high : ℕ) × (low : ℕ) × (i ≡ 256 * high + low) × (bs ≡ 4 ∷ high ∷ low ∷ drop 3 bs)

same_node : {m n : Node} → ◌≡◌ {A = Result Node Misspelling} (Ok m) (Ok n) → m ≡ n
same_node h = cc

spells_place : (bs : List ℕ) (node : Node) → spell_place bs ≡ Ok node → Spells node (3 ∷ bs)
spells_place [] node h = cc
spells_place (k ∷ bs) node h = subst (λ n. Spells n (3 ∷ k ∷ bs)) (same_node h) refl

spells_ingredient : (bs : List ℕ) (node : Node) → spell_ingredient bs ≡ Ok node → Spells node (4 ∷ bs)
spells_ingredient [] node h = cc
spells_ingredient (high ∷ []) node h = cc
spells_ingredient (high ∷ low ∷ bs) node h = subst (λ n. Spells n (4 ∷ high ∷ low ∷ bs)) (same_node h) (high, low, refl, refl)

pub spells : (bs : List ℕ) (node : Node) → spelling_of bs ≡ Ok node → Spells node bs
spells [] node h = cc
spells (tag ∷ bs) node h = grind (arith, nat_tests, spells_place, spells_ingredient)

-- the bytes that spell a node are there
pub spelled_width : (bs : List ℕ) (node : Node) → Spells node bs → width_of node ≤ length bs
spelled_width bs Application h = omega (arith, ap length h)
spelled_width bs Function h = omega (arith, ap length h)
spelled_width bs (Place k) h = omega (arith, ap length h)
spelled_width bs (Ingredient i) h = omega (arith, ap length h.3)
