-- The walk along a chain finds its entries. Assumes nothing.
use Rattle.std.proofs.Common.{◌≡◌, ℕ, zero, suc, ◌+◌, ◌-◌, ◌≤◌, List, [], ◌∷◌, length, get_or, Some, None, Option, MatchOption, sym, refl, ap, ◌∙◌, subst, arith}
use Rattle.std.proofs.iter.Yields.{nat_range_steps}
use Rattle.std.specs.Iterator.{Yields, YieldsThen}
use Rattle.std.specs.List.{slice_get, FoldsTo}
use Rattle.std.specs.declared.ops.Range.{Range}
use Rattle.closure_tables.specs.declared.rows.Entry.{Entry}
use Rattle.closure_tables.specs.Tables.{blank_entry, Tables}
use Rattle.closure_tables.specs.Presented.{height, chain_in}
use Rattle.closure_tables.proofs.Kept.{Kept, entry_is, falling}
use Rattle.closure_tables.proofs.Chains.{chain_cons}
use Rattle.closure_view.specs.Links.{linked}

pub linked_none : (es : List Entry) (k : ℕ) → linked es None k ≡ None
linked_none es zero = refl
linked_none es (suc k) = refl

-- the numbers that a range gave
range_given : (xs : List ℕ) (s t : Range ℕ) → s.start ≤ s.end → Yields nat_range_steps s xs t → (t.end ≡ s.end) × (t.start ≡ s.start + length xs) × (t.start ≤ t.end)
range_given [] s t up y = (ap (λ r. r.end) (sym y), omega (arith, ap (λ r. r.start) y), subst (λ r. r.start ≤ r.end) y up)
range_given (x ∷ xs) s t up y =
    let more = range_given xs y.0 t (omega (arith, up, y.1.0, y.1.1.0, y.1.1.2)) y.2 in
    (more.0 ∙ y.1.0, omega (arith, more.1, y.1.1.2), more.2)

-- the same with what follows of the value
pub of_some : {X : Type 0} (P : Type 0) (Q R : X → Type 0) (o : Option X) → MatchOption o P Q → ((x : X) → Q x → R x) → MatchOption o P R
of_some P Q R None m more = m
of_some P Q R (Some x) m more = more x m

-- turns that each go one entry further, and leave their closure as it is
module _ {F : Type 0} (es : List Entry) (f : F) (Turn : F × ℕ → ℕ → F × ℕ → Type 0) (step : (e x : ℕ) (q : F × ℕ) → Turn (f, e) x q → (q.0 ≡ f) × (linked es (Some e) 1 ≡ Some q.1)) where
  turned : (xs : List ℕ) (e k : ℕ) (q : F × ℕ) → FoldsTo Turn (f, e) xs q → (q.0 ≡ f) × (linked es (Some e) (length xs + k) ≡ linked es (Some q.1) k)
  turned [] e k q same =
      let count : length {A = ℕ} [] + k ≡ k = omega arith in
      (sym (ap (λ p. p.0) same), ap (linked es (Some e)) count ∙ ap (λ p. linked es (Some p.1) k) same)
  turned (x ∷ xs) e k q folds =
      let j = folds.0 in
      let one = step e x j folds.1 in
      let here : ◌≡◌ {A = F × ℕ} j (f, j.1) = ap (λ g. (g, j.1)) one.0 in
      let more = turned xs j.1 k q (subst (λ p. FoldsTo Turn p xs q) here folds.2) in
      let count : length (x ∷ xs) + k ≡ suc (length xs + k) = omega arith in
      (more.0, ap (linked es (Some e)) count ∙ ap (λ o. linked es o (length xs + k)) one.1 ∙ more.1)

  -- the turns of a range went on to its end, or the one after them met no entry
  pub turned_out :
      (e : ℕ) (s u : Range ℕ) (r : Option ℕ) (xs : List ℕ) (o : Option ℕ) (q : F × ℕ) → s.start ≡ 0 → YieldsThen nat_range_steps s xs o u → FoldsTo Turn (f, e) xs q →
      MatchOption o (r ≡ Some q.1) (λ x. (r ≡ None) × (q.0 ≡ f → linked es (Some q.1) 1 ≡ None)) → r ≡ linked es (Some e) s.end
  turned_out e s u r xs None q first given folds last =
      let n = range_given xs s given.0 (omega (arith, first)) given.1 in
      let all : length xs + 0 ≡ s.end = omega (arith, n.0, n.1, n.2, first, given.2.1.0) in
      last ∙ sym (turned xs e 0 q folds).1 ∙ ap (linked es (Some e)) all
  turned_out e s u r xs (Some x) q first given folds last =
      let n = range_given xs s given.0 (omega (arith, first)) given.1 in
      let k = s.end - length xs - 1 in
      let far : length xs + suc k ≡ s.end = omega (arith, n.0, n.1, n.2, first, given.2.1.0) in
      let w = turned xs e (suc k) q folds in
      last.0 ∙ sym (ap (λ c. linked es c k) (last.1 w.0) ∙ linked_none es k) ∙ sym w.1 ∙ ap (linked es (Some e)) far

-- a chain of entries that there are, where each has a chain of earlier ones
pub linked_is : (t : Tables) → Kept t → (c : Option ℕ) (k : ℕ) → height c ≤ length t.entries → linked t.entries c k ≡ slice_get (chain_in t.entries c) k
linked_is t ok None zero low = refl
linked_is t ok (Some e) zero low = refl
linked_is t ok None (suc k) low = refl
linked_is t ok (Some e) (suc k) low =
    let next = (entry_is t ok e (omega arith)).1 in
    linked_is t ok (get_or t.entries e blank_entry).next k (omega arith)
    ∙ sym (ap (λ c. slice_get c (suc k)) (chain_cons t.entries e (falling t ok (suc e) (omega arith))))
