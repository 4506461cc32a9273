-- What stands on the spine. Assumes nothing.
use Rattle.std.proofs.Common.{◌≡◌, ℕ, zero, suc, ◌-◌, ◌^◌, ◌<◌, ◌≤◌, true, List, [], ◌∷◌, ◌++◌, map, reverse, length, get_or, take, Some, None, sym, refl, ap, ◌∙◌, subst, inl, inr, arith, take-suc}
use Rattle.std.proofs.lemmas.Bool.Decides.{nat_tests}
use lib.ListN.{length-map, length-reverse}
use Rattle.std.proofs.lemmas.List.{take_all, get_or-map, get_or-reverse}
use Rattle.std.proofs.lemmas.Bool.{and_left, cases_lt}
use Rattle.term.specs.Terms as term
use Rattle.term.specs.Terms.{Term}
use Rattle.writer.specs.declared.heads.Head.TheVariants as head
use Rattle.writer.specs.Heads.{both, headed}
use Rattle.abstract_machine.specs.Pieces.{Piece, ingredient, plugged}
use Rattle.abstract_machine.specs.States.{applied_to, unfolded}
use Rattle.abstract_machine.specs.Soundness.{SoundPiece, SoundStack}
use Rattle.closure_tables.specs.declared.rows.Argument.{Argument}
use Rattle.closure_tables.specs.Tables.{blank_argument, Tables}
use Rattle.closure_tables.specs.Presented.{closure_of, presented}
use Rattle.closure_tables.specs.Valid.{valid}
use Rattle.closure_tables.specs.Positions.{spine_number, spot_number, closure_spot, entry_values, term_inside, term_on_spine, term_at, root}
use Rattle.closure_tables.proofs.Each.{each_here}
use Rattle.closure_tables.proofs.Latest.{length_latest}
use Rattle.closure_tables.proofs.Kept.{Kept, Inside, kept, argument_is}
use Rattle.closure_tables.proofs.Numbers.{Numbered, term_at_spot, term_at_spine}
use Rattle.closure_tables.proofs.Spots.{closure_is, node_past}

-- the closure in hand, applied to k arguments
abbrev spine : Tables → ℕ → Term
spine t k = applied_to (plugged (entry_values t) (presented t).hand) (take k (map (plugged (entry_values t)) (presented t).stack))

-- the argument that waits behind k others
abbrev pub waiting : Tables → ℕ → Argument
waiting t k = get_or t.stack (length t.stack - 1 - k) blank_argument

-- where there is none

pub spine_empty : (t : Tables) (k : ℕ) → length t.cells ≤ 0 → term_on_spine t k ≡ None
spine_empty t k h = grind (arith, nat_tests, and_left)

spine_is : (t : Tables) (k : ℕ) → 0 < length t.cells → k ≤ length t.stack → term_on_spine t k ≡ Some (spine t k)
spine_is t k some h = grind (arith, nat_tests)

-- the whole of the standing term

pub spine_root : (t : Tables) → 0 < length t.cells → term_on_spine t (length t.stack) ≡ Some (unfolded (presented t))
spine_root t some =
    let f = plugged (entry_values t) in
    let us = (presented t).stack in
    let long = length-map us f in
    let many = length_latest (closure_of t.cells t.entries) t.stack in
    spine_is t (length t.stack) some (omega arith)
    ∙ ap (λ xs. Some (applied_to (f (presented t).hand) xs)) (take_all (length t.stack) (map f us) (omega arith))

pub root_is : (t : Tables) → 0 < length t.cells → term_at t (root t) ≡ Some (unfolded (presented t))
root_is t some = term_at_spine t (length t.stack) ∙ spine_root t some

-- with one argument more

applied_more : (t u : Term) (us : List Term) → applied_to t (us ++ u ∷ []) ≡ term.application (applied_to t us) u
applied_more t u [] = refl
applied_more t u (v ∷ us) = applied_more (term.application t v) u us

stack_at : (n b : ℕ) (us : List Piece) (k : ℕ) (d : Piece) → SoundStack n b us → k < length us → SoundPiece n b (get_or us k d)
stack_at n b [] k d s h = absurd (omega arith)
stack_at n b (u ∷ us) zero d s h = s.0
stack_at n b (u ∷ us) (suc k) d s h = stack_at n b us k d s.1 (omega arith)

module _ (t : Tables) (k : Kept t) where
  some_cell : 0 < length t.cells
  some_cell = omega (arith, (argument_is _ _ t.hand k.hand).node)

  pub spine_front : term_on_spine t 0 ≡ term_inside t (closure_spot t.hand)
  spine_front =
      spine_is t 0 some_cell (omega arith)
      ∙ sym (closure_is t k (length (presented t).entries) t.hand (argument_is _ _ t.hand k.hand) k.sound.hand)

  pub waiting_inside : (i : ℕ) → i < length t.stack → Inside (length t.cells) (length t.entries) (waiting t i)
  waiting_inside i h = grind (arith, nat_tests, argument_is, each_here)

  pub spine_more : (i : ℕ) → i < length t.stack → term_on_spine t (suc i) ≡ both term.application (term_on_spine t i) (term_inside t (closure_spot (waiting t i)))
  spine_more i h =
      let f = closure_of t.cells t.entries in
      let g = plugged (entry_values t) in
      let us = (presented t).stack in
      let many = length_latest f t.stack in
      let long = length-map us g in
      let turned = length-reverse t.stack in
      let is : get_or us i (ingredient 0) ≡ f (waiting t i)
      = get_or-map f (reverse t.stack) i blank_argument (ingredient 0) (omega arith) ∙ ap f (get_or-reverse t.stack i blank_argument h) in
      let value : get_or (map g us) i (term.ingredient 0) ≡ g (f (waiting t i))
      = get_or-map g us i (ingredient 0) (term.ingredient 0) (omega arith) ∙ ap g is in
      let sound : SoundPiece (length t.cells) (length (presented t).entries) (f (waiting t i))
      = subst (SoundPiece (length t.cells) (length (presented t).entries)) is (stack_at _ _ us i (ingredient 0) k.sound.stack (omega arith)) in
      let more : spine t (suc i) ≡ term.application (spine t i) (g (f (waiting t i)))
      = ap (applied_to (g (presented t).hand)) (take-suc (map g us) i (term.ingredient 0) (omega arith))
      ∙ applied_more (g (presented t).hand) (get_or (map g us) i (term.ingredient 0)) (take i (map g us))
      ∙ ap (term.application (spine t i)) value in
      let front = spine_is t i some_cell (omega arith) in
      let last = closure_is t k (length (presented t).entries) (waiting t i) (waiting_inside i h) sound in
      spine_is t (suc i) some_cell (omega arith)
      ∙ ap Some more
      ∙ sym (ap (λ x. both term.application x (term_inside t (closure_spot (waiting t i)))) front ∙ ap (both term.application (Some (spine t i))) last)

  -- the last of the i nearest arguments
  pub taken_inside : (i : ℕ) → 0 < i → i ≤ length t.stack → Inside (length t.cells) (length t.entries) (get_or t.stack (length t.stack - i) blank_argument)
  taken_inside i pos h =
      let place : length t.stack - 1 - (i - 1) ≡ length t.stack - i = omega arith in
      subst (λ m. Inside (length t.cells) (length t.entries) (get_or t.stack m blank_argument)) place (waiting_inside (i - 1) (omega arith))

-- where no term stands as well

pub spine_hand : (t : Tables) → valid t ≡ true → term_on_spine t 0 ≡ term_inside t (closure_spot t.hand)
spine_hand t v = elim (cases_lt 0 (length t.cells)) [
  | inl some ↦ spine_front t (kept t some v)
  | inr none ↦ spine_empty t 0 none ∙ sym (node_past t (closure_spot t.hand) (omega arith))
]

pub spine_looks :
    (t : Tables) (i : ℕ) → valid t ≡ true → length t.entries < 2 ^ 31 → 0 < i → i ≤ length t.stack →
    term_on_spine t i ≡ headed (term_at t) (head.Application (spine_number (i - 1)) (spot_number (closure_spot (get_or t.stack (length t.stack - i) blank_argument))))
spine_looks t i v few pos h =
    let a = get_or t.stack (length t.stack - i) blank_argument in
    let front = term_at_spine t (i - 1) in
    elim (cases_lt 0 (length t.cells)) [
      | inl some ↦
          let k = kept t some v in
          let next : suc (i - 1) ≡ i = omega arith in
          let place : length t.stack - 1 - (i - 1) ≡ length t.stack - i = omega arith in
          let same : waiting t (i - 1) ≡ a = ap (λ m. get_or t.stack m blank_argument) place in
          let inside = taken_inside t k i pos h in
          let number : Numbered (closure_spot a) = record { node = omega (arith, inside.node, k.few); depth = omega arith; chain = omega (arith, inside.chain) } in
          ap (term_on_spine t) (sym next)
          ∙ spine_more t k (i - 1) (omega arith)
          ∙ ap (λ b. both term.application (term_on_spine t (i - 1)) (term_inside t (closure_spot b))) same
          ∙ sym (ap (λ x. both term.application x (term_at t (spot_number (closure_spot a)))) front ∙ ap (both term.application (term_on_spine t (i - 1))) (term_at_spot t (closure_spot a) number))
      | inr none ↦
          spine_empty t i none
          ∙ sym (ap (λ x. both term.application x (term_at t (spot_number (closure_spot a)))) (front ∙ spine_empty t (i - 1) none))
    ]
