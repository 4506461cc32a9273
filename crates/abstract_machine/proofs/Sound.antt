-- A state that is sound stays so, and unfolds to a closed term. Assumes nothing.
use Rattle.std.proofs.Common.{◌≡◌, ℕ, suc, ◌<◌, ◌≤◌, true, false, cond, ◌&&◌, eqb, leb, List, [], ◌∷◌, length, sym, refl, ap, ◌∙◌, arith, eqb-true}
use borrow.Author.Tests.{eqb-false}
use Rattle.std.proofs.lemmas.Bool.{and_parts, and_from, leb-true, le-leb}
use Rattle.term.specs.Terms as term
use Rattle.abstract_machine.specs.Pieces.{Piece, weight, reach, outer, numbered, plugged}
use Rattle.abstract_machine.specs.States.{State, entry_of, values}
use Rattle.abstract_machine.specs.Soundness.{SoundPiece, SoundStack, SoundEntries, SoundState, sound_piece, sound_stack, sound_entries, sound_state}
use Rattle.abstract_machine.proofs.Plugging as pieces
use Rattle.abstract_machine.proofs.Plugging.{AllClosed}

-- the test and the fact

pub piece_true : (n b : ℕ) (p : Piece) → sound_piece n b p ≡ true → SoundPiece n b p
piece_true n b p e =
    let x = and_parts (leb (outer p) 0) (leb (reach p) b && leb (weight p) n) e in
    let y = and_parts (leb (reach p) b) (leb (weight p) n) x.1 in
    record { closed = leb-true _ _ x.0; earlier = leb-true _ _ y.0; small = leb-true _ _ y.1 }

pub piece_test : (n b : ℕ) (p : Piece) → SoundPiece n b p → sound_piece n b p ≡ true
piece_test n b p h = and_from _ _ (le-leb _ _ h.closed) (and_from _ _ (le-leb _ _ h.earlier) (le-leb _ _ h.small))

stack_true : (n b : ℕ) (us : List Piece) → sound_stack n b us ≡ true → SoundStack n b us
stack_true n b [] e = tt
stack_true n b (u ∷ us) e =
    let x = and_parts (sound_piece n b u) (sound_stack n b us) e in
    (piece_true n b u x.0, stack_true n b us x.1)

stack_test : (n b : ℕ) (us : List Piece) → SoundStack n b us → sound_stack n b us ≡ true
stack_test n b [] h = refl
stack_test n b (u ∷ us) h = and_from _ _ (piece_test n b u h.0) (stack_test n b us h.1)

entries_true : (n : ℕ) (es : List Piece) → sound_entries n es ≡ true → SoundEntries n es
entries_true n [] e = tt
entries_true n (p ∷ es) e =
    let x = and_parts (sound_piece n (length es) p) (sound_entries n es) e in
    (piece_true n (length es) p x.0, entries_true n es x.1)

entries_test : (n : ℕ) (es : List Piece) → SoundEntries n es → sound_entries n es ≡ true
entries_test n [] h = refl
entries_test n (p ∷ es) h = and_from _ _ (piece_test n (length es) p h.0) (entries_test n es h.1)

pub state_true : (n : ℕ) (s : State) → sound_state n s ≡ true → SoundState n s
state_true n s e =
    let b = length s.entries in
    let x = and_parts (sound_piece n b s.hand) (sound_stack n b s.stack && sound_entries n s.entries) e in
    let y = and_parts (sound_stack n b s.stack) (sound_entries n s.entries) x.1 in
    record { hand = piece_true n b s.hand x.0; stack = stack_true n b s.stack y.0; entries = entries_true n s.entries y.1 }

pub state_test : (n : ℕ) (s : State) → SoundState n s → sound_state n s ≡ true
state_test n s h =
    let b = length s.entries in
    and_from _ _ (piece_test n b s.hand h.hand)
    (and_from _ _ (stack_test n b s.stack h.stack) (entries_test n s.entries h.entries))

-- entries

pub length_values : (es : List Piece) → length (values es) ≡ length es
length_values [] = refl
length_values (e ∷ es) = ap suc (length_values es)

pub values_closed : (n : ℕ) (es : List Piece) → SoundEntries n es → AllClosed (values es)
values_closed n [] h = tt
values_closed n (e ∷ es) h =
    let behind = values_closed n es h.1 in
    (pieces.plugged_covered 0 (values es) e behind h.0.closed, behind)

pub piece_more : (n b c : ℕ) (p : Piece) → b ≤ c → SoundPiece n b p → SoundPiece n c p
piece_more n b c p le h = record { closed = h.closed; earlier = omega arith; small = h.small }

pub stack_more : (n b c : ℕ) (us : List Piece) → b ≤ c → SoundStack n b us → SoundStack n c us
stack_more n b c [] le h = tt
stack_more n b c (u ∷ us) le h = (piece_more n b c u le h.0, stack_more n b c us le h.1)

-- the entry of a β transition names only earlier ones
pub entry_sound : (n : ℕ) (es : List Piece) (j : ℕ) → SoundEntries n es → j < length es → SoundPiece n j (entry_of es j)
entry_sound n [] j h lt = absurd (omega arith)
entry_sound n (e ∷ es) j h lt =
    elim (eqb j (length es)) as (λ b. eqb j (length es) ≡ b → SoundPiece n j (cond b e (entry_of es j))) [
      | true ↦ λ t. piece_more n (length es) j e (omega (arith, eqb-true j (length es) t)) h.0
      | false ↦ λ f. entry_sound n es j h.1 (omega (arith, eqb-false j (length es) f))
    ] refl

-- what a filled place stands for is what its entry does
pub value_of : (n : ℕ) (es : List Piece) (j : ℕ) → SoundEntries n es → j < length es → numbered (term.ingredient 0) (values es) j ≡ plugged (values es) (entry_of es j)
value_of n [] j h lt = absurd (omega arith)
value_of n (e ∷ es) j h lt =
    let same = length_values es in
    let u = plugged (values es) e in
    let value = numbered (term.ingredient 0) (values es) j in
    ap (λ m. cond (eqb j m) u value) same
    ∙ elim (eqb j (length es)) as (λ b. eqb j (length es) ≡ b → cond b u value ≡ plugged (u ∷ values es) (cond b e (entry_of es j))) [
      | true ↦ λ t. sym (pieces.plugged_weaker u (values es) e (omega (arith, h.0.earlier)))
      | false ↦ λ f.
          let behind : j < length es = omega (arith, eqb-false j (length es) f) in
          value_of n es j h.1 behind
          ∙ sym (pieces.plugged_weaker u (values es) (entry_of es j) (omega (arith, (entry_sound n es j h.1 behind).earlier)))
    ] refl
