-- Tables of a term's cells present the term, and are valid. Assumes nothing.
use Rattle.std.proofs.Common.{◌≡◌, ℕ, zero, suc, ◌+◌, ◌-◌, ◌≤◌, true, ltb, List, [], ◌∷◌, ◌++◌, length, get_or, fold, sym, refl, ap, ◌∙◌, subst, append_assoc, append-nil, arith, length-append}
use Rattle.std.proofs.lemmas.List.{get_or_at, length_push}
use Rattle.std.proofs.lemmas.Bool.{and_from, cond-true, lt-ltb}
use Rattle.std.specs.List.{slice_get}
use Rattle.term.specs.Terms.{Term, place, ingredient, function, application, size, Covered, Recipe}
use Rattle.code.specs.Scans.{handed_over}
use Rattle.code.specs.Verdicts.{accepted, verdict}
use Rattle.code.specs.Law.{ReadingLaw}
use Rattle.code.proofs.Lists.{size_some}
use Rattle.abstract_machine.specs.Pieces as piece
use Rattle.abstract_machine.specs.Pieces.{unfilled}
use Rattle.abstract_machine.specs.States.{initial}
use Rattle.abstract_machine.specs.Soundness.{SoundState}
use Rattle.abstract_machine.proofs.Transitions.{initial_sound}
use Rattle.closure_tables.specs.declared.rows.Cell.{Cell}
use Rattle.closure_tables.specs.declared.rows.Cell.TheVariants as cell
use Rattle.closure_tables.specs.Tables.{blank_cell, blank_argument}
use Rattle.closure_tables.specs.Presented.{filled_by, cell_piece, piece_at, presented}
use Rattle.closure_tables.specs.Valid.{each, cell_inside, valid}
use Rattle.closure_tables.specs.Received.{nothing_received, received, cells_of, started}
use Rattle.closure_tables.proofs.Each.{each_append}
use Rattle.closure_tables.proofs.Kept.{Kept, kept_valid, argument_test}
use Rattle.closure_tables.proofs.Storing.{length_cells, stores_code}

-- where a list of cells has t's from node n on, the piece there is t with no place filled
pub presents_term :
    (m : ℕ) (before after : List Cell) (d n : ℕ) (t : Term) → length before ≡ n → size t ≤ m → Covered d t →
    piece_at m (before ++ (cells_of n t ++ after)) [] d n ≡ unfilled t
presents_term zero before after d n t long h c = absurd (omega (arith, size_some t))
presents_term (suc m) before after d n (place k) long h c =
    ap (cell_piece (piece_at m (before ++ cell.Place k ∷ after) []) [] d n) (get_or_at before (cell.Place k) after blank_cell n long)
    ∙ cond-true (ltb k d) (piece.place k) (filled_by (slice_get [] (k - d)) k) (lt-ltb k d c)
presents_term (suc m) before after d n (ingredient i) long h c =
    ap (cell_piece (piece_at m (before ++ cell.Ingredient i ∷ after) []) [] d n) (get_or_at before (cell.Ingredient i) after blank_cell n long)
presents_term (suc m) before after d n (function t) long h c =
    let x = cell.Function in
    let rest = cells_of (suc n) t ++ after in
    let more : length (before ++ x ∷ []) ≡ suc n = length_push before x ∙ omega arith in
    ap (cell_piece (piece_at m (before ++ x ∷ rest) []) [] d n) (get_or_at before x rest blank_cell n long)
    ∙ ap (λ l. piece.function (piece_at m l [] (suc d) (suc n))) (sym (append_assoc before (x ∷ []) rest))
    ∙ ap piece.function (presents_term m (before ++ x ∷ []) after (suc d) (suc n) t more (omega arith) c)
presents_term (suc m) before after d n (application t u) long h c =
    let right = suc n + size t in
    let x = cell.Application right in
    let ts = cells_of (suc n) t in
    let us = cells_of right u in
    let cells = before ++ x ∷ (ts ++ us ++ after) in
    let more : length (before ++ x ∷ []) ≡ suc n = length_push before x ∙ omega arith in
    let most : length ((before ++ x ∷ []) ++ ts) ≡ right = length-append (before ++ x ∷ []) ts ∙ omega (arith, length_cells (suc n) t) in
    let split : cells ≡ (before ++ x ∷ []) ++ (ts ++ (us ++ after)) = simp append_assoc in
    let apart : cells ≡ ((before ++ x ∷ []) ++ ts) ++ (us ++ after) = simp append_assoc in
    let one : piece_at m cells [] d (suc n) ≡ unfilled t
    = ap (λ l. piece_at m l [] d (suc n)) split ∙ presents_term m (before ++ x ∷ []) (us ++ after) d (suc n) t more (omega arith) c.0 in
    let two : piece_at m cells [] d right ≡ unfilled u
    = ap (λ l. piece_at m l [] d right) apart ∙ presents_term m ((before ++ x ∷ []) ++ ts) after d right u most (omega arith) c.1 in
    let here : get_or cells n blank_cell ≡ x = get_or_at before x (ts ++ us ++ after) blank_cell n long in
    ap (cell_piece (piece_at m cells []) [] d n) here ∙ cc

pub presents_initial : (t : Term) → Covered 0 t → presented (started (cells_of 0 t)) ≡ initial t
presents_initial t c =
    let whole : piece_at (length (cells_of 0 t)) (cells_of 0 t) [] 0 0 ≡ unfilled t
    = ap (λ l. piece_at (length (cells_of 0 t)) l [] 0 0) (sym (append-nil (cells_of 0 t)))
    ∙ presents_term (length (cells_of 0 t)) [] [] 0 0 t refl (omega (arith, length_cells 0 t)) c in
    ap (λ p. record { hand = p; stack = []; entries = [] }) whole

-- the parts of each cell lie further on, among m cells
cells_inside : (m n : ℕ) (t : Term) → n + size t ≤ m → each (cell_inside m) n (cells_of n t) ≡ true
cells_inside m n (place k) h = refl
cells_inside m n (ingredient i) h = refl
cells_inside m n (function t) h =
    and_from _ _ (lt-ltb (suc n) m (omega (arith, size_some t))) (cells_inside m (suc n) t (omega arith))
cells_inside m n (application t u) h =
    let right = suc n + size t in
    let same : right ≡ suc n + length (cells_of (suc n) t) = omega (arith, length_cells (suc n) t) in
    and_from _ _
    (and_from _ _ (lt-ltb n right (omega arith)) (lt-ltb right m (omega (arith, size_some u))))
    (each_append (cell_inside m) (suc n) (cells_of (suc n) t) (cells_of right u) (cells_inside m (suc n) t (omega arith))
    (subst (λ k. each (cell_inside m) k (cells_of right u) ≡ true) same (cells_inside m right u (omega arith))))

pub started_kept : (t : Term) → Recipe t → Kept (started (cells_of 0 t))
started_kept t recipe =
    let cells = cells_of 0 t in
    let long = length_cells 0 t in
    record {
      few = omega (arith, recipe.small);
      cells = cells_inside (length cells) 0 t (omega arith);
      entries = refl;
      stack = refl;
      hand = argument_test (length cells) 0 blank_argument (record { node = omega (arith, size_some t); chain = omega arith });
      sound = subst (λ n. SoundState n (presented (started cells))) (sym long) (subst (SoundState (size t)) (sym (presents_initial t recipe.closed)) (initial_sound t recipe.closed));
    }

pub started_valid : (t : Term) → Recipe t → valid (started (cells_of 0 t)) ≡ true
started_valid t recipe = kept_valid (started (cells_of 0 t)) (omega (arith, size_some t, length_cells 0 t)) (started_kept t recipe)

-- what cells are to the term that was read
pub record StartedTables (t : Term) (cells : List Cell) : Type 0 where
  pub counted : length cells ≡ size t
  pub presents : presented (started cells) ≡ initial t
  pub valid : valid (started cells) ≡ true

pub term_started : (t : Term) → Recipe t → StartedTables t (cells_of 0 t)
term_started t recipe = record { counted = length_cells 0 t; presents = presents_initial t recipe.closed; valid = started_valid t recipe }

-- the cells that a table with room enough has after an accepted code was read
pub code_started :
    (bs : List ℕ) (t : Term) (capacity : ℕ) → ReadingLaw bs → verdict bs ≡ accepted t → size t ≤ capacity →
    StartedTables t (fold received (nothing_received capacity) (handed_over bs)).cells
code_started bs t capacity law e h =
    subst (StartedTables t) (sym (ap (λ r. r.cells) (stores_code bs t capacity law e h))) (term_started t ((law.accepts_exactly t).0 e).1)
