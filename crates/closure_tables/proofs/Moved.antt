-- Each transition on tables is the one of the abstract machine, and keeps them valid. Assumes nothing.
use Rattle.std.proofs.Common.{◌≡◌, ℕ, suc, ◌+◌, ◌-◌, ◌<◌, true, List, [], ◌∷◌, ◌++◌, map, reverse, length, get_or, take, Some, None, sym, ap, ◌∙◌, subst, arith, length-append, take-suc}
use Rattle.std.proofs.lemmas.Bool.Decides.{nat_tests}
use lib.Seq.{take-length, get_or-append_seam}
use Rattle.std.proofs.lemmas.List.{nil_from_length}
use Rattle.std.proofs.lemmas.Bool.{and_parts, and_from, le-leb}
use Rattle.std.specs.List.{slice_get}
use Rattle.machine.specs.declared.transitions.Transition.TheVariants.{Beta, Substitution, Search}
use Rattle.machine.specs.Meanings.{transition, done}
use Rattle.abstract_machine.specs.Pieces.{Piece, function, filled, opened}
use Rattle.abstract_machine.specs.States.{State, due_at, due_of, next_of, next}
use Rattle.abstract_machine.specs.Soundness.{SoundState}
use Rattle.abstract_machine.proofs.Transitions.{state_law}
use Rattle.closure_tables.specs.declared.rows.Cell.{Cell}
use Rattle.closure_tables.specs.declared.rows.Cell.TheVariants as cell
use Rattle.closure_tables.specs.declared.rows.Argument.{Argument}
use Rattle.closure_tables.specs.declared.rows.Entry.{Entry}
use Rattle.closure_tables.specs.Tables.{blank_cell, blank_argument, blank_entry, Tables}
use Rattle.closure_tables.specs.Presented.{chain_of, chain_in, filled_by, cell_piece, piece_at, closure_of, entry_piece, presented}
use Rattle.closure_tables.specs.Valid.{each, argument_inside, entry_inside}
use Rattle.closure_tables.specs.Moves.{descended, entered, fetched}
use Rattle.closure_tables.proofs.Each.{each_here, each_push, each_front, each_weaker}
use Rattle.closure_tables.proofs.Latest.{latest_push, latest_same, length_latest, numbered_latest}
use Rattle.closure_tables.proofs.Chains.{chain_low}
use Rattle.closure_tables.proofs.Pieces.{piece_here, piece_opened}
use Rattle.closure_tables.proofs.Kept.{Kept, argument_is, argument_test, argument_more, onward, sides_inside, body_inside, entry_is, falling, chain_more, closure_more}

-- the cell in hand, and the chain in hand
abbrev pub Hand : Tables → Cell → Type 0
Hand t x = get_or t.cells t.hand.node blank_cell ≡ x

abbrev pub hand_chain : Tables → List ℕ
hand_chain t = chain_in t.entries t.hand.chain

-- the piece at a node under d functions, with the chain in hand
abbrev pub part : Tables → ℕ → ℕ → Piece
part t d i = piece_at (length t.cells) t.cells (hand_chain t) d i

abbrev stack_of : Tables → List Piece
stack_of t = (presented t).stack

abbrev entries_of : Tables → List Piece
entries_of t = (presented t).entries

pub hand_is : (t : Tables) → Kept t → (x : Cell) → Hand t x → (presented t).hand ≡ cell_piece (part t) (hand_chain t) 0 t.hand.node x
hand_is t k x is = grind (arith, nat_tests, argument_is, piece_here, onward)

-- where the piece in hand is p, what is due and comes next is what p says
due_is : (t : Tables) (p : Piece) → (presented t).hand ≡ p → due_of (presented t) ≡ due_at p (stack_of t)
due_is t p is = ap (λ q. due_at q (stack_of t)) is

next_is : (t : Tables) (p : Piece) → (presented t).hand ≡ p → next (presented t) ≡ next_of p (stack_of t) (entries_of t)
next_is t p is = ap (λ q. next_of q (stack_of t) (entries_of t)) is

next_sound : (t : Tables) → Kept t → (s : State) → s ≡ next (presented t) → SoundState (length t.cells) s
next_sound t k s is = subst (SoundState (length t.cells)) (sym is) (state_law (length t.cells) (presented t) k.sound).sound

-- search

pub search_due : (t : Tables) → Kept t → (r : ℕ) → Hand t (cell.Application r) → due_of (presented t) ≡ transition Search
search_due t k r is = due_is t _ (hand_is t k (cell.Application r) is)

pub search_next : (t : Tables) → Kept t → (r : ℕ) → Hand t (cell.Application r) → presented (descended r t) ≡ next (presented t)
search_next t k r is =
    let f = closure_of t.cells t.entries in
    let left = part t 0 (suc t.hand.node) in
    let pushed : map f (reverse (t.stack ++ record { node = r; chain = t.hand.chain } ∷ [])) ≡ part t 0 r ∷ stack_of t
    = latest_push f t.stack (record { node = r; chain = t.hand.chain }) in
    ap (λ s. record { hand = left; stack = s; entries = entries_of t }) pushed
    ∙ sym (next_is t _ (hand_is t k (cell.Application r) is))

pub search_kept : (t : Tables) → Kept t → (r : ℕ) → Hand t (cell.Application r) → Kept (descended r t)
search_kept t k r is =
    let n = length t.cells in
    let b = length t.entries in
    let h = argument_is n b t.hand k.hand in
    let p = sides_inside t k t.hand.node r h.node is in
    record {
      few = k.few;
      cells = k.cells;
      entries = k.entries;
      stack = each_push (λ j. argument_inside n b) 0 t.stack _ k.stack (argument_test n b _ (record { node = p.1; chain = h.chain }));
      hand = argument_test n b _ (record { node = p.0; chain = h.chain });
      sound = next_sound t k _ (search_next t k r is);
    }

-- β

-- the stack, with its top apart
top_apart : {X : Type 0} (xs : List X) (d : X) → 0 < length xs → xs ≡ take (length xs - 1) xs ++ get_or xs (length xs - 1) d ∷ []
top_apart xs d h =
    let j = length xs - 1 in
    let all : suc j ≡ length xs = omega arith in
    sym (take-length xs) ∙ ap (λ m. take m xs) (sym all) ∙ take-suc xs j d (omega arith)

top : Tables → Argument
top t = get_or t.stack (length t.stack - 1) blank_argument

rest : Tables → List Argument
rest t = take (length t.stack - 1) t.stack

stack_apart : (t : Tables) → 0 < length t.stack → stack_of t ≡ closure_of t.cells t.entries (top t) ∷ map (closure_of t.cells t.entries) (reverse (rest t))
unfolding top rest
stack_apart t h =
    let f = closure_of t.cells t.entries in
    ap (λ xs. map f (reverse xs)) (top_apart t.stack blank_argument h) ∙ latest_push f (rest t) (top t)

top_inside : (t : Tables) → Kept t → 0 < length t.stack → argument_inside (length t.cells) (length t.entries) (top t) ≡ true
unfolding top
top_inside t k h = each_here (λ j. argument_inside (length t.cells) (length t.entries)) t.stack _ blank_argument k.stack (omega arith)

rest_inside : (t : Tables) → Kept t → 0 < length t.stack → each (λ j. argument_inside (length t.cells) (length t.entries)) 0 (rest t) ≡ true
unfolding rest
rest_inside t k h =
    each_front _ 0 (rest t) _
    (subst (λ xs. each (λ j. argument_inside (length t.cells) (length t.entries)) 0 xs ≡ true) (top_apart t.stack blank_argument h) k.stack)

pub beta_due : (t : Tables) → Kept t → Hand t cell.Function → 0 < length t.stack → due_of (presented t) ≡ transition Beta
beta_due t k is h = due_is t _ (hand_is t k cell.Function is) ∙ ap (due_at (function (part t 1 (suc t.hand.node)))) (stack_apart t h)

-- the chain of the new entry is that in hand behind it
entered_chain : (t : Tables) → Kept t → (a : Argument) → chain_in (t.entries ++ record { argument = a; next = t.hand.chain } ∷ []) (Some (length t.entries)) ≡ length t.entries ∷ hand_chain t
entered_chain t k a =
    let b = length t.entries in
    let new : Entry = record { argument = a; next = t.hand.chain } in
    let low = (argument_is _ _ t.hand k.hand).chain in
    ap (λ c. b ∷ c)
    (ap (λ x. chain_of b (t.entries ++ new ∷ []) x.next) (get_or-append_seam t.entries new [] blank_entry)
    ∙ chain_more t k (new ∷ []) t.hand.chain low b low)

pub beta_next : (t : Tables) → Kept t → Hand t cell.Function → 0 < length t.stack → presented (entered t) ≡ next (presented t)
unfolding top rest
beta_next t k is h =
    let n = length t.cells in
    let b = length t.entries in
    let new : Entry = record { argument = top t; next = t.hand.chain } in
    let f = closure_of t.cells t.entries in
    let g = entry_piece t.cells t.entries in
    let f' = closure_of t.cells (t.entries ++ new ∷ []) in
    let g' = entry_piece t.cells (t.entries ++ new ∷ []) in
    let i = suc t.hand.node in
    let body = part t 1 i in
    let many : length (entries_of t) ≡ b = length_latest g t.entries in
    let hand : f' (record { node = i; chain = Some b }) ≡ opened 0 (length (entries_of t)) body
    = ap (λ c. piece_at n t.cells c 0 i) (entered_chain t k (top t)) ∙ sym (piece_opened n t.cells (hand_chain t) b 0 i) ∙ ap (λ m. opened 0 m body) (sym many) in
    let stack : map f' (reverse (rest t)) ≡ map f (reverse (rest t))
    = latest_same f' f (λ j. argument_inside n b) (rest t) (rest_inside t k h) (λ j a e. closure_more t k (new ∷ []) a e) in
    let old : map g' (reverse t.entries) ≡ map g (reverse t.entries)
    = latest_same g' g (λ j e. argument_inside n b e.argument) t.entries
    (each_weaker (entry_inside n) (λ j e. argument_inside n b e.argument) 0 t.entries (λ j e lt ok. argument_more n j b e.argument (omega arith) (and_parts _ _ ok).0) k.entries)
    (λ j e ok. closure_more t k (new ∷ []) e.argument ok) in
    let newest : f' (top t) ≡ f (top t) = closure_more t k (new ∷ []) (top t) (top_inside t k h) in
    let entries : map g' (reverse (t.entries ++ new ∷ [])) ≡ f (top t) ∷ entries_of t
    = latest_push g' t.entries new ∙ ap (λ x. x ∷ map g' (reverse t.entries)) newest ∙ ap (λ xs. f (top t) ∷ xs) old in
    let after : presented (entered t) ≡ record { hand = opened 0 (length (entries_of t)) body; stack = map f (reverse (rest t)); entries = f (top t) ∷ entries_of t } = cc in
    after
    ∙ sym (next_is t _ (hand_is t k cell.Function is) ∙ ap (λ s. next_of (function body) s (entries_of t)) (stack_apart t h))

pub beta_kept : (t : Tables) → Kept t → Hand t cell.Function → 0 < length t.stack → Kept (entered t)
unfolding top rest
beta_kept t k is h =
    let n = length t.cells in
    let b = length t.entries in
    let i = t.hand.node in
    let new : Entry = record { argument = top t; next = t.hand.chain } in
    let in_hand = argument_is n b t.hand k.hand in
    let long : length (t.entries ++ new ∷ []) ≡ b + 1 = length-append t.entries (new ∷ []) in
    let inner : suc i < n = body_inside t k i in_hand.node is in
    record {
      few = k.few;
      cells = k.cells;
      entries = each_push (entry_inside n) 0 t.entries new k.entries (subst (λ m. entry_inside n m new ≡ true) (omega arith) (and_from _ _ (top_inside t k h) (le-leb _ _ in_hand.chain)));
      stack = each_weaker (λ j. argument_inside n b) (λ j. argument_inside n (length (t.entries ++ new ∷ []))) 0 (rest t) (λ j a lt ok. argument_more n b (length (t.entries ++ new ∷ [])) a (omega arith) ok) (rest_inside t k h);
      hand = argument_test n (length (t.entries ++ new ∷ [])) (record { node = suc i; chain = Some b }) (record { node = inner; chain = omega arith });
      sound = next_sound t k _ (beta_next t k is h);
    }

-- substitution

pub place_is : (t : Tables) → Kept t → (j : ℕ) → Hand t (cell.Place j) → (presented t).hand ≡ filled_by (slice_get (hand_chain t) j) j
place_is t k j is = grind (arith, nat_tests, hand_is)

-- a place in hand is filled
pub place_filled : (t : Tables) → Kept t → (j : ℕ) → Hand t (cell.Place j) → slice_get (hand_chain t) j ≡ None → ⊥
place_filled t k j is empty = grind (arith, nat_tests, place_is)

pub entry_low : (t : Tables) → Kept t → (j e : ℕ) → slice_get (hand_chain t) j ≡ Some e → e < length t.entries
entry_low t k j e is = grind (arith, nat_tests, argument_is, chain_low, falling)

filled_is : (t : Tables) → Kept t → (j e : ℕ) → Hand t (cell.Place j) → slice_get (hand_chain t) j ≡ Some e → (presented t).hand ≡ filled e
filled_is t k j e is found = place_is t k j is ∙ ap (λ o. filled_by o j) found

pub substitution_due : (t : Tables) → Kept t → (j e : ℕ) → Hand t (cell.Place j) → slice_get (hand_chain t) j ≡ Some e → due_of (presented t) ≡ transition Substitution
substitution_due t k j e is found = due_is t _ (filled_is t k j e is found)

-- so a substitution is due at every place
pub place_due : (t : Tables) → Kept t → (j : ℕ) → Hand t (cell.Place j) → due_of (presented t) ≡ transition Substitution
place_due t k j is = grind (arith, nat_tests, place_filled, substitution_due)

pub substitution_next : (t : Tables) → Kept t → (j e : ℕ) → Hand t (cell.Place j) → slice_get (hand_chain t) j ≡ Some e → presented (fetched e t) ≡ next (presented t)
substitution_next t k j e is found = grind (arith, nat_tests, numbered_latest, entry_low, next_is, filled_is)

pub substitution_kept : (t : Tables) → Kept t → (j e : ℕ) → Hand t (cell.Place j) → slice_get (hand_chain t) j ≡ Some e → Kept (fetched e t)
substitution_kept t k j e is found =
    let low = entry_low t k j e found in
    let h = (entry_is t k e low).0 in
    record {
      few = k.few;
      cells = k.cells;
      entries = k.entries;
      stack = k.stack;
      hand = argument_test (length t.cells) (length t.entries) (get_or t.entries e blank_entry).argument (record { node = h.node; chain = omega (arith, h.chain) });
      sound = next_sound t k _ (substitution_next t k j e is found);
    }

-- done

pub function_done : (t : Tables) → Kept t → Hand t cell.Function → length t.stack ≡ 0 → due_of (presented t) ≡ done
function_done t k is none = due_is t _ (hand_is t k cell.Function is) ∙ ap (λ xs. due_at (function (part t 1 (suc t.hand.node))) (map (closure_of t.cells t.entries) (reverse xs))) (nil_from_length t.stack none)

pub ingredient_done : (t : Tables) → Kept t → (j : ℕ) → Hand t (cell.Ingredient j) → due_of (presented t) ≡ done
ingredient_done t k j is = due_is t _ (hand_is t k (cell.Ingredient j) is)
