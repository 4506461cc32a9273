-- The abstract machine: search, β and substitution on pieces. Assumes nothing.
use Rattle.std.specs.Prelude.{ℕ, List, [], ◌∷◌, map, length}
use Rattle.term.specs.Terms as term
use Rattle.term.specs.Terms.{Term}
use Rattle.machine.specs.declared.transitions.Transition.TheVariants.{Beta, Substitution, Search}
use Rattle.machine.specs.Meanings.{Due, transition, done}
use Rattle.abstract_machine.specs.Pieces.{Piece, place, ingredient, function, application, filled, unfilled, opened, numbered, plugged}

-- the piece in hand, the arguments that wait for it, the nearest first, and the entries: the argument of each β transition, the latest first
pub record State : Type 0 where
  pub hand : Piece
  pub stack : List Piece
  pub entries : List Piece

abbrev pub initial : Term → State
initial t = record { hand = unfilled t; stack = []; entries = [] }

-- what comes next, by the piece in hand and the arguments; a bare place is never in hand
abbrev pub due_at : Piece → List Piece → Due
due_at (place k) us = done
due_at (ingredient i) us = done
due_at (function p) [] = done
due_at (function p) (u ∷ us) = transition Beta
due_at (application p q) us = transition Search
due_at (filled j) us = transition Substitution

abbrev pub due_of : State → Due
due_of s = due_at s.hand s.stack

-- the argument that a β transition bound
abbrev pub entry_of : List Piece → ℕ → Piece
entry_of es j = numbered (ingredient 0) es j

-- the transition that is due, made; where none is, nothing changes
abbrev pub next_of : Piece → List Piece → List Piece → State
next_of (place k) us es = record { hand = place k; stack = us; entries = es }
next_of (ingredient i) us es = record { hand = ingredient i; stack = us; entries = es }
next_of (function p) [] es = record { hand = function p; stack = []; entries = es }
next_of (function p) (u ∷ us) es = record { hand = opened 0 (length es) p; stack = us; entries = u ∷ es }
next_of (application p q) us es = record { hand = p; stack = q ∷ us; entries = es }
next_of (filled j) us es = record { hand = entry_of es j; stack = us; entries = es }

abbrev pub next : State → State
next s = next_of s.hand s.stack s.entries

-- the term that each entry stands for, which names only earlier ones
abbrev pub values : List Piece → List Term
values [] = []
values (e ∷ es) = plugged (values es) e ∷ values es

-- a term applied to arguments, the nearest first
abbrev pub applied_to : Term → List Term → Term
applied_to t [] = t
applied_to t (u ∷ us) = applied_to (term.application t u) us

-- the term that a state stands for
abbrev pub unfolded : State → Term
unfolded s = applied_to (plugged (values s.entries) s.hand) (map (plugged (values s.entries)) s.stack)
