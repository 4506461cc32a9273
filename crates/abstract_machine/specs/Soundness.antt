-- What is kept of a state by every transition. Assumes nothing.
use Rattle.std.specs.Prelude.{ℕ, ◌≤◌, Bool, true, ◌&&◌, List, [], ◌∷◌, length, nat_le}
use Rattle.abstract_machine.specs.Pieces.{Piece, weight, reach, outer}
use Rattle.abstract_machine.specs.States.{State}

-- a piece with no free place, that names none but the first b entries, and has at most n nodes
pub record SoundPiece (n b : ℕ) (p : Piece) : Type 0 where
  pub closed : outer p ≤ 0
  pub earlier : reach p ≤ b
  pub small : weight p ≤ n

abbrev pub SoundStack : ℕ → ℕ → List Piece → Type 0
SoundStack n b [] = Unit {0}
SoundStack n b (u ∷ us) = SoundPiece n b u × SoundStack n b us

-- each entry names only earlier ones
abbrev pub SoundEntries : ℕ → List Piece → Type 0
SoundEntries n [] = Unit {0}
SoundEntries n (e ∷ es) = SoundPiece n (length es) e × SoundEntries n es

pub record SoundState (n : ℕ) (s : State) : Type 0 where
  pub hand : SoundPiece n (length s.entries) s.hand
  pub stack : SoundStack n (length s.entries) s.stack
  pub entries : SoundEntries n s.entries

-- the same as a test, for the invariant of a machine
abbrev pub sound_piece : ℕ → ℕ → Piece → Bool
sound_piece n b p = nat_le (outer p) 0 && (nat_le (reach p) b && nat_le (weight p) n)

abbrev pub sound_stack : ℕ → ℕ → List Piece → Bool
sound_stack n b [] = true
sound_stack n b (u ∷ us) = sound_piece n b u && sound_stack n b us

abbrev pub sound_entries : ℕ → List Piece → Bool
sound_entries n [] = true
sound_entries n (e ∷ es) = sound_piece n (length es) e && sound_entries n es

abbrev pub sound_state : ℕ → State → Bool
sound_state n s =
    sound_piece n (length s.entries) s.hand &&
    (sound_stack n (length s.entries) s.stack && sound_entries n s.entries)
