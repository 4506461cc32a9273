-- The right sides that wait. Assumes nothing.
use Rattle.std.specs.Prelude.{ℕ, List, [], ◌∷◌, length, reverse, take, drop, Option}
use Rattle.std.specs.List.{slice_get}
use Rattle.writer.specs.declared.pending.Pending.{Pending}

-- their positions, the latest first, and how many places there are for them
pub record Waiting : Type 0 where
  pub positions : List ℕ
  pub places : ℕ

abbrev pub waiting : Pending → Waiting
waiting p = record { positions = reverse (take p.count p.places.now); places = length p.places.now }

abbrev pub none_wait : ℕ → Waiting
none_wait n = record { positions = []; places = n }

-- one more waits
abbrev pub pushed : ℕ → Waiting → Waiting
pushed p w = record w { positions = p ∷ w.positions }

-- the next position, and those that wait meanwhile
pub record Ahead : Type 0 where
  pub next : Option ℕ
  pub waiting : Waiting

abbrev pub ahead : Option ℕ → Pending → Ahead
ahead r p = record { next = r; waiting = waiting p }

-- the latest of those that wait comes next
abbrev pub popped : Waiting → Ahead
popped w = record { next = slice_get w.positions 0; waiting = record w { positions = drop 1 w.positions } }
