-- The right sides that wait. Assumes nothing.
use Rattle.std.specs.Prelude.{ℕ, zero, suc, List, [], ◌∷◌, slice_index}
use Rattle.reading.specs.declared.right_sides.RightSide.{RightSide}
use Rattle.reading.specs.declared.right_sides.RightSides.{RightSides}

-- the first k rows of the two tables, the topmost first
abbrev pub rows : List ℕ → List ℕ → ℕ → List RightSide
rows applications depths zero = []
rows applications depths (suc k) = record { application = slice_index applications k; depth = slice_index depths k } ∷ rows applications depths k

-- those that wait, the topmost first
abbrev pub top_down : RightSides → List RightSide
top_down s = rows s.applications s.depths s.count
