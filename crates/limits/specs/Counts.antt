-- The numbers in which the limits of a machine are stated. Assumes nothing.
use Rattle.std.specs.Prelude.{◌≡◌, ℕ, zero, suc, ◌+◌, ◌*◌, if◌then◌else◌, List, [], ◌∷◌, ◌==◌}
use Rattle.machine.specs.declared.transitions.Transition.{Transition}
use Rattle.machine.specs.Outcomes.{transition_number}

-- 1 + 2 + .. + n
abbrev pub triangle : ℕ → ℕ
triangle zero = 0
triangle (suc n) = triangle n + suc n

-- which is half of n (n + 1)
abbrev pub Triangles : Type 0
Triangles = (n : ℕ) → 2 * triangle n ≡ n * (n + 1)

-- how often a kind of transition occurs
abbrev pub count_of : Transition → List Transition → ℕ
count_of k [] = 0
count_of k (j ∷ js) = if transition_number j == transition_number k then suc (count_of k js) else count_of k js

-- what no table and no number of transitions exceeds where a term of s nodes has had b β transitions
abbrev pub most_work : ℕ → ℕ → ℕ
most_work s b = s * suc (triangle b)
