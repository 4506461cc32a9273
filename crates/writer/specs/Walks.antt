-- What the parts of the writer answer and leave in its buffers. Assumes nothing.
use Rattle.std.specs.Prelude.{◌≡◌, ℕ, List, Some, None, Ok, Option}
use Rattle.term.specs.Terms.{Term}
use Rattle.machine.specs.Writing.{put_code, wiped, zeros}
use Rattle.writer.specs.declared.heads.Head.{Head}
use Rattle.writer.specs.declared.heads.Head.TheVariants.{Application, Function, Place, Ingredient}
use Rattle.writer.specs.Pending.{Waiting, pushed, Ahead, popped}

-- what is ahead behind a head: its first part, while a right side waits for the left one
abbrev pub advanced : Head → Waiting → Ahead
advanced (Application l r) w = record { next = Some l; waiting = pushed r w }
advanced (Function b) w = record { next = Some b; waiting = w }
advanced (Place k) w = popped w
advanced (Ingredient i) w = popped w

-- after a walk: the length of the code that the output holds now, or none where it has no room for the code
abbrev pub AfterWalk : Option Term → List ℕ → Option ℕ → List ℕ → Type 0
AfterWalk t output None output' = (scratch : List ℕ) → put_code t output scratch ≡ wiped output scratch
AfterWalk t output (Some n) output' = (scratch : List ℕ) → put_code t output scratch ≡ record { answer = Ok n; output = output'; scratch = zeros scratch }
