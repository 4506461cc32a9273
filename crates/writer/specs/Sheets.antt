-- The output while it is written. Assumes nothing.
use Rattle.std.specs.Prelude.{◌≡◌, ℕ, ◌<◌, ◌≤◌, List, ◌++◌, length, take, drop, Option, MatchOption}
use Rattle.writer.specs.declared.sheet.Sheet.{Sheet}

-- the bytes that are written
abbrev pub text : Sheet → List ℕ
text s = take s.end s.output.now

-- the places behind them
abbrev pub blank : Sheet → List ℕ
blank s = drop s.end s.output.now

-- bytes are put behind the text
abbrev pub Put : List ℕ → Sheet → Sheet → Type 0
Put bs s s' = (length bs ≤ length (blank s)) × (text s' ≡ text s ++ bs) × (blank s' ≡ drop (length bs) (blank s))

-- after bytes were to be put: r says whether they had room
abbrev pub AfterPut : {A : Type 0} → List ℕ → Sheet → Option A → Sheet → Type 0
AfterPut bs s r s' = MatchOption r (length (blank s) < length bs) (λ _. Put bs s s')
