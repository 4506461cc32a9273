-- What a machine did since a start. Assumes nothing.
use Rattle.std.specs.Prelude.{◌≡◌, ℕ, List, [], ◌∷◌, ◌++◌, Ok}
use Rattle.term.specs.Terms.{Term, size}
use Rattle.code.specs.Verdicts.{verdict, accepted}
use Rattle.machine.specs.declared.transitions.Transition.{Transition}
use Rattle.machine.specs.declared.outcomes.Outcome.TheVariants.{Made}
use Rattle.machine.specs.Meanings.{Meaning, Sound}
use Rattle.machine.specs.Rules.{AfterStart, AfterStep}

-- A machine took the code of a term, and made these transitions since, the newest first; it means this now.
-- Each constructor holds what follows from the contracts of `start` and `step` and from the law of a machine.
pub data Run : Term → List Transition → Meaning → Type 0 where
  started : {t : Term} {bs : List ℕ} {s : ℕ} {m n : Meaning} → verdict bs ≡ accepted t → AfterStart bs m (Ok s) n → Sound n → Run t [] n
  stepped : {t : Term} {ks : List Transition} {k : Transition} {m n : Meaning} → Run t ks m → AfterStep m (Ok (Made k)) n → Sound n → Run t (k ∷ ks) n

-- transitions in a row, the newest first, from one meaning to another
pub data Moves : Meaning → List Transition → Meaning → Type 0 where
  unmoved : {m : Meaning} → Moves m [] m
  moved : {m : Meaning} {ks : List Transition} {k : Transition} {n o : Meaning} → Moves m ks n → AfterStep n (Ok (Made k)) o → Sound o → Moves m (k ∷ ks) o

-- a run begins with each start that is accepted, and goes on with whatever transitions are made; capacities stay
pub record RunsGrow : Type 0 where
  pub begins : (bs : List ℕ) (s : ℕ) (m n : Meaning) → AfterStart bs m (Ok s) n → Sound n → (t : Term) × (verdict bs ≡ accepted t) × (size t ≡ s) × Run t [] n
  pub goes_on : (t : Term) (ks js : List Transition) (m n : Meaning) → Run t ks m → Moves m js n → Run t (js ++ ks) n
  pub capacity : (js : List Transition) (m n : Meaning) → Moves m js n → n.capacity ≡ m.capacity
