-- The answer of a count. Assumes nothing.
use Rattle.std.specs.Prelude.{ℕ, if◌then◌else◌, List, Ok, Err, Result, nat_le}
use Rattle.node.specs.declared.faults.Fault.{Fault}
use Rattle.term.specs.Terms.{occurrences, last_ingredient}
use Rattle.code.specs.Verdicts.{Verdict, verdict, accepted, refused}
use Rattle.reading.specs.declared.counter.Counter.{Counter}
use Rattle.reading.specs.declared.counts.CountFault.{CountFault}
use Rattle.reading.specs.declared.counts.CountFault.TheVariants.{UnknownIngredient, Code}

-- a counter of an ingredient that a recipe can have
abbrev pub counter_of : ℕ → Result Counter CountFault
counter_of i = if nat_le i last_ingredient then Ok (record { ingredient = i; found = 0 }) else Err UnknownIngredient

-- how often the ingredient i occurs in a code with that verdict
abbrev pub occurring : ℕ → Verdict → Result ℕ Fault
occurring i (accepted t) = Ok (occurrences i t)
occurring i (refused f) = Err f

abbrev pub in_code : Result ℕ Fault → Result ℕ CountFault
in_code (Ok n) = Ok n
in_code (Err f) = Err (Code f)

-- the ingredient is looked at first, then the code
abbrev pub counted : List ℕ → ℕ → Result ℕ CountFault
counted bs i = elim (counter_of i) [ Ok c ↦ in_code (occurring i (verdict bs)) | Err e ↦ Err e ]
