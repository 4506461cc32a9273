-- What a writer of codes answers and leaves in its buffers. Assumes nothing.
use Rattle.std.specs.Prelude.{◌≡◌, ℕ, if◌then◌else◌, List, ◌++◌, length, drop, replicate, Some, None, Ok, Err, Option, Result, nat_le, nat_lt}
use Rattle.term.specs.Terms.{Term, code}
use Rattle.machine.specs.declared.faults.MachineFault.{MachineFault}
use Rattle.machine.specs.declared.faults.MachineFault.TheVariants.{ShortScratch, ShortOutput}

-- the answer of a write, and its two buffers afterwards
pub record Written : Type 0 where
  pub answer : Result ℕ MachineFault
  pub output : List ℕ
  pub scratch : List ℕ

-- a write comes to w: that is its answer r, and o and s are its buffers afterwards
pub record AfterWrite (w : Written) (r : Result ℕ MachineFault) (o s : List ℕ) : Type 0 where
  pub answer : r ≡ w.answer
  pub output : o ≡ w.output
  pub scratch : s ≡ w.scratch

-- a refusal that leaves the buffers as they are
abbrev pub left_alone : MachineFault → List ℕ → List ℕ → Written
left_alone f output scratch = record { answer = Err f; output = output; scratch = scratch }

abbrev pub zeros : List ℕ → List ℕ
zeros xs = replicate (length xs) 0

-- what is written does not fit: the output is wiped
abbrev pub wiped : List ℕ → List ℕ → Written
wiped output scratch = record { answer = Err ShortOutput; output = zeros output; scratch = zeros scratch }

-- bytes at the front of the output, where they fit it
abbrev pub put_bytes : List ℕ → List ℕ → List ℕ → Written
put_bytes bs output scratch =
    if nat_le (length bs) (length output)
    then record { answer = Ok (length bs); output = bs ++ drop (length bs) output; scratch = zeros scratch }
    else wiped output scratch

-- the code of a term, or of nothing, which no output has room for
abbrev pub put_code : Option Term → List ℕ → List ℕ → Written
put_code None output scratch = wiped output scratch
put_code (Some t) output scratch = put_bytes (code t) output scratch

-- the writing of a term with a scratch, which needs a place for each byte of the output
abbrev pub written : Option Term → List ℕ → List ℕ → Written
written t output scratch =
    if nat_lt (length scratch) (length output)
    then left_alone ShortScratch output scratch
    else put_code t output scratch
