-- A step of the abstract machine, as the answer to a call. Assumes nothing.
use Rattle.std.specs.Prelude.{◌≡◌, Result}
use Rattle.machine.specs.declared.faults.MachineFault.{MachineFault}
use Rattle.machine.specs.declared.outcomes.Outcome.{Outcome}
use Rattle.machine.specs.Rules.{outcome_due}
use Rattle.abstract_machine.specs.Configurations.{Configuration, explained, stepped}
use Rattle.closure_tables.specs.Presented.{no_price}

-- the step from x is answered r and leads to y
pub record StepsAs (x : Configuration) (r : Result Outcome MachineFault) (y : Configuration) : Type 0 where
  pub answer : r ≡ outcome_due (explained no_price x)
  pub after : y ≡ stepped no_price x
