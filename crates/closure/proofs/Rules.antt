-- The closure machine obeys the rules of a machine. Assumes nothing.
use Rattle.std.specs.Prelude.{◌≡◌, ℕ, ◌-◌, ◌<◌, cond, List, Ok, Result, nat_lt}
use Rattle.std.proofs.Common.{ap, sym, refl, subst, ◌∙◌, arith}
use Rattle.std.proofs.lemmas.Bool.{cond-true, le-leb}
use Rattle.machine.specs.declared.faults.MachineFault.{MachineFault}
use Rattle.machine.specs.declared.outcomes.Outcome.{Outcome}
use Rattle.machine.specs.declared.outcomes.Outcome.TheVariants.{Made, Full}
use Rattle.machine.specs.declared.transitions.Transition.TheVariants.{Beta, Substitution}
use Rattle.machine.specs.declared.outcomes.Table.TheVariants.{Entries, Nodes}
use Rattle.machine.specs.Meanings.{transition}
use Rattle.machine.specs.Rules.{AfterStart, start_of, AfterStep, outcome_due}
use Rattle.abstract_machine.specs.Configurations.{explained, started}
use Rattle.abstract_machine.proofs.Rules as rules
use Rattle.closure_tables.specs.declared.rows.Cell.TheVariants as cell
use Rattle.closure_tables.specs.Presented.{no_price}
use Rattle.closure_tables.specs.Steps.{StepsAs}
use Rattle.closure_tables.proofs.Moved as moved
use Rattle.closure_tables.proofs.Agree as agree
use Rattle.closure.specs.declared.state.Closure.{Closure}
use Rattle.closure.specs.Views.{tables_of, Hand, capacities, places_used, configuration, meaning}
use Rattle.closure.specs.Soundness.{stack_long, configuration_sound}
use Rattle.closure.proofs.Steps.{in_hand, kept_at}

pub after_start : (m m' : Closure) (bs : List ℕ) (r : Result ℕ MachineFault) → r ≡ start_of bs (meaning m) → configuration m' ≡ started no_price bs (configuration m) → AfterStart bs (meaning m) r (meaning m')
after_start m m' bs r answer after =
    subst (λ a. AfterStart bs (meaning m) a (meaning m')) (sym answer)
    (subst (λ y. AfterStart bs (meaning m) (start_of bs (meaning m)) (explained no_price y)) (sym after) (rules.start no_price bs (configuration m)))

pub after_step : (m m' : Closure) (r : Result Outcome MachineFault) → StepsAs (configuration m) r (configuration m') → AfterStep (meaning m) r (meaning m')
after_step m m' r s =
    subst (λ a. AfterStep (meaning m) a (meaning m')) (sym s.answer)
    (subst (λ y. AfterStep (meaning m) (outcome_due (meaning m)) (explained no_price y)) (sym s.after) (rules.step no_price (configuration m) (configuration_sound m)))

-- what a step comes to, by the cell in hand

pub beta_outcome : (m : Closure) → Hand m cell.Function → 0 < m.levels.stack.used → outcome_due (meaning m) ≡ Ok (cond (nat_lt 0 (m.levels.entries.capacity - m.levels.entries.used)) (Made Beta) (Full Entries))
beta_outcome m hand some =
    agree.due_as (capacities m) (places_used m) (tables_of m) (transition Beta) (in_hand m _ hand refl)
    (moved.beta_due (tables_of m) (kept_at m _ hand refl) hand (omega (arith, stack_long m)))

pub place_outcome : (m : Closure) (j : ℕ) → Hand m (cell.Place j) → outcome_due (meaning m) ≡ Ok (Made Substitution)
place_outcome m j hand =
    agree.due_as (capacities m) (places_used m) (tables_of m) (transition Substitution) (in_hand m _ hand refl) (moved.place_due (tables_of m) (kept_at m _ hand refl) j hand)
    ∙ ap Ok (cond-true _ (Made Substitution) (Full Nodes) (le-leb 0 (m.levels.nodes.capacity - m.levels.nodes.used) (omega arith)))
