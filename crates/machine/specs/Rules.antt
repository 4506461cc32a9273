-- The rules that the calls on a machine obey, as relations between what it means before and after. Assumes nothing.
use Rattle.std.specs.Prelude.{◌≡◌, ℕ, suc, ◌+◌, ◌-◌, ◌<◌, ◌≤◌, if◌then◌else◌, List, Some, None, Ok, Err, Result, nat_le, nat_lt}
use Rattle.node.specs.declared.faults.Fault.{Fault}
use Rattle.term.specs.Terms.{Term, size}
use Rattle.term.specs.Reduction.{Step}
use Rattle.code.specs.Verdicts.{verdict, accepted, told}
use Rattle.machine.specs.declared.faults.MachineFault.{MachineFault}
use Rattle.machine.specs.declared.faults.MachineFault.TheVariants as refusal
use Rattle.machine.specs.declared.transitions.Transition.{Transition}
use Rattle.machine.specs.declared.transitions.Transition.TheVariants.{Beta, Substitution, Search}
use Rattle.machine.specs.declared.outcomes.Table.TheVariants.{Stack, Entries, Nodes}
use Rattle.machine.specs.declared.outcomes.Outcome.{Outcome}
use Rattle.machine.specs.declared.outcomes.Outcome.TheVariants.{Made, Done, Full}
use Rattle.machine.specs.Meanings.{Places, Due, transition, done, Standing, Meaning}
use Rattle.machine.specs.Writing.{Written, written, left_alone}

-- what a start answers of a code with that verdict, where no term stands
abbrev pub sized : ℕ → Result ℕ Fault → Result ℕ MachineFault
sized capacity (Ok s) = if nat_le s capacity then Ok s else Err refusal.TooLarge
sized capacity (Err f) = Err (refusal.Code f)

abbrev pub start_of : List ℕ → Meaning → Result ℕ MachineFault
start_of bs m = elim m.standing [ Some s ↦ Err refusal.Standing | None ↦ sized m.capacity.nodes (told (verdict bs)) ]

-- the term t stands from now on
pub record Stands (t : Term) (m n : Meaning) : Type 0 where
  pub to : Standing
  pub stands : n.standing ≡ Some to
  pub capacity : n.capacity ≡ m.capacity
  pub free : n.free ≡ record { stack = m.capacity.stack; entries = m.capacity.entries; nodes = m.capacity.nodes - size t }
  pub term : to.term ≡ t
  pub loaded : to.loaded ≡ size t
  pub betas : to.betas ≡ 0
  pub weight : to.weight ≡ size t
  pub reach : to.reach ≡ 0

abbrev pub StartEffect : List ℕ → Meaning → Result ℕ MachineFault → Meaning → Type 0
StartEffect bs m (Ok s) n = (t : Term) → verdict bs ≡ accepted t → Stands t m n
StartEffect bs m (Err f) n = n ≡ m

pub record AfterStart (bs : List ℕ) (m : Meaning) (r : Result ℕ MachineFault) (n : Meaning) : Type 0 where
  pub answer : r ≡ start_of bs m
  pub effect : StartEffect bs m r n

abbrev pub emptied : Meaning → Meaning
emptied m = record { capacity = m.capacity; free = m.capacity; standing = None }

-- whether there are places for a transition
abbrev pub afforded : Places → ℕ → Transition → Outcome
afforded free price Beta = if nat_lt 0 free.entries then Made Beta else Full Entries
afforded free price Substitution = if nat_le price free.nodes then Made Substitution else Full Nodes
afforded free price Search = if nat_lt 0 free.stack then Made Search else Full Stack

abbrev pub outcome_of : Places → ℕ → Due → Outcome
outcome_of free price (transition k) = afforded free price k
outcome_of free price done = Done

abbrev pub outcome_due : Meaning → Result Outcome MachineFault
outcome_due m = elim m.standing [ Some s ↦ Ok (outcome_of m.free s.price s.due) | None ↦ Err refusal.Empty ]

-- what each kind of transition does, from s with the places f free to t with g; a β transition contracts the head redex
pub record Searched (f : Places) (s : Standing) (g : Places) (t : Standing) : Type 0 where
  pub term : t.term ≡ s.term
  pub betas : t.betas ≡ s.betas
  pub weight : t.weight < s.weight
  pub reach : t.reach ≤ s.reach
  pub stack : f.stack ≡ suc g.stack
  pub entries : g.entries ≡ f.entries
  pub nodes : g.nodes ≡ f.nodes

pub record Substituted (f : Places) (s : Standing) (g : Places) (t : Standing) : Type 0 where
  pub term : t.term ≡ s.term
  pub betas : t.betas ≡ s.betas
  pub weight : t.weight ≤ s.loaded
  pub reach : t.reach < s.reach
  pub stack : g.stack ≡ f.stack
  pub entries : g.entries ≡ f.entries
  pub nodes : f.nodes ≡ g.nodes + s.price

pub record Contracted (f : Places) (s : Standing) (g : Places) (t : Standing) : Type 0 where
  pub term : Step s.term t.term
  pub betas : t.betas ≡ suc s.betas
  pub weight : t.weight < s.weight
  pub reach : t.reach ≤ t.betas
  pub stack : g.stack ≡ suc f.stack
  pub entries : f.entries ≡ suc g.entries
  pub nodes : g.nodes ≡ f.nodes

abbrev pub Rule : Transition → Places → Standing → Places → Standing → Type 0
Rule Beta = Contracted
Rule Substitution = Substituted
Rule Search = Searched

-- a transition is made: a term stood and stands, and the rule of that kind holds
pub record Moved (k : Transition) (m n : Meaning) : Type 0 where
  pub from : Standing
  pub to : Standing
  pub stood : m.standing ≡ Some from
  pub stands : n.standing ≡ Some to
  pub capacity : n.capacity ≡ m.capacity
  pub loaded : to.loaded ≡ from.loaded
  pub rule : Rule k m.free from n.free to

abbrev pub StepEffect : Meaning → Result Outcome MachineFault → Meaning → Type 0
StepEffect m (Ok (Made k)) n = Moved k m n
StepEffect m (Ok Done) n = n ≡ m
StepEffect m (Ok (Full t)) n = n ≡ m
StepEffect m (Err f) n = n ≡ m

pub record AfterStep (m : Meaning) (r : Result Outcome MachineFault) (n : Meaning) : Type 0 where
  pub answer : r ≡ outcome_due m
  pub effect : StepEffect m r n

abbrev pub write_of : Meaning → List ℕ → List ℕ → Written
write_of m output scratch =
    elim m.standing [ Some s ↦ written (Some s.term) output scratch | None ↦ left_alone refusal.Empty output scratch ]
