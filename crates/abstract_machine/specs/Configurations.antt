-- The abstract machine with tables of limited length, and what it means. Assumes nothing.
use Rattle.std.specs.Prelude.{◌≡◌, ℕ, suc, ◌+◌, ◌-◌, ◌≤◌, List, length, Some, None, Ok, Err, Option, Result}
use Rattle.term.specs.Terms.{Term, size}
use Rattle.code.specs.Verdicts.{Verdict, verdict, accepted, refused}
use Rattle.machine.specs.declared.faults.MachineFault.{MachineFault}
use Rattle.machine.specs.declared.transitions.Transition.{Transition}
use Rattle.machine.specs.declared.transitions.Transition.TheVariants.{Beta, Substitution, Search}
use Rattle.machine.specs.declared.outcomes.Outcome.{Outcome}
use Rattle.machine.specs.declared.outcomes.Outcome.TheVariants.{Made, Done, Full}
use Rattle.machine.specs.Meanings.{Places, Standing, Meaning, Within, most_places}
use Rattle.machine.specs.Rules.{start_of, outcome_due}
use Rattle.abstract_machine.specs.Pieces.{weight, reach}
use Rattle.abstract_machine.specs.States.{State, initial, due_of, next, unfolded}
use Rattle.abstract_machine.specs.Soundness.{SoundState}

-- a state, with the size of the term that was loaded
pub record Loaded : Type 0 where
  pub size : ℕ
  pub state : State

-- the tables of a machine: how long they are, how much of them is in use, and the state that they hold, if any
pub record Configuration : Type 0 where
  pub capacity : Places
  pub used : Places
  pub loaded : Option Loaded

abbrev pub free_of : Configuration → Places
free_of x = record {
  stack = x.capacity.stack - x.used.stack;
  entries = x.capacity.entries - x.used.entries;
  nodes = x.capacity.nodes - x.used.nodes;
}

-- A price is what a substitution costs in nodes, by the state it is due in. What a loaded state means at that price:
abbrev pub standing_of : (State → ℕ) → Loaded → Standing
standing_of price l = record {
  term = unfolded l.state;
  loaded = l.size;
  betas = length l.state.entries;
  weight = weight l.state.hand;
  reach = reach l.state.hand;
  due = due_of l.state;
  price = price l.state;
}

abbrev pub standing_in : (State → ℕ) → Option Loaded → Option Standing
standing_in price None = None
standing_in price (Some l) = Some (standing_of price l)

abbrev pub explained : (State → ℕ) → Configuration → Meaning
explained price x = record { capacity = x.capacity; free = free_of x; standing = standing_in price x.loaded }

-- no place is in use and nothing stands
abbrev pub vacated : Configuration → Configuration
vacated x = record { capacity = x.capacity; used = record { stack = 0; entries = 0; nodes = 0 }; loaded = None }

-- the term t stands, and nothing has been done
abbrev pub holding : Term → Configuration → Configuration
holding t x = record {
  capacity = x.capacity;
  used = record { stack = 0; entries = 0; nodes = size t };
  loaded = Some (record { size = size t; state = initial t });
}

-- after a start that was answered so, of a code with that verdict; a refused code is never answered with a size
abbrev pub after_start : Result ℕ MachineFault → Verdict → Configuration → Configuration
after_start (Ok s) (accepted t) x = holding t x
after_start (Ok s) (refused f) x = x
after_start (Err e) v x = x

abbrev pub started : (State → ℕ) → List ℕ → Configuration → Configuration
started price bs x = after_start (start_of bs (explained price x)) (verdict bs) x

-- the places in use after a transition
abbrev pub used_by : Transition → ℕ → Places → Places
used_by Beta price u = record { stack = u.stack - 1; entries = suc u.entries; nodes = u.nodes }
used_by Substitution price u = record { stack = u.stack; entries = u.entries; nodes = u.nodes + price }
used_by Search price u = record { stack = suc u.stack; entries = u.entries; nodes = u.nodes }

abbrev pub advanced : (State → ℕ) → Transition → Configuration → Loaded → Configuration
advanced price k x l = record {
  capacity = x.capacity;
  used = used_by k (price l.state) x.used;
  loaded = Some (record { size = l.size; state = next l.state });
}

-- where nothing stands no transition is made, so that case does not come
abbrev pub moved : (State → ℕ) → Transition → Configuration → Option Loaded → Configuration
moved price k x None = x
moved price k x (Some l) = advanced price k x l

-- after a step that was answered so
abbrev pub after_step : (State → ℕ) → Result Outcome MachineFault → Configuration → Configuration
after_step price (Ok (Made k)) x = moved price k x x.loaded
after_step price (Ok Done) x = x
after_step price (Ok (Full t)) x = x
after_step price (Err f) x = x

abbrev pub stepped : (State → ℕ) → Configuration → Configuration
stepped price x = after_step price (outcome_due (explained price x)) x

-- a loaded state whose tables are as full as it says
pub record SoundLoaded (used : Places) (l : Loaded) : Type 0 where
  pub some : 1 ≤ l.size
  pub state : SoundState l.size l.state
  pub stack : used.stack ≡ length l.state.stack
  pub entries : used.entries ≡ length l.state.entries

pub record SoundConfiguration (x : Configuration) : Type 0 where
  pub limited : Within x.capacity most_places
  pub within : Within x.used x.capacity
  pub loaded : (l : Loaded) → x.loaded ≡ Some l → SoundLoaded x.used l

-- no substitution costs more nodes than the loaded term has
abbrev pub Affordable : (State → ℕ) → Type 0
Affordable price = (n : ℕ) (s : State) → SoundState n s → price s ≤ n
