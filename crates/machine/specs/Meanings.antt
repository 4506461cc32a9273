-- What a machine means, and what is true of every machine. Assumes nothing.
use Rattle.std.specs.Prelude.{◌≡◌, ℕ, ◌<◌, ◌≤◌, Some, Option}
use Rattle.tables.specs.Limits.{node_limit, entry_limit, stack_limit}
use Rattle.term.specs.Terms.{Term, Closed}
use Rattle.term.specs.Reduction.{Step, Normal}
use Rattle.machine.specs.declared.transitions.Transition.{Transition}
use Rattle.machine.specs.declared.transitions.Transition.TheVariants.{Beta, Substitution, Search}

-- a number of places in each table
pub record Places : Type 0 where
  pub stack : ℕ
  pub entries : ℕ
  pub nodes : ℕ

-- what comes next where a term stands
pub data Due : Type 0 where
  transition : Transition → Due
  done : Due

-- A term that stands. Its machine has come to some piece of code in hand:
-- the weight of that is its size, and its reach is a bound on which of the β transitions so far it still depends on.
pub record Standing : Type 0 where
  pub term : Term
  -- the size of the term that was loaded
  pub loaded : ℕ
  -- the β transitions since then
  pub betas : ℕ
  pub weight : ℕ
  pub reach : ℕ
  pub due : Due
  -- the nodes that a substitution takes if it is due; at most `loaded` also where none is
  pub price : ℕ

pub record Meaning : Type 0 where
  pub capacity : Places
  pub free : Places
  pub standing : Option Standing

-- the limits of the tables
abbrev pub most_places : Places
most_places = record { stack = stack_limit; entries = entry_limit; nodes = node_limit }

-- no more places in any table
pub record Within (p q : Places) : Type 0 where
  pub stack : p.stack ≤ q.stack
  pub entries : p.entries ≤ q.entries
  pub nodes : p.nodes ≤ q.nodes

-- what is true of a term that stands in any machine
pub record SoundStanding (s : Standing) : Type 0 where
  pub closed : Closed s.term
  pub loaded_some : 1 ≤ s.loaded
  pub weighs_some : 1 ≤ s.weight
  pub price_limit : s.price ≤ s.loaded
  pub done_normal : s.due ≡ done → Normal s.term
  pub beta_steps : s.due ≡ transition Beta → (u : Term) × Step s.term u
  pub beta_weighs : s.due ≡ transition Beta → 1 < s.weight
  pub search_weighs : s.due ≡ transition Search → 1 < s.weight
  pub substitution_reaches : s.due ≡ transition Substitution → 0 < s.reach

-- what is true of any machine
pub record Sound (m : Meaning) : Type 0 where
  pub limited : Within m.capacity most_places
  pub within : Within m.free m.capacity
  pub standing : (s : Standing) → m.standing ≡ Some s → SoundStanding s
