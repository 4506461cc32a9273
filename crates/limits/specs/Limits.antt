-- The limits that follow from the rules of a machine. Assumes nothing.
use Rattle.std.specs.Prelude.{◌≡◌, ℕ, suc, ◌+◌, ◌*◌, ◌^◌, ◌<◌, ◌≤◌, ◌⊎◌, List, length, Some, Ok}
use Rattle.term.specs.Terms.{Term, size, most_nodes}
use Rattle.term.specs.Reduction.{Steps, Normal}
use Rattle.machine.specs.declared.transitions.Transition.{Transition}
use Rattle.machine.specs.declared.transitions.Transition.TheVariants.{Beta, Substitution, Search}
use Rattle.machine.specs.declared.outcomes.Outcome.TheVariants.{Made, Done}
use Rattle.machine.specs.Meanings.{Places, transition, Standing, Meaning}
use Rattle.machine.specs.Rules.{outcome_due}
use Rattle.limits.specs.Counts.{triangle, count_of, most_work}
use Rattle.limits.specs.Runs.{Run}

-- what each transition keeps true
pub record Lines (ks : List Transition) (m : Meaning) (s : Standing) : Type 0 where
  pub total : length ks ≡ count_of Beta ks + count_of Substitution ks + count_of Search ks
  pub betas : count_of Beta ks ≡ s.betas
  pub entries : m.free.entries + s.betas ≡ m.capacity.entries
  pub stack : m.free.stack + count_of Search ks ≡ m.capacity.stack + count_of Beta ks
  pub reach : count_of Substitution ks + s.reach ≤ triangle s.betas
  pub weight : length ks + s.weight ≤ s.loaded * suc (count_of Substitution ks)
  pub nodes : m.capacity.nodes ≤ m.free.nodes + s.loaded * suc (count_of Substitution ks)

-- the limits with a search counted that is due
pub record SearchFits (ks : List Transition) (m : Meaning) (s : Standing) : Type 0 where
  pub transitions : length ks + 2 ≤ most_work s.loaded s.betas
  pub stack : m.capacity.stack + 1 ≤ m.free.stack + most_work s.loaded s.betas

-- the limits with a substitution counted that is due
pub record SubstitutionFits (ks : List Transition) (m : Meaning) (s : Standing) : Type 0 where
  pub substitutions : count_of Substitution ks + 1 ≤ triangle s.betas
  pub transitions : length ks + 2 ≤ most_work s.loaded s.betas
  pub nodes : m.capacity.nodes + s.price ≤ m.free.nodes + most_work s.loaded s.betas

-- what holds where s stands, after the transitions ks since the start of t
pub record Limits (t : Term) (ks : List Transition) (m : Meaning) (s : Standing) : Type 0 where
  pub loaded : s.loaded ≡ size t
  pub reached : Steps s.betas t s.term
  pub done_normal : outcome_due m ≡ Ok Done → Normal s.term
  pub substitutions : count_of Substitution ks ≤ triangle s.betas
  pub transitions : length ks + 1 ≤ most_work s.loaded s.betas
  pub nodes : m.capacity.nodes ≤ m.free.nodes + most_work s.loaded s.betas
  pub stack : m.capacity.stack ≤ m.free.stack + most_work s.loaded s.betas
  pub beta_due : s.due ≡ transition Beta → length ks + 2 ≤ most_work s.loaded s.betas
  pub substitution_due : s.due ≡ transition Substitution → SubstitutionFits ks m s
  pub search_due : s.due ≡ transition Search → SearchFits ks m s

-- of every run
pub record LimitsOfRuns : Type 0 where
  pub stands : (t : Term) (ks : List Transition) (m : Meaning) → Run t ks m → (s : Standing) × (m.standing ≡ Some s)
  pub lines : (t : Term) (ks : List Transition) (m : Meaning) (s : Standing) → Run t ks m → m.standing ≡ Some s → Lines ks m s
  pub limits : (t : Term) (ks : List Transition) (m : Meaning) (s : Standing) → Run t ks m → m.standing ≡ Some s → Limits t ks m s
  -- no recipe has more transitions than a counter can count
  pub countable : (t : Term) (ks : List Transition) (m : Meaning) → Run t ks m → size t ≤ most_nodes → length ks < 2 ^ 52

-- places for whatever n steps from t take
pub record Enough (t : Term) (n : ℕ) (p : Places) : Type 0 where
  pub stack : most_work (size t) n ≤ p.stack
  pub entries : n ≤ p.entries
  pub nodes : most_work (size t) n ≤ p.nodes

-- no table is full
abbrev pub NotFull : Meaning → Type 0
NotFull m = (outcome_due m ≡ Ok Done) ⊎ ((k : Transition) × (outcome_due m ≡ Ok (Made k)))

-- what holds after the transitions ks since the start of t, which is n steps from a normal form
pub record Bounded (t : Term) (n : ℕ) (ks : List Transition) (m : Meaning) : Type 0 where
  pub betas : count_of Beta ks ≤ n
  pub transitions : length ks + 1 ≤ most_work (size t) n
  pub never_full : Enough t n m.capacity → NotFull m

abbrev pub EnoughPlaces : Type 0
EnoughPlaces = (t u : Term) (n : ℕ) (ks : List Transition) (m : Meaning) → Steps n t u → Normal u → Run t ks m → Bounded t n ks m
