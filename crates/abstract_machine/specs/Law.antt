-- What is promised of the abstract machine. Assumes nothing.
use Rattle.std.specs.Prelude.{◌≡◌, ℕ, ◌<◌, ◌≤◌, List, length}
use Rattle.term.specs.Terms.{Term, Closed, size}
use Rattle.term.specs.Reduction.{Step, Normal}
use Rattle.code.specs.Verdicts.{Bytes}
use Rattle.machine.specs.declared.transitions.Transition.TheVariants.{Beta, Substitution, Search}
use Rattle.machine.specs.Meanings.{Due, transition, done, Sound}
use Rattle.machine.specs.Rules.{AfterStart, start_of, AfterStep, outcome_due, emptied}
use Rattle.abstract_machine.specs.Pieces.{Piece, weight, reach}
use Rattle.abstract_machine.specs.States.{State, initial, due_of, next, unfolded}
use Rattle.abstract_machine.specs.Soundness.{SoundState}
use Rattle.abstract_machine.specs.Configurations.{Configuration, explained, vacated, started, stepped, SoundConfiguration, Affordable}

-- what the transition due does to the term that a state stands for
abbrev pub Effect : Due → Term → Term → Type 0
Effect (transition Beta) t u = Step t u
Effect (transition Substitution) t u = u ≡ t
Effect (transition Search) t u = u ≡ t
Effect done t u = u ≡ t

-- what it does to the size of the piece in hand, where n is the size of the loaded term
abbrev pub Weighs : Due → ℕ → Piece → Piece → Type 0
Weighs (transition Beta) n p q = weight q < weight p
Weighs (transition Substitution) n p q = weight q ≤ n
Weighs (transition Search) n p q = weight q < weight p
Weighs done n p q = q ≡ p

-- what it does to the entries that the piece in hand names, where there are b after it
abbrev pub Reaches : Due → ℕ → Piece → Piece → Type 0
Reaches (transition Beta) b p q = reach q ≤ b
Reaches (transition Substitution) b p q = reach q < reach p
Reaches (transition Search) b p q = reach q ≤ reach p
Reaches done b p q = q ≡ p

-- the law of a state of the machine, from a loaded term of n nodes
pub record StateLaw (n : ℕ) (s : State) : Type 0 where
  -- β is one weak head step, the others keep the term
  pub effect : Effect (due_of s) (unfolded s) (unfolded (next s))
  pub closed : Closed (unfolded s)
  pub done_normal : due_of s ≡ done → Normal (unfolded s)
  pub weighs : Weighs (due_of s) n s.hand (next s).hand
  pub reaches : Reaches (due_of s) (length (next s).entries) s.hand (next s).hand
  -- no free place, earlier entries only, no piece larger than the loaded term: kept
  pub sound : SoundState n (next s)

-- what begins sound has the law, and begins as the loaded term
pub record MachineLaw : Type 0 where
  pub initial : (t : Term) → Closed t → SoundState (size t) (initial t) × (unfolded (initial t) ≡ t)
  pub states : (n : ℕ) (s : State) → SoundState n s → StateLaw n s

-- with tables of limited length and any price that is affordable, it is a machine
pub record ObeysRules : Type 0 where
  pub sound : (price : State → ℕ) → Affordable price → (x : Configuration) → SoundConfiguration x → Sound (explained price x)
  pub start :
      (price : State → ℕ) (bs : List ℕ) (x : Configuration) →
      AfterStart bs (explained price x) (start_of bs (explained price x)) (explained price (started price bs x))
  pub empty : (price : State → ℕ) (x : Configuration) → explained price (vacated x) ≡ emptied (explained price x)
  pub step :
      (price : State → ℕ) (x : Configuration) →
      SoundConfiguration x →
      AfterStep (explained price x) (outcome_due (explained price x)) (explained price (stepped price x))
  pub start_sound : (price : State → ℕ) (bs : List ℕ) (x : Configuration) → Bytes bs → SoundConfiguration x → SoundConfiguration (started price bs x)
  pub step_sound : (price : State → ℕ) (x : Configuration) → SoundConfiguration x → SoundConfiguration (stepped price x)
