-- Weak head reduction. Assumes nothing.
use Rattle.std.specs.Prelude.{◌≡◌, ℕ, zero, suc, ◌⊎◌}
use Rattle.term.specs.Terms.{Term, place, ingredient, function, application, Covered, Closed, fill}

-- One step of a closed term: the body of a function takes the argument it is applied to, or the left side of an application steps.
-- On a term that is not closed the relation means nothing, since no index is shifted.
pub data Step : Term → Term → Type 0 where
  beta : {t u : Term} → Step (application (function t) u) (fill 0 u t)
  left : {t t' u : Term} → Step t t' → Step (application t u) (application t' u)

-- n steps in a row
pub data Steps : ℕ → Term → Term → Type 0 where
  none : {t : Term} → Steps zero t t
  more : {n : ℕ} {t u v : Term} → Step t u → Steps n u v → Steps (suc n) t v

-- an ingredient, with no argument or more
pub data Neutral : Term → Type 0 where
  bare : {i : ℕ} → Neutral (ingredient i)
  applied : {t u : Term} → Neutral t → Neutral (application t u)

-- a function, or a neutral term
pub data Normal : Term → Type 0 where
  abstraction : {t : Term} → Normal (function t)
  neutral : {t : Term} → Neutral t → Normal t

-- filling a place puts the term there, and changes nothing that does not hold the place
pub record FillsItsPlace : Type 0 where
  pub own : (i : ℕ) (u : Term) → fill i u (place i) ≡ u
  pub others : (i : ℕ) (u t : Term) → Covered i t → fill i u t ≡ t

-- a function of two arguments takes them in turn
abbrev pub TakesInTurn : Type 0
TakesInTurn =
    (a b : ℕ) →
    Steps 2 (application (application (function (function (application (place 1) (place 0)))) (ingredient a)) (ingredient b)) (application (ingredient a) (ingredient b))

-- a term has at most one step, and so n steps lead to one term at most
pub record AtMostOneStep : Type 0 where
  pub one : (t u v : Term) → Step t u → Step t v → u ≡ v
  pub many : (n : ℕ) (t u v : Term) → Steps n t u → Steps n t v → u ≡ v

-- a closed term is normal or has a step, and not both
pub record NormalOrSteps : Type 0 where
  pub either : (t : Term) → Closed t → Normal t ⊎ ((u : Term) × Step t u)
  pub never_both : (t u : Term) → Normal t → Step t u → ⊥

-- a step, and so n steps, keep a term closed
pub record StepKeepsClosed : Type 0 where
  pub one : (t u : Term) → Closed t → Step t u → Closed u
  pub many : (n : ℕ) (t u : Term) → Closed t → Steps n t u → Closed u
