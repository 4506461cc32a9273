-- A relation with at most one step, n times in a row; weak head reduction is one. Assumes nothing.
use Rattle.std.proofs.Common.{◌≡◌, ℕ, zero, suc, ◌<◌, ◌≤◌, subst, arith}
use Rattle.term.specs.Terms.{Term}
use Rattle.term.specs.Reduction as reduction
use Rattle.term.specs.Reduction.{Step, Steps, Normal}
use Rattle.term.proofs.Reduces.{at_most_one_step, normal_or_steps}

pub data Chain (A : Type 0) (R : A → A → Type 0) : ℕ → A → A → Type 0 where
  none : {x : A} → Chain A R zero x x
  more : {n : ℕ} {x y z : A} → R x y → Chain A R n y z → Chain A R (suc n) x z

pub onward : (A : Type 0) (R : A → A → Type 0) (b : ℕ) (x y z : A) → Chain A R b x y → R y z → Chain A R (suc b) x z
onward A R _ _ _ z none r = more r none
onward A R _ _ y z (more {n = b} {y = w} p c) r = more p (onward A R b w y z c r)

module _ (A : Type 0) (R : A → A → Type 0) (one : (x y z : A) → R x y → R x z → y ≡ z) where
  -- no chain is longer than one from the same start to where there is no step
  pub no_longer : (b n : ℕ) (x y z : A) → Chain A R b x y → Chain A R n x z → ((w : A) → R z w → ⊥) → b ≤ n
  no_longer _ n _ _ z none c stops = omega arith
  no_longer _ _ _ y _ (more {y = w} p c) none stops = absurd (stops w p)
  no_longer _ _ x y z (more {n = b} {y = v} p c) (more {n = n} {y = w} q d) stops =
      let rest = no_longer b n w y z (subst (λ a. Chain A R b a y) (one x v w p q) c) d stops in
      omega arith

  -- and one with a step at its end is shorter
  pub shorter : (b n : ℕ) (x y w z : A) → Chain A R b x y → R y w → Chain A R n x z → ((w : A) → R z w → ⊥) → b < n
  shorter b n x y w z c r d stops = no_longer (suc b) n x w z (onward A R b x y w c r) d stops

chained : (n : ℕ) (t u : Term) → Steps n t u → Chain Term Step n t u
chained _ t _ reduction.none = none
chained _ t u (reduction.more {n = n} {u = v} s ss) = more s (chained n v u ss)

unchained : (n : ℕ) (t u : Term) → Chain Term Step n t u → Steps n t u
unchained _ t _ none = reduction.none
unchained _ t u (more {n = n} {y = v} s c) = reduction.more s (unchained n v u c)

pub one_more : (b : ℕ) (t u v : Term) → Steps b t u → Step u v → Steps (suc b) t v
one_more b t u v c s = unchained (suc b) t v (onward Term Step b t u v (chained b t u c) s)

pub at_most : (b n : ℕ) (t v u : Term) → Steps b t v → Steps n t u → Normal u → b ≤ n
at_most b n t v u c d normal =
    no_longer Term Step at_most_one_step.one b n t v u (chained b t v c) (chained n t u d) (λ w s. normal_or_steps.never_both u w normal s)

pub fewer : (b n : ℕ) (t v w u : Term) → Steps b t v → Step v w → Steps n t u → Normal u → b < n
fewer b n t v w u c s d normal =
    shorter Term Step at_most_one_step.one b n t v w u (chained b t v c) s (chained n t u d) (λ x r. normal_or_steps.never_both u x normal r)
