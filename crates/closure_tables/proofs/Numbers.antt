-- Numbers of positions. Assumes nothing.
use Rattle.std.proofs.Common.{◌≡◌, ℕ, ◌-◌, ◌^◌, ◌<◌, ◌≤◌, ltb, Some, None, Option, refl, ap, ◌∙◌, arith}
use Rattle.std.proofs.lemmas.Bool.Decides.{nat_tests}
use Rattle.std.proofs.lemmas.Nat.{div-mul-add, mod-mul-add}
use Rattle.std.proofs.lemmas.Bool.{cond-true, cond-false, lt-ltb, le-ltb}
use Rattle.closure_tables.specs.declared.positions.Spot.{Spot}
use Rattle.closure_tables.specs.declared.positions.Position.TheVariants.{Spine, Inside}
use Rattle.closure_tables.specs.Tables.{Tables}
use Rattle.closure_tables.specs.Presented.{height}
use Rattle.closure_tables.specs.Positions.{first_spine, spine_number, spot_number, front, spot_of, position_of, term_inside, term_on_spine, term_of, term_at}

-- a spot that has a number
pub record Numbered (s : Spot) : Type 0 where
  pub node : s.node < 65536
  pub depth : s.depth < 65536
  pub chain : height s.chain < 2 ^ 31

pub front_height : (c : Option ℕ) → front (height c) ≡ c
front_height None = refl
front_height (Some e) = refl

pub spot_below : (s : Spot) → Numbered s → spot_number s < first_spine
spot_below s n = omega (arith, n.node, n.depth, n.chain)

pub spot_again : (s : Spot) → Numbered s → spot_of (spot_number s) ≡ s
spot_again s n = grind (arith, nat_tests, div-mul-add, mod-mul-add, front_height)

pub position_inside : (p : ℕ) → p < first_spine → position_of p ≡ Inside (spot_of p)
position_inside p h = cond-true (ltb p first_spine) (Inside (spot_of p)) (Spine (p - first_spine)) (lt-ltb p first_spine h)

pub position_spine : (p : ℕ) → first_spine ≤ p → position_of p ≡ Spine (p - first_spine)
position_spine p h = cond-false (ltb p first_spine) (Inside (spot_of p)) (Spine (p - first_spine)) (le-ltb p first_spine h)

pub spot_position : (s : Spot) → Numbered s → position_of (spot_number s) ≡ Inside s
spot_position s n = position_inside (spot_number s) (spot_below s n) ∙ ap Inside (spot_again s n)

pub spine_position : (k : ℕ) → position_of (spine_number k) ≡ Spine k
spine_position k = grind (arith, nat_tests, position_spine)

pub term_at_spot : (t : Tables) (s : Spot) → Numbered s → term_at t (spot_number s) ≡ term_inside t s
term_at_spot t s n = ap (term_of t) (spot_position s n)

pub term_at_spine : (t : Tables) (k : ℕ) → term_at t (spine_number k) ≡ term_on_spine t k
term_at_spine t k = ap (term_of t) (spine_position k)
