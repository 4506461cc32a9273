-- What taking a place says of a table's level. Assumes nothing.
use Rattle.std.proofs.Common.{◌≡◌, ℕ, suc, ◌<◌, ◌≤◌, Some, None, arith}
use Rattle.std.proofs.lemmas.Bool.Decides.{nat_tests}
use Rattle.tables.specs.Usages.{Usage, first_free, one_more}

-- a place was taken
pub record Taken (u : Usage) (at : ℕ) : Type 0 where
  pub at_level : at ≡ u.used
  pub free : u.used < u.capacity
  pub level : (one_more u).used ≡ suc u.used

pub taken : (u : Usage) (at : ℕ) → Some at ≡ first_free u → Taken u at
taken u at e = grind (arith, nat_tests)

-- none was free
pub record Untaken (u : Usage) : Type 0 where
  pub full : u.capacity ≤ u.used
  pub level : (one_more u).used ≡ u.used

pub untaken : (u : Usage) → None ≡ first_free u → Untaken u
untaken u e = grind (arith, nat_tests)
