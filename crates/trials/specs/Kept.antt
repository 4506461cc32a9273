-- A table of four depths whose level is lent, as a receiver of nodes. Assumes nothing.
use Rattle.std.specs.Prelude.{ℕ, ◌+◌, List, if◌then◌else◌, nat_lt, slice_set}
use Rattle.node.specs.declared.nodes.Located.{Located}

pub record Kept : Type 0 where
  pub table : List ℕ
  pub level : ℕ
  pub level_lent : ℕ

abbrev pub keeping : Kept → Located → Kept
keeping k l =
    if nat_lt k.level 4
    then record { table = slice_set k.table k.level l.depth; level = k.level + 1; level_lent = k.level_lent }
    else k
