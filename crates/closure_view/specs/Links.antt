-- The walk along a chain of entries. Assumes nothing.
use Rattle.std.specs.Prelude.{ℕ, zero, suc, List, Some, None, Option, slice_index_or}
use Rattle.closure_tables.specs.declared.rows.Entry.{Entry}
use Rattle.closure_tables.specs.Tables.{blank_entry}

-- the entry at the front of a chain after k links; none follows an entry that there is not
abbrev pub linked : List Entry → Option ℕ → ℕ → Option ℕ
linked es c zero = c
linked es None (suc k) = None
linked es (Some e) (suc k) = linked es (slice_index_or es e blank_entry).next k
