-- How far tables are in use, and what changes that. Assumes nothing.
use Rattle.std.specs.Prelude.{ℕ, ◌+◌, ◌-◌, if◌then◌else◌, Some, None, Option, nat_lt}
use Rattle.tables.specs.Limits.{node_limit, entry_limit, stack_limit, capacity_of}
use Rattle.tables.specs.declared.levels.Level.{Level}
use Rattle.tables.specs.declared.levels.Levels.{Levels}

-- how many places of a table are in use, of how many; they are the lowest
pub record Usage : Type 0 where
  pub used : ℕ
  pub capacity : ℕ

pub record Usages : Type 0 where
  pub nodes : Usage
  pub entries : Usage
  pub stack : Usage

abbrev pub usage : Level → Usage
usage l = record { used = l.used; capacity = l.capacity }

abbrev pub usages : Levels → Usages
usages ls = record { nodes = usage ls.nodes; entries = usage ls.entries; stack = usage ls.stack }

abbrev pub free_of : Usage → ℕ
free_of u = u.capacity - u.used

abbrev pub unused : ℕ → Usage
unused c = record { used = 0; capacity = c }

-- the lowest place that is free
abbrev pub first_free : Usage → Option ℕ
first_free u = if nat_lt u.used u.capacity then Some u.used else None

-- with that place in use, if there is one
abbrev pub one_more : Usage → Usage
one_more u = record { used = if nat_lt u.used u.capacity then u.used + 1 else u.used; capacity = u.capacity }

-- the highest place in use
abbrev pub last_used : Usage → Option ℕ
last_used u = if nat_lt 0 u.used then Some (u.used - 1) else None

-- with that place free, if there is one
abbrev pub one_less : Usage → Usage
one_less u = record { used = u.used - 1; capacity = u.capacity }

-- of tables of those lengths, as they are made
abbrev pub usages_over : ℕ → ℕ → ℕ → Usages
usages_over nodes entries stack =
    record { nodes = unused (capacity_of nodes node_limit); entries = unused (capacity_of entries entry_limit); stack = unused (capacity_of stack stack_limit) }

abbrev pub freed : Usages → Usages
freed u = record { nodes = unused u.nodes.capacity; entries = unused u.entries.capacity; stack = unused u.stack.capacity }
