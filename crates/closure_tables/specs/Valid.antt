-- What a closure machine keeps of its tables, as a test. Assumes nothing.
use Rattle.std.specs.Prelude.{ℕ, suc, Bool, true, if◌then◌else◌, ◌&&◌, List, [], ◌∷◌, length, ◌==◌, nat_le, nat_lt}
use Rattle.term.specs.Terms.{most_nodes}
use Rattle.abstract_machine.specs.Soundness.{sound_state}
use Rattle.closure_tables.specs.declared.rows.Cell.{Cell}
use Rattle.closure_tables.specs.declared.rows.Cell.TheVariants as cell
use Rattle.closure_tables.specs.declared.rows.Argument.{Argument}
use Rattle.closure_tables.specs.declared.rows.Entry.{Entry}
use Rattle.closure_tables.specs.Tables.{Tables}
use Rattle.closure_tables.specs.Presented.{height, presented}

-- each element passes a test, which is given its number too; the first has number n
abbrev pub each : {X : Type 0} → (ℕ → X → Bool) → ℕ → List X → Bool
each test n [] = true
each test n (x ∷ xs) = test n x && each test (suc n) xs

-- the parts of the cell at i lie further on among n cells
abbrev pub cell_inside : ℕ → ℕ → Cell → Bool
cell_inside n i (cell.Application r) = nat_lt i r && nat_lt r n
cell_inside n i cell.Function = nat_lt (suc i) n
cell_inside n i (cell.Place k) = true
cell_inside n i (cell.Ingredient j) = true

-- a closure of one of n cells, with a chain of the first b entries
abbrev pub argument_inside : ℕ → ℕ → Argument → Bool
argument_inside n b a = nat_lt a.node n && nat_le (height a.chain) b

-- entry number k, with chains of earlier entries
abbrev pub entry_inside : ℕ → ℕ → Entry → Bool
entry_inside n k e = argument_inside n k e.argument && nat_le (height e.next) k

abbrev pub inside : Tables → Bool
inside t =
    each (cell_inside (length t.cells)) 0 t.cells &&
    (each (entry_inside (length t.cells)) 0 t.entries &&
    (each (λ k. argument_inside (length t.cells) (length t.entries)) 0 t.stack &&
    argument_inside (length t.cells) (length t.entries) t.hand))

-- few nodes, nothing points outside, and the state that is presented is sound; nothing is asked where no term stands
abbrev pub valid : Tables → Bool
valid t =
    if length t.cells == 0
    then true
    else nat_le (length t.cells) most_nodes && (inside t && sound_state (length t.cells) (presented t))
