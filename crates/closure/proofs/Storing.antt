-- A node more in the closure machine's table. Assumes nothing.
use Rattle.std.proofs.Common.{◌≡◌, ℕ, ◌+◌, ◌-◌, ◌<◌, List, [], ◌∷◌, vec_items, vec_len, ◌++◌, take, set, Some, ap, ◌∙◌, arith}
use Rattle.node.specs.declared.nodes.Located.{Located}
use Rattle.tables.specs.declared.levels.Level.{Level}
use Rattle.tables.specs.Usages.{usage, first_free, one_more}
use Rattle.tables.proofs.Usages as usages
use Rattle.closure_tables.specs.declared.rows.Cell.{Cell}
use Rattle.closure_tables.specs.Received.{cell_of, joined}
use Rattle.closure_tables.proofs.Storing as stores
use Rattle.closure.specs.declared.state.storing.Nodes.{Nodes}
use Rattle.closure.specs.Stores.{stored_in, storing}

-- a node was stored at the level, which rose
pub stored_more :
    (n : Nodes) (up : Level) (rows : List Cell) (long : ℕ) (at : ℕ) (x : Cell) (node : Located) →
    Some at ≡ first_free (usage n.level.now) → usage up ≡ one_more (usage n.level.now) →
    rows ≡ joined node.part node.number (vec_items n.cells.now) → long ≡ vec_len n.cells.now → x ≡ cell_of node.node →
    record {
      code = record { cells = take up.used (set rows at x); room = up.capacity - up.used };
      long = long;
      capacity = up.capacity;
      cells_lent = n.cells.ghost_name;
      level_lent = n.level.ghost_name;
    } ≡ storing (stored_in n) node
stored_more n up rows long at x node place level joins kept is =
    let took = usages.taken (usage n.level.now) at place in
    let k = n.level.now.used in
    let used : up.used ≡ k + 1 = let u = ap (λ u. u.used) level ∙ took.level in omega arith in
    let capacity : up.capacity ≡ n.level.now.capacity = ap (λ u. u.capacity) level in
    let cells : take up.used (set rows at x) ≡ joined node.part node.number (take k (vec_items n.cells.now)) ++ cell_of node.node ∷ []
    = ap (λ r. take up.used (set r at x)) joins
    ∙ ap (λ c. take up.used (set (joined node.part node.number (vec_items n.cells.now)) at c)) is
    ∙ ap (λ j. take j (set (joined node.part node.number (vec_items n.cells.now)) at (cell_of node.node))) used
    ∙ ap (λ i. take (k + 1) (set (joined node.part node.number (vec_items n.cells.now)) i (cell_of node.node))) took.at_level
    ∙ stores.stored_below node.part node.number k (vec_items n.cells.now) (cell_of node.node) (omega (arith, n.cells.now.ok, n.fits, took.free)) in
    let free : up.capacity - up.used ≡ (n.level.now.capacity - k) - 1 = omega arith in
    let some : 0 < n.level.now.capacity - k = omega (arith, took.free) in
    let there = stores.stored (stored_in n).code node some in
    cc
