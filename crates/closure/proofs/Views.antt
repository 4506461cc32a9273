-- How long the closure machine's tables are below their levels. Assumes nothing.
use Rattle.std.specs.Prelude.{◌≡◌, length}
use Rattle.closure.specs.declared.state.Closure.{Closure}
use Rattle.closure.specs.Views.{tables_of}
use Rattle.closure.specs.Soundness.{length_in_use}

pub cells_long : (m : Closure) → length (tables_of m).cells ≡ m.levels.nodes.used
cells_long m = length_in_use _ _ _ _ m.levels.nodes.within m.nodes_fit m.cells.ok.0
