use Rattle.std.proofs.Common.{◌≡◌}
use Rattle.closure_tables.specs.Presented.{height}
use Rattle.closure_tables.specs.Positions.{term_inside}
use Rattle.closure_view.specs.Views.{tables_of}
use Rattle.closure_view.proofs.Shown.{Held}
use Rattle.closure_view.proofs.views.View.resolve.Given as goal

-- the spot is inside, and the same term stands there
abbrev pub invariant-loop-index : goal.invariant-loop-index
invariant-loop-index l =
    Held l.self l.spot
    × (term_inside (tables_of l.self) l.initial.spot ≡ term_inside (tables_of l.self) l.spot)

-- what fills a place has a lower chain
abbrev pub decreases-loop-index : goal.decreases-loop-index
decreases-loop-index l = height l.spot.chain
