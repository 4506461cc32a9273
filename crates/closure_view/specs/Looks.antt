-- What looks at the closure machine's tables find. Assumes nothing.
use Rattle.std.specs.Prelude.{◌≡◌, ℕ, Some, None, Option, option_and_then}
use Rattle.term.specs.Terms.{Term}
use Rattle.writer.specs.declared.heads.Head.{Head}
use Rattle.writer.specs.Heads.{headed}
use Rattle.closure_tables.specs.declared.positions.Spot.{Spot}
use Rattle.closure_tables.specs.Positions.{term_inside, term_on_spine, term_at}
use Rattle.closure_view.specs.declared.heads.Found.{Found}
use Rattle.closure_view.specs.declared.views.View.{View}
use Rattle.closure_view.specs.Views.{tables_of}
use Rattle.closure_view.specs.Heads.{cell_head}

-- the term at a position
abbrev pub standing_at : View → ℕ → Option Term
standing_at v = term_at (tables_of v)

-- r is the head at a spot, or none where there is none
abbrev pub Shows : View → Spot → Option Head → Type 0
Shows v s r = term_inside (tables_of v) s ≡ option_and_then (headed (standing_at v)) r

-- r is the head of the closure in hand applied to k arguments, or none where there is none
abbrev pub ShowsOnSpine : View → ℕ → Option Head → Type 0
ShowsOnSpine v k r = term_on_spine (tables_of v) k ≡ option_and_then (headed (standing_at v)) r

-- filled places lead from spot s to what is found, whose cell gives the head
abbrev pub Resolved : View → Spot → Option Found → Type 0
Resolved v s None = Shows v s None
Resolved v s (Some f) = Shows v s (cell_head f.spot f.cell)
