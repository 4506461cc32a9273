use Rattle.std.proofs.Common.{sym, ◌∙◌}
use Rattle.closure_view.proofs.Shown.{leads_here, entry_held, free_shows, Filler, fills}
use Rattle.closure_view.proofs.views.View.resolve.Goals as goal

pub returns-in_default : goal.returns-in_default
returns-in_default c = leads_here c.args.self.now c.args.spot c.loop-index.spot _ _ c.from.ensures c.loop-index.invariant.1 c.loop-index.invariant.0 (sym c.in_default.ensures)

pub returns-in_err-entry : goal.returns-in_err-entry
returns-in_err-entry c =
    rw c.from_residual.ensures
    (c.loop-index.invariant.1 ∙ free_shows c.args.self.now c.loop-index.spot c.loop-index.invariant.0 _ _ c.in-Some.index c.from.ensures (sym c.in-Some.ensures) (sym c.in_err-entry.ensures))

pub bounds-self-entry : goal.bounds-self-entry
bounds-self-entry c = entry_held c.args.self.now c.loop-index.spot c.loop-index.invariant.0 c.in-Some.index c.in_ok-entry.entry (sym c.in_ok-entry.ensures)

next : (c : goal.After-into-spot) → Filler c.args.self.now c.loop-index.spot c.into-spot.result
next c =
    fills c.args.self.now c.loop-index.spot c.loop-index.invariant.0 _ _ c.in-Some.index c.in_ok-entry.entry _ c.into-spot.result
    c.from.ensures (sym c.in-Some.ensures) (sym c.in_ok-entry.ensures) c.into-spot.ensures

pub loop-index-smaller : goal.loop-index-smaller
loop-index-smaller c = (next c).lower

pub loop-index-preserved : goal.loop-index-preserved
loop-index-preserved c = ((next c).held, c.loop-index.invariant.1 ∙ (next c).same)
