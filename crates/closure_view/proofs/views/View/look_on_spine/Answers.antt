use Rattle.std.proofs.Common.{ap, arith, rules}
use Rattle.closure_tables.specs.Presented.{height}
use Rattle.closure_view.proofs.Shown.{hand_shows, last_chain, last_shows}
use Rattle.closure_view.proofs.views.View.look_on_spine.Goals as goal

pub returns-then-taken-eq0 : goal.returns-then-taken-eq0
returns-then-taken-eq0 c =
    hand_shows c.args.self.now c.args.taken c.into.result c.look_inside.result (omega arith) c.into.ensures c.look_inside.ensures

pub spot_number-requires : goal.spot_number-requires
spot_number-requires c =
    omega (arith, ap (λ s. height s.chain) c.into-2.ensures, last_chain c.args.self.now c.args.taken c.last_of.result (omega arith) (omega arith) c.last_of.ensures (search rules))

pub returns : goal.returns
returns c =
    rw (c.spine_number.ensures, c.spot_number.ensures, c.into-2.ensures)
    (last_shows c.args.self.now c.args.taken c.last_of.result (omega arith) (omega arith) c.last_of.ensures)
