use Rattle.std.proofs.Common.{rules}
use Rattle.writer.proofs.Walking.{goes_on, stops}
use Rattle.writer.proofs.writes.walk.Goals as goal

pub returns-in_err-put : goal.returns-in_err-put
returns-in_err-put g c =
    rw c.from_residual-in_err-put.ensures (stops _ _ _ _ c.in_ok-head.head c.loop-next.invariant.2 c.in-Some.is c.in_ok-head.ensures c.in_err-put.ensures.put)

pub loop-next-preserved : goal.loop-next-preserved
loop-next-preserved g c =
    let on = goes_on _ _ _ _ _ c.in_ok-head.head c.loop-next.invariant.2 c.in-Some.is c.in_ok-head.ensures c.in_ok-put.ensures.put c.advance-next.ensures c.loop-next.invariant.1 in
    (search rules, on.0, on.1)
