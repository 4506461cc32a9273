use Rattle.closure.proofs.Storing.{stored_more}
use Rattle.closure.proofs.state.storing.NodesReceiver.put.Goals as goal

pub returns : goal.returns
returns c =
    stored_more c.args.self.now c.take.new.self c.join.new.cells.items _ c.in-Some.at c.from.result c.args.node
    c.in-Some.ensures.place c.take.ensures.level c.join.ensures.items c.join.ensures.len c.from.ensures
