use Rattle.closure.proofs.Steps as steps
use Rattle.closure.proofs.state.Closure.descend.Goals as goal
use Rattle.std.proofs.Common.{arith}

pub returns-in_default : goal.returns-in_default
returns-in_default c =
    steps.search_full c.args.self.now c.take.new.self c.args.right c.requires.hand c.in_default.ensures.place c.take.ensures.level

pub invariant_of-self-2 : goal.invariant_of-self-2
invariant_of-self-2 c =
    let m = c.args.self.now in
    let k = steps.search_keeps m c.take.new.self c.in-Some.at c.args.right c.requires.hand c.in-Some.ensures.place c.take.ensures.level in
    record { nodes_fit = m.nodes_fit; entries_fit = m.entries_fit; stack_fit = omega (arith, k.0, m.stack_fit); kept = k.1 }

pub returns : goal.returns
returns c =
    steps.search_made c.args.self.now c.take.new.self c.in-Some.at c.args.right c.requires.hand c.in-Some.ensures.place c.take.ensures.level
