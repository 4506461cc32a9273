use Rattle.std.proofs.Common.{◌≡◌, Some, ap, arith}
use Rattle.closure.proofs.Steps as steps
use Rattle.closure.proofs.Steps.{nearest, Popping}
use Rattle.closure.proofs.state.Closure.enter.Goals as goal
use Rattle.closure.proofs.state.Closure.enter.Goals.{In-Some, After-release}

near : (c : In-Some) → nearest c.args.self.now ≡ Some c.in-Some.field-0.now
near c = steps.nearest_is c.args.self.now _ _ _ c.used.ensures c.deref.ensures.value c.in-Some.ensures.value

popping : (c : After-release) → nearest c.args.self.now ≡ Some c.in-Some.field-0.now → Popping c.args.self.now c.take.new.self c.release.new.self c.in-Some-take.entry c.in-Some.field-0.now
popping c near = record { near = near; entry = c.in-Some-take.ensures.place; entries = c.take.ensures.level; stack = c.release.ensures.level }

pub returns-in_default : goal.returns-in_default
returns-in_default c =
    steps.beta_done c.args.self.now c.requires.hand (steps.nearest_is c.args.self.now _ _ _ c.used.ensures c.deref.ensures.value c.in_default.ensures.value)

pub returns-in_default-take : goal.returns-in_default-take
returns-in_default-take c =
    steps.beta_full c.args.self.now c.take.new.self _ c.requires.hand (near (goal.at.returns-in_default-take c).In-Some) c.in_default-take.ensures.place c.take.ensures.level

pub invariant_of-self-4 : goal.invariant_of-self-4
invariant_of-self-4 c =
    let m = c.args.self.now in
    let p = popping (goal.at.invariant_of-self-4 c).After-release (near (goal.at.invariant_of-self-4 c).In-Some) in
    let k = steps.beta_keeps m c.take.new.self c.release.new.self _ _ c.requires.hand p in
    let entries : c.take.new.self.capacity ≡ m.levels.entries.capacity = ap (λ x. x.entries) k.0 in
    let stack : c.release.new.self.capacity ≡ m.levels.stack.capacity = ap (λ x. x.stack) k.0 in
    record { nodes_fit = m.nodes_fit; entries_fit = omega (arith, m.entries_fit); stack_fit = omega (arith, m.stack_fit); kept = k.1 }

pub returns : goal.returns
returns c =
    let p = popping (goal.at.returns c).After-release (near (goal.at.returns c).In-Some) in
    steps.beta_made c.args.self.now c.take.new.self c.release.new.self _ _ c.requires.hand p
