use Rattle.std.proofs.Common.{◌≡◌, ap, ◌∙◌, arith}
use Rattle.code.specs.Scans.{handed_over}
use Rattle.tables.specs.declared.levels.Levels.{Levels}
use Rattle.tables.specs.Usages.{usages, freed}
use Rattle.closure.proofs.Starts as starts
use Rattle.closure.proofs.Starts.{Reading, Upheld, Begun, raised, handed}
use Rattle.closure.proofs.state.Closure.begin.Goals as goal
use Rattle.closure.proofs.state.Closure.begin.Goals.{After-read, After-keep}

reading : (c : After-read) → Reading c.args.self.now c.reset.new.self c.read.new.receiver c.args.code.now
reading c = record {
  idle = omega arith;
  freed = c.reset.ensures ∙ ap (λ l. freed (usages l)) c.over-guard.ensures.levels;
  cells_lent = _;
  level_lent = _;
  held = c.read.ensures.held;
  law = c.read.ensures.law;
}

pub shape_of-self : goal.shape_of-self
shape_of-self c = (handed _ _ (handed_over c.args.code.now) c.read.ensures.held).cells_lent

pub shape_of-levels : goal.shape_of-levels
shape_of-levels c = (handed _ _ (handed_over c.args.code.now) c.read.ensures.held).level_lent

-- where the code is refused
again : (c : After-read) (back : Levels) → back ≡ c.args.self.now.levels → Upheld c.args.self.now c.read.new.receiver back c.args.self.now.hand
again c back is = starts.restored c.args.self.now c.reset.new.self c.read.new.receiver c.args.code.now back (reading c) is

pub invariant_of-self : goal.invariant_of-self
invariant_of-self c =
    let u = again (goal.at.invariant_of-self c).After-read _ (c.drop-guard.ensures ∙ c.over-guard.ensures.saved) in
    record { nodes_fit = u.nodes; entries_fit = u.entries; stack_fit = u.stack; kept = u.kept }

pub invariant_of-self-then-from-capacity : goal.invariant_of-self-then-from-capacity
invariant_of-self-then-from-capacity c =
    let u = again (goal.at.invariant_of-self-then-from-capacity c).After-read _ (c.drop-guard-then-from-capacity.ensures ∙ c.over-guard.ensures.saved) in
    record { nodes_fit = u.nodes; entries_fit = u.entries; stack_fit = u.stack; kept = u.kept }

-- where it is accepted, and its nodes fit
begun : (c : After-keep) → Reading c.args.self.now c.reset.new.self c.read.new.receiver c.args.code.now → Begun c.args.self.now c.read.new.receiver c.keep.new.self.0 c.args.code.now c.in_ok-size.size
begun c r =
    starts.begun c.args.self.now c.reset.new.self c.read.new.receiver c.keep.new.self.0 c.args.code.now c.in_ok-size.size
    r (raised c.reset.new.self c.read.new.receiver c.keep.new.self.0 c.keep.ensures) c.in_ok-size.ensures.answer (omega arith)

pub invariant_of-self-2 : goal.invariant_of-self-2
invariant_of-self-2 c =
    let u = (begun (goal.at.invariant_of-self-2 c).After-keep (reading (goal.at.invariant_of-self-2 c).After-read)).upheld in
    record { nodes_fit = u.nodes; entries_fit = u.entries; stack_fit = u.stack; kept = u.kept }

pub returns-clause-after : goal.returns-clause-after
returns-clause-after c = (begun (goal.at.returns-clause-after c).After-keep (reading (goal.at.returns-clause-after c).After-read)).after
