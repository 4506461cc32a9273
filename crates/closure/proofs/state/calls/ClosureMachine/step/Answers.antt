use Rattle.closure.proofs.Rules.{after_step}
use Rattle.closure.proofs.state.calls.ClosureMachine.step.Goals as goal

pub returns-clause-rules : goal.returns-clause-rules
returns-clause-rules c = after_step c.args.self.now c.advance.new.self c.advance.result c.advance.ensures
