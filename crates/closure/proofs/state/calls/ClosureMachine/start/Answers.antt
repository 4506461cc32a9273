use Rattle.closure.proofs.Rules.{after_start}
use Rattle.closure.proofs.state.calls.ClosureMachine.start.Goals as goal

pub returns-clause-rules : goal.returns-clause-rules
returns-clause-rules c = after_start c.args.self.now c.begin.new.self c.args.code.now c.begin.result c.begin.ensures.answer c.begin.ensures.after
