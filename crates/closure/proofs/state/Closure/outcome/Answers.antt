use Rattle.std.proofs.Common.{Ok, sym, ap, ◌∙◌, arith}
use Rattle.closure.proofs.Rules as rules
use Rattle.closure.proofs.state.Closure.outcome.Goals as goal

pub returns-in-Function-2 : goal.returns-in-Function-2
returns-in-Function-2 c = ap Ok c.afford-in-Function-2.ensures ∙ sym (rules.beta_outcome c.args.self.now (c.in_ok-cell.ensures.1 ∙ c.in-Function-2.is) (omega arith))

pub returns-in-Place : goal.returns-in-Place
returns-in-Place c = sym (rules.place_outcome c.args.self.now _ (c.in_ok-cell.ensures.1 ∙ c.in-Place.is))
