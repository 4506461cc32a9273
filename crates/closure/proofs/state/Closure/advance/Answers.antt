use Rattle.std.proofs.Common.{◌∙◌}
use Rattle.closure.proofs.Steps.{ingredient_done}
use Rattle.closure.proofs.state.Closure.advance.Goals as goal

pub returns-in-Ingredient : goal.returns-in-Ingredient
returns-in-Ingredient c = ingredient_done c.args.self.now _ c.in_ok-right.ensures.0 (c.in_ok-right.ensures.1 ∙ c.in-Ingredient.is)
