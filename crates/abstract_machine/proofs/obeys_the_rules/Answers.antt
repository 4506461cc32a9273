use Rattle.abstract_machine.proofs.Rules as laws
use Rattle.abstract_machine.proofs.obeys_the_rules.Goals as goal

pub returns : goal.returns
returns c = laws.obeys_rules
