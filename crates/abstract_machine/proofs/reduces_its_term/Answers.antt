use Rattle.abstract_machine.proofs.Transitions as laws
use Rattle.abstract_machine.proofs.reduces_its_term.Goals as goal

pub returns : goal.returns
returns c = laws.machine_law
