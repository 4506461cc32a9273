-- The number and the name of each refusal of a machine. Assumes nothing.
use Rattle.std.specs.Prelude.{ℕ, List, codes}
use Rattle.node.specs.Faults.{number_of, name_of}
use Rattle.machine.specs.declared.faults.MachineFault.{MachineFault}
use Rattle.machine.specs.declared.faults.MachineFault.TheVariants.{Code, TooLarge, Standing, Empty, ShortScratch, ShortOutput}

abbrev pub machine_number : MachineFault → ℕ
machine_number (Code f) = number_of f
machine_number TooLarge = 8
machine_number Standing = 9
machine_number Empty = 10
machine_number ShortScratch = 12
machine_number ShortOutput = 13

abbrev pub machine_name : MachineFault → List ℕ
machine_name (Code f) = name_of f
machine_name TooLarge = codes "recipe too large"
machine_name Standing = codes "a recipe stands"
machine_name Empty = codes "nothing stands"
machine_name ShortScratch = codes "scratch too short"
machine_name ShortOutput = codes "output too short"
