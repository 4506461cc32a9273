-- The number and the name of each refusal of a count. Assumes nothing.
use Rattle.std.specs.Prelude.{ℕ, List, codes}
use Rattle.node.specs.Faults.{number_of, name_of}
use Rattle.reading.specs.declared.counts.CountFault.{CountFault}
use Rattle.reading.specs.declared.counts.CountFault.TheVariants.{UnknownIngredient, Code}

abbrev pub count_number : CountFault → ℕ
count_number UnknownIngredient = 15
count_number (Code f) = number_of f

abbrev pub count_name : CountFault → List ℕ
count_name UnknownIngredient = codes "unknown ingredient"
count_name (Code f) = name_of f
