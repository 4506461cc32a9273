-- The number, the name and the byte place of each fault. Assumes nothing.
use Rattle.std.specs.Prelude.{ℕ, List, codes}
use Rattle.node.specs.declared.faults.Fault.{Fault}
use Rattle.node.specs.declared.faults.Fault.TheVariants.{Missing, UnknownTag, TooManyNodes, TooDeep, Uncovered, NoSuchIngredient, Leftover}

abbrev pub number_of : Fault → ℕ
number_of (Missing at) = 1
number_of (UnknownTag at) = 2
number_of (TooManyNodes at) = 3
number_of (TooDeep at) = 4
number_of (Uncovered at) = 5
number_of (NoSuchIngredient at) = 6
number_of (Leftover at) = 7

abbrev pub name_of : Fault → List ℕ
name_of (Missing at) = codes "byte missing"
name_of (UnknownTag at) = codes "unknown tag"
name_of (TooManyNodes at) = codes "too many nodes"
name_of (TooDeep at) = codes "functions nested too deep"
name_of (Uncovered at) = codes "place not covered"
name_of (NoSuchIngredient at) = codes "no such ingredient"
name_of (Leftover at) = codes "bytes left over"

abbrev pub byte_of : Fault → ℕ
byte_of (Missing at) = at
byte_of (UnknownTag at) = at
byte_of (TooManyNodes at) = at
byte_of (TooDeep at) = at
byte_of (Uncovered at) = at
byte_of (NoSuchIngredient at) = at
byte_of (Leftover at) = at
