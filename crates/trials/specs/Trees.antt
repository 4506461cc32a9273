-- Terms to be written in trials. Assumes nothing.
use Rattle.std.specs.Prelude.{ℕ, zero, suc, if◌then◌else◌, Some, None, Option, ◌==◌}
use Rattle.term.specs.Terms.{Term, place, ingredient, function, application}
use Rattle.writer.specs.Heads.{both}

-- twice as large at each level
abbrev pub tree : ℕ → Option Term
tree zero = Some (ingredient 261)
tree (suc n) = both application (tree n) (tree n)

-- one of each kind, and a function whose body is missing
abbrev pub sample : ℕ → Option Term
sample p =
    if p == 0 then Some (application (function (place 200)) (ingredient 261))
    else if p == 1 then Some (function (place 200))
    else if p == 2 then Some (ingredient 261)
    else if p == 3 then Some (place 200)
    else None
