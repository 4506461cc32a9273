-- The code of the standing term is that of the term at the root of its tables. Assumes nothing.
use Rattle.std.proofs.Common.{◌≡◌, ℕ, ◌<◌, List, take, vec_items, sym, ap, ◌∙◌}
use Rattle.machine.specs.Writing.{written}
use Rattle.machine.specs.Rules.{write_of}
use Rattle.abstract_machine.specs.Configurations.{explained}
use Rattle.closure_tables.specs.declared.rows.Cell.{Cell}
use Rattle.closure_tables.specs.declared.rows.Argument.{Argument}
use Rattle.closure_tables.specs.declared.rows.Entry.{Entry}
use Rattle.closure_tables.specs.Tables.{Tables}
use Rattle.closure_tables.specs.Presented.{no_price}
use Rattle.closure_tables.specs.Positions.{term_at, root}
use Rattle.closure_tables.proofs.Spines.{root_is}
use Rattle.closure_tables.proofs.Agree.{loaded_some}
use Rattle.closure_view.specs.Lent.{lent}
use Rattle.closure.specs.declared.state.Closure.{Closure}
use Rattle.closure.specs.Views.{tables_of, capacities, places_used, meaning}
use Rattle.closure.proofs.Steps.{standing}

-- the tables as they are lent
pub lent_is :
    (m : Closure) (n b k : ℕ) (cells : List Cell) (entries : List Entry) (stack : List Argument) → n ≡ m.levels.nodes.used → b ≡ m.levels.entries.used → k ≡ m.levels.stack.used →
    cells ≡ vec_items m.cells → entries ≡ vec_items m.entries → stack ≡ vec_items m.stack → lent (take n cells) (take b entries) (take k stack) m.hand ≡ tables_of m
lent_is m n b k cells entries stack en eb ek ecells eentries estack = cc

pub root_written :
    (m : Closure) (t : Tables) (p : ℕ) (output scratch : List ℕ) → 0 < m.levels.nodes.used → t ≡ tables_of m → p ≡ root t →
    written (term_at t p) output scratch ≡ write_of (meaning m) output scratch
root_written m t p output scratch some same at =
    let stands = standing m some in
    let whole = ap (term_at t) at ∙ ap (λ x. term_at x (root x)) same ∙ root_is (tables_of m) stands in
    ap (λ x. written x output scratch) whole
    ∙ sym (ap (λ l. write_of (explained no_price (record { capacity = capacities m; used = places_used m; loaded = l })) output scratch) (loaded_some (tables_of m) stands))
