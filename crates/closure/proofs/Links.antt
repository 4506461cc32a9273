-- The walk along a chain of entries. Assumes nothing.
use Rattle.std.proofs.Common.{◌≡◌, ℕ, ◌+◌, ◌<◌, true, List, length, get_or, take, Some, None, Ok, vec_items, Option, sym, refl, ap, ◌∙◌, arith, get_or-take}
use Rattle.std.proofs.lemmas.List.{get_or_default}
use Rattle.std.specs.List.{slice_get}
use Rattle.closure_tables.specs.declared.rows.Entry.{Entry}
use Rattle.closure_tables.specs.Tables.{blank_entry, Tables, below}
use Rattle.closure_tables.specs.Presented.{chain_in, configured}
use Rattle.closure_tables.specs.Valid.{valid}
use Rattle.closure_tables.specs.Steps.{StepsAs}
use Rattle.closure_tables.specs.Moves.{fetched}
use Rattle.closure_tables.specs.declared.rows.Cell.TheVariants as cell
use Rattle.closure_tables.specs.declared.rows.Argument.{Argument}
use Rattle.closure_tables.proofs.Moved as moved
use Rattle.closure_tables.proofs.Agree as agree
use Rattle.machine.specs.declared.outcomes.Outcome.TheVariants.{Made}
use Rattle.machine.specs.declared.transitions.Transition.TheVariants.{Substitution}
use Rattle.abstract_machine.specs.Configurations.{used_by}
use Rattle.closure_tables.proofs.Kept.{argument_is}
use Rattle.closure_view.specs.Links.{linked}
use Rattle.closure_view.proofs.Chains.{linked_is}
use Rattle.closure.specs.declared.state.Closure.{Closure}
use Rattle.closure.specs.Views.{tables_of, Hand, capacities, places_used, configuration}
use Rattle.closure.specs.Soundness.{entries_long}
use Rattle.closure.proofs.Steps.{in_hand, kept_at, reaches}

abbrev entries_of : Closure → List Entry
entries_of m = (tables_of m).entries

-- a row read from the table is the entry
pub entry_read : (m : Closure) (e : ℕ) (x : Entry) → e < m.levels.entries.used → x ≡ get_or (vec_items m.entries) e x → x ≡ get_or (entries_of m) e blank_entry
entry_read m e x low read =
    let rows = vec_items m.entries in
    let inside : e < length rows = omega (arith, m.levels.entries.within, m.entries_fit, m.entries.ok) in
    read ∙ get_or_default rows e x blank_entry inside ∙ sym (get_or-take m.levels.entries.used rows e blank_entry low)

-- the walk along the chain in hand, over the entries in use
pub hand_linked :
    (m : Closure) (j n : ℕ) (rows : List Entry) (o : Option ℕ) → Hand m (cell.Place j) →
    n ≡ m.levels.entries.used → rows ≡ vec_items m.entries → o ≡ linked (take n rows) m.hand.chain j →
    slice_get (chain_in (entries_of m) m.hand.chain) j ≡ o
hand_linked m j n rows o hand long are found =
    let ok = kept_at m _ hand refl in
    let same : linked (take n rows) m.hand.chain j ≡ linked (entries_of m) m.hand.chain j = cc in
    sym (linked_is (tables_of m) ok m.hand.chain j (argument_is _ _ m.hand ok.hand).chain) ∙ sym same ∙ sym found

-- substitution

pub place_filled : (m : Closure) (j : ℕ) → Hand m (cell.Place j) → slice_get (chain_in (entries_of m) m.hand.chain) j ≡ None → ⊥
place_filled m j hand none = moved.place_filled (tables_of m) (kept_at m _ hand refl) j hand none

pub entry_low : (m : Closure) (j e : ℕ) → Hand m (cell.Place j) → slice_get (chain_in (entries_of m) m.hand.chain) j ≡ Some e → e < m.levels.entries.used
entry_low m j e hand found = omega (arith, moved.entry_low (tables_of m) (kept_at m _ hand refl) j e found, entries_long m)

abbrev with_hand : Closure → Argument → Tables
with_hand m a =
    below m.levels.nodes.used (vec_items m.cells) m.levels.entries.used (vec_items m.entries) m.levels.stack.used (vec_items m.stack) a

fetched_is : (m : Closure) (e : ℕ) (x : Entry) → e < m.levels.entries.used → x ≡ get_or (vec_items m.entries) e x → with_hand m x.argument ≡ fetched e (tables_of m)
fetched_is m e x low read =
    let is = entry_read m e x low read in
    cc

pub substitution_made :
    (m : Closure) (j e : ℕ) (x : Entry) → Hand m (cell.Place j) → slice_get (chain_in (entries_of m) m.hand.chain) j ≡ Some e → x ≡ get_or (vec_items m.entries) e x →
    StepsAs (configuration m) (Ok (Made Substitution)) (configured (capacities m) (places_used m) (with_hand m x.argument))
substitution_made m j e x hand found read =
    let free : places_used m ≡ used_by Substitution 0 (places_used m) = let none : m.levels.nodes.used + 0 ≡ m.levels.nodes.used = omega arith in cc in
    reaches (configuration m) (Ok (Made Substitution)) (capacities m) (capacities m) (used_by Substitution 0 (places_used m)) (places_used m) (fetched e (tables_of m)) (with_hand m x.argument)
    (agree.substitution_as (capacities m) (places_used m) (tables_of m) j e (in_hand m _ hand refl) m.kept hand found)
    refl free (fetched_is m e x (entry_low m j e hand found) read)

pub substitution_keeps :
    (m : Closure) (j e : ℕ) (x : Entry) → Hand m (cell.Place j) → slice_get (chain_in (entries_of m) m.hand.chain) j ≡ Some e → x ≡ get_or (vec_items m.entries) e x →
    valid (with_hand m x.argument) ≡ true
substitution_keeps m j e x hand found read =
    ap valid (fetched_is m e x (entry_low m j e hand found) read) ∙ agree.substitution_valid (tables_of m) j e (in_hand m _ hand refl) m.kept hand found
