-- Tables as configurations of the abstract machine: they are sound, and step as it does. Assumes nothing.
use Rattle.std.proofs.Common.{◌≡◌, ℕ, ◌-◌, ◌<◌, ◌≤◌, true, false, eqb, length, Some, None, Ok, Result, sym, refl, ap, ◌∙◌, subst, arith, eq-eqb, eqb-true}
use Rattle.std.proofs.lemmas.Bool.Decides.{nat_tests}
use borrow.Author.Tests.{eqb-false}
use Rattle.std.proofs.lemmas.Bool.{cond-true, le-leb}
use Rattle.machine.specs.declared.faults.MachineFault.{MachineFault}
use Rattle.machine.specs.declared.transitions.Transition.{Transition}
use Rattle.machine.specs.declared.transitions.Transition.TheVariants.{Beta, Substitution, Search}
use Rattle.machine.specs.declared.outcomes.Table.{Table}
use Rattle.machine.specs.declared.outcomes.Table.TheVariants.{Stack, Entries, Nodes}
use Rattle.machine.specs.declared.outcomes.Outcome.{Outcome}
use Rattle.machine.specs.declared.outcomes.Outcome.TheVariants.{Made, Done, Full}
use Rattle.machine.specs.Meanings.{Places, Due, transition, done, Within, most_places}
use Rattle.machine.specs.Rules.{afforded, outcome_of, outcome_due}
use Rattle.abstract_machine.specs.States.{due_of, next}
use Rattle.abstract_machine.specs.Configurations.{Loaded, Configuration, free_of, explained, used_by, after_step, SoundLoaded, SoundConfiguration}
use Rattle.closure_tables.specs.Tables.{Tables}
use Rattle.closure_tables.specs.Presented.{closure_of, entry_piece, presented, loaded_in, configured, no_price}
use Rattle.closure_tables.specs.Valid.{valid}
use Rattle.closure_tables.specs.Steps.{StepsAs}
use Rattle.closure_tables.specs.Moves.{descended, entered, fetched}
use Rattle.closure_tables.specs.declared.rows.Cell.TheVariants as cell
use Rattle.std.specs.List.{slice_get}
use Rattle.closure_tables.proofs.Latest.{length_latest}
use Rattle.closure_tables.proofs.Kept.{kept, kept_valid}
use Rattle.closure_tables.proofs.Moved.{Hand, hand_chain, search_due, search_next, search_kept, beta_due, beta_next, beta_kept, substitution_due, substitution_next, substitution_kept, function_done, ingredient_done}

abbrev held : Places → Places → Tables → Configuration
held c u t = record { capacity = c; used = u; loaded = Some (record { size = length t.cells; state = presented t }) }

pub loaded_some : (t : Tables) → 0 < length t.cells → loaded_in t ≡ Some (record { size = length t.cells; state = presented t })
loaded_some t h = grind (arith, nat_tests)

pub loaded_none : (t : Tables) → length t.cells ≡ 0 → loaded_in t ≡ None
loaded_none t h = cond-true (eqb (length t.cells) 0) None (Some (record { size = length t.cells; state = presented t })) (eq-eqb (length t.cells) 0 h)

held_is : (c u : Places) (t : Tables) → 0 < length t.cells → configured c u t ≡ held c u t
held_is c u t h = ap (λ o. record { capacity = c; used = u; loaded = o }) (loaded_some t h)

-- valid tables that are as full as their levels say are a sound configuration
pub configured_sound :
    (c u : Places) (t : Tables) → Within c most_places → Within u c → u.stack ≡ length t.stack → u.entries ≡ length t.entries → valid t ≡ true →
    SoundConfiguration (configured c u t)
configured_sound c u t limited within stack entries ok = record { limited = limited; within = within; loaded = loaded_sound }
  where
    loaded_sound : (l : Loaded) → loaded_in t ≡ Some l → SoundLoaded u l
    loaded_sound l is =
        elim (eqb (length t.cells) 0) as (λ b. eqb (length t.cells) 0 ≡ b → SoundLoaded u l) [
          | true ↦ λ e.
              let none = loaded_none t (eqb-true (length t.cells) 0 e) in
              cc
          | false ↦ λ e.
              let apart = eqb-false (length t.cells) 0 e in
              let some : 0 < length t.cells = omega arith in
              let here = loaded_some t some in
              let same : record { size = length t.cells; state = presented t } ≡ l = cc in
              let k = kept t some ok in
              subst (SoundLoaded u) same
              (record {
                some = some;
                state = k.sound;
                stack = stack ∙ sym (length_latest (closure_of t.cells t.entries) t.stack);
                entries = entries ∙ sym (length_latest (entry_piece t.cells t.entries) t.entries);
              })
        ] refl

-- a step that is answered o, in a configuration that holds a state with d due
outcome_is : (c u : Places) (t : Tables) (d : Due) (o : Outcome) → due_of (presented t) ≡ d → outcome_of (free_of (held c u t)) 0 d ≡ o → outcome_due (explained no_price (held c u t)) ≡ Ok o
outcome_is c u t d o due is = ap (λ x. Ok (outcome_of (free_of (held c u t)) 0 x)) due ∙ ap Ok is

-- from a configuration that is known to hold a state
from_held : (c u : Places) (t : Tables) (r : Result Outcome MachineFault) (y : Configuration) → 0 < length t.cells → StepsAs (held c u t) r y → StepsAs (configured c u t) r y
from_held c u t r y h s = subst (λ x. StepsAs x r y) (sym (held_is c u t h)) s

after_of : (x y : Configuration) (r : Result Outcome MachineFault) → outcome_due (explained no_price x) ≡ r → y ≡ after_step no_price r x → StepsAs x r y
after_of x y r answer after = record { answer = sym answer; after = after ∙ ap (λ a. after_step no_price a x) (sym answer) }

pub made_as :
    (c u : Places) (t t' : Tables) (k : Transition) → 0 < length t.cells → length t'.cells ≡ length t.cells →
    due_of (presented t) ≡ transition k → afforded (free_of (configured c u t)) 0 k ≡ Made k → presented t' ≡ next (presented t) →
    StepsAs (configured c u t) (Ok (Made k)) (configured c (used_by k 0 u) t')
made_as c u t t' k h long due fits is = grind (arith, nat_tests, from_held, after_of, outcome_is, held_is)

pub full_as :
    (c u : Places) (t : Tables) (k : Transition) (b : Table) → 0 < length t.cells →
    due_of (presented t) ≡ transition k → afforded (free_of (configured c u t)) 0 k ≡ Full b →
    StepsAs (configured c u t) (Ok (Full b)) (configured c u t)
full_as c u t k b h due fits = grind (arith, nat_tests, from_held, after_of, outcome_is, held_is)

pub done_as : (c u : Places) (t : Tables) → 0 < length t.cells → due_of (presented t) ≡ done → StepsAs (configured c u t) (Ok Done) (configured c u t)
done_as c u t h due = grind (arith, nat_tests, from_held, after_of, outcome_is, held_is)

-- each transition, where its table has room and where it has none

pub search_as :
    (c u : Places) (t : Tables) (r : ℕ) → 0 < length t.cells → valid t ≡ true → Hand t (cell.Application r) → u.stack < c.stack →
    StepsAs (configured c u t) (Ok (Made Search)) (configured c (used_by Search 0 u) (descended r t))
search_as c u t r h ok is room = grind (arith, nat_tests, kept, made_as, search_due, search_next)

pub search_full_as :
    (c u : Places) (t : Tables) (r : ℕ) → 0 < length t.cells → valid t ≡ true → Hand t (cell.Application r) → c.stack ≤ u.stack →
    StepsAs (configured c u t) (Ok (Full Stack)) (configured c u t)
search_full_as c u t r h ok is none = grind (arith, nat_tests, kept, full_as, search_due)

pub beta_as :
    (c u : Places) (t : Tables) → 0 < length t.cells → valid t ≡ true → Hand t cell.Function → 0 < length t.stack → u.entries < c.entries →
    StepsAs (configured c u t) (Ok (Made Beta)) (configured c (used_by Beta 0 u) (entered t))
beta_as c u t h ok is some room = grind (arith, nat_tests, kept, made_as, beta_due, beta_next)

pub beta_full_as :
    (c u : Places) (t : Tables) → 0 < length t.cells → valid t ≡ true → Hand t cell.Function → 0 < length t.stack → c.entries ≤ u.entries →
    StepsAs (configured c u t) (Ok (Full Entries)) (configured c u t)
beta_full_as c u t h ok is some none = grind (arith, nat_tests, kept, full_as, beta_due)

pub substitution_as :
    (c u : Places) (t : Tables) (j e : ℕ) → 0 < length t.cells → valid t ≡ true → Hand t (cell.Place j) → slice_get (hand_chain t) j ≡ Some e →
    StepsAs (configured c u t) (Ok (Made Substitution)) (configured c (used_by Substitution 0 u) (fetched e t))
substitution_as c u t j e h ok is found =
    let k = kept t h ok in
    made_as c u t (fetched e t) Substitution h refl (substitution_due t k j e is found) (cond-true _ (Made Substitution) (Full Nodes) (le-leb 0 (c.nodes - u.nodes) (omega arith))) (substitution_next t k j e is found)

pub function_done_as :
    (c u : Places) (t : Tables) → 0 < length t.cells → valid t ≡ true → Hand t cell.Function → length t.stack ≡ 0 → StepsAs (configured c u t) (Ok Done) (configured c u t)
function_done_as c u t h ok is none = done_as c u t h (function_done t (kept t h ok) is none)

pub ingredient_done_as :
    (c u : Places) (t : Tables) (j : ℕ) → 0 < length t.cells → valid t ≡ true → Hand t (cell.Ingredient j) → StepsAs (configured c u t) (Ok Done) (configured c u t)
ingredient_done_as c u t j h ok is = done_as c u t h (ingredient_done t (kept t h ok) j is)

-- and each leaves valid tables

pub search_valid : (t : Tables) (r : ℕ) → 0 < length t.cells → valid t ≡ true → Hand t (cell.Application r) → valid (descended r t) ≡ true
search_valid t r h ok is = kept_valid (descended r t) h (search_kept t (kept t h ok) r is)

pub beta_valid : (t : Tables) → 0 < length t.cells → valid t ≡ true → Hand t cell.Function → 0 < length t.stack → valid (entered t) ≡ true
beta_valid t h ok is some = kept_valid (entered t) h (beta_kept t (kept t h ok) is some)

pub substitution_valid : (t : Tables) (j e : ℕ) → 0 < length t.cells → valid t ≡ true → Hand t (cell.Place j) → slice_get (hand_chain t) j ≡ Some e → valid (fetched e t) ≡ true
substitution_valid t j e h ok is found = kept_valid (fetched e t) h (substitution_kept t (kept t h ok) j e is found)

-- what a step comes to, by what is due
pub due_as :
    (c u : Places) (t : Tables) (d : Due) → 0 < length t.cells → due_of (presented t) ≡ d →
    outcome_due (explained no_price (configured c u t)) ≡ Ok (outcome_of (free_of (configured c u t)) 0 d)
due_as c u t d h due =
    ap (λ x. outcome_due (explained no_price x)) (held_is c u t h) ∙ outcome_is c u t d (outcome_of (free_of (held c u t)) 0 d) due refl
