-- What the closure machine's code does to its tables is what each transition does. Assumes nothing.
use Rattle.std.specs.Prelude.{◌≡◌, ℕ, suc, ◌+◌, ◌-◌, ◌<◌, Bool, true, false, List, [], ◌∷◌, ◌++◌, length, take, Some, None, Ok, vec_items, Option, Result, slice_get, slice_index_or, slice_set}
use Rattle.std.proofs.Common.{inl, inr, ap, sym, refl, subst, ◌∙◌, add-one, arith, take-suc-set, take-take}
use Rattle.std.proofs.lemmas.Option.{slice_get_within, slice_get_cases, get_or_from_slice_get}
use Rattle.machine.specs.declared.faults.MachineFault.{MachineFault}
use Rattle.machine.specs.declared.outcomes.Outcome.{Outcome}
use Rattle.machine.specs.declared.outcomes.Outcome.TheVariants.{Made, Done, Full}
use Rattle.machine.specs.declared.transitions.Transition.TheVariants.{Beta, Search}
use Rattle.machine.specs.declared.outcomes.Table.TheVariants.{Stack, Entries}
use Rattle.machine.specs.Meanings.{Places}
use Rattle.abstract_machine.specs.Configurations.{Configuration, used_by}
use Rattle.tables.specs.declared.levels.Level.{Level}
use Rattle.tables.specs.Usages.{usage, first_free, one_more, one_less}
use Rattle.tables.proofs.Usages as usages
use Rattle.closure_tables.specs.declared.rows.Cell.{Cell}
use Rattle.closure_tables.specs.declared.rows.Cell.TheVariants as cell
use Rattle.closure_tables.specs.declared.rows.Argument.{Argument}
use Rattle.closure_tables.specs.declared.rows.Entry.{Entry}
use Rattle.closure_tables.specs.Tables.{blank_cell, blank_argument, Tables, below}
use Rattle.closure_tables.specs.Presented.{configured}
use Rattle.closure_tables.specs.Steps.{StepsAs}
use Rattle.closure_tables.specs.Moves.{descended, entered}
use Rattle.closure_tables.specs.Valid.{valid}
use Rattle.closure_tables.proofs.Kept.{Kept, kept}
use Rattle.closure_tables.proofs.Agree as agree
use Rattle.closure.specs.declared.state.Closure.{Closure}
use Rattle.closure.specs.Views.{tables_of, Hand, capacities, places_used, configuration}
use Rattle.closure.specs.Soundness.{entries_long, stack_long}
use Rattle.closure.proofs.Views.{cells_long}

pub standing : (m : Closure) → 0 < m.levels.nodes.used → 0 < length (tables_of m).cells
standing m h = omega (arith, cells_long m)

abbrev pub ingredient : Cell → Bool
ingredient (cell.Ingredient n) = true
ingredient _ = false

filled : (xs : List Cell) (i : ℕ) (x : Cell) → slice_index_or xs i blank_cell ≡ x → ingredient x ≡ false → 0 < length xs
filled [] i x is other = let z : true ≡ false = ap ingredient is ∙ other in grind arith
filled (y ∷ ys) i x is other = omega arith

-- where the cell in hand is no ingredient, as a blank one is, a term stands
pub in_hand : (m : Closure) (x : Cell) → Hand m x → ingredient x ≡ false → 0 < length (tables_of m).cells
in_hand m x hand other = filled (tables_of m).cells m.hand.node x hand other

pub kept_at : (m : Closure) (x : Cell) → Hand m x → ingredient x ≡ false → Kept (tables_of m)
kept_at m x hand other = kept (tables_of m) (in_hand m x hand other) m.kept

-- a step that leads to tables that are the same
pub reaches : (x : Configuration) (r : Result Outcome MachineFault) (c c' u u' : Places) (t t' : Tables) → StepsAs x r (configured c u t) → c' ≡ c → u' ≡ u → t' ≡ t → StepsAs x r (configured c' u' t')
reaches x r c c' u u' t t' s ec eu et =
    let same : configured c u t ≡ configured c' u' t' = cc in
    subst (StepsAs x r) same s

-- the machine m with another level and other rows of the stack, and another closure in hand

abbrev stack_capacity : Closure → Level → Places
stack_capacity m l = record { stack = l.capacity; entries = m.levels.entries.capacity; nodes = m.levels.nodes.capacity }

abbrev stack_used : Closure → Level → Places
stack_used m l = record { stack = l.used; entries = m.levels.entries.used; nodes = m.levels.nodes.used }

abbrev with_stack : Closure → Level → List Argument → Argument → Tables
with_stack m l rows hand = below m.levels.nodes.used (vec_items m.cells) m.levels.entries.used (vec_items m.entries) l.used rows hand

-- search

abbrev right_side : Closure → ℕ → Argument
right_side m right = record { node = right; chain = m.hand.chain }

abbrev pub after_search : Closure → Level → ℕ → ℕ → Tables
after_search m l at right = with_stack m l (slice_set (vec_items m.stack) at (right_side m right)) (record { node = m.hand.node + 1; chain = m.hand.chain })

record Pushed (m : Closure) (l : Level) (at right : ℕ) : Type 0 where
  free : m.levels.stack.used < m.levels.stack.capacity
  capacity : l.capacity ≡ m.levels.stack.capacity
  used : l.used ≡ suc m.levels.stack.used
  tables : after_search m l at right ≡ descended right (tables_of m)

pushed : (m : Closure) (l : Level) (at right : ℕ) → Some at ≡ first_free (usage m.levels.stack) → usage l ≡ one_more (usage m.levels.stack) → Pushed m l at right
pushed m l at right place level =
    let took = usages.taken (usage m.levels.stack) at place in
    let rows = vec_items m.stack in
    let a = right_side m right in
    let k = m.levels.stack.used in
    let used : l.used ≡ suc k = ap (λ u. u.used) level ∙ took.level in
    let room : k < length rows = omega (arith, took.free, m.stack_fit, m.stack.ok) in
    let stack : take l.used (slice_set rows at a) ≡ take k rows ++ a ∷ []
    = ap (λ j. take j (slice_set rows at a)) used ∙ ap (λ i. take (suc k) (slice_set rows i a)) took.at_level ∙ take-suc-set rows k a room in
    let one = add-one m.hand.node in
    record { free = took.free; capacity = ap (λ u. u.capacity) level; used = used; tables = cc }

pub search_made :
    (m : Closure) (l : Level) (at right : ℕ) → Hand m (cell.Application right) →
    Some at ≡ first_free (usage m.levels.stack) → usage l ≡ one_more (usage m.levels.stack) →
    StepsAs (configuration m) (Ok (Made Search)) (configured (stack_capacity m l) (stack_used m l) (after_search m l at right))
search_made m l at right hand place level =
    let p = pushed m l at right place level in
    let capacity = p.capacity in
    let used = p.used in
    reaches (configuration m) (Ok (Made Search)) (capacities m) (stack_capacity m l) (used_by Search 0 (places_used m)) (stack_used m l) (descended right (tables_of m)) (after_search m l at right)
    (agree.search_as (capacities m) (places_used m) (tables_of m) right (in_hand m _ hand refl) m.kept hand p.free)
    (cc) (cc) p.tables

pub search_keeps :
    (m : Closure) (l : Level) (at right : ℕ) → Hand m (cell.Application right) →
    Some at ≡ first_free (usage m.levels.stack) → usage l ≡ one_more (usage m.levels.stack) →
    (l.capacity ≡ m.levels.stack.capacity) × (valid (after_search m l at right) ≡ true)
search_keeps m l at right hand place level =
    let p = pushed m l at right place level in
    (p.capacity, ap valid p.tables ∙ agree.search_valid (tables_of m) right (in_hand m _ hand refl) m.kept hand)

pub search_full :
    (m : Closure) (l : Level) (right : ℕ) → Hand m (cell.Application right) →
    None ≡ first_free (usage m.levels.stack) → usage l ≡ one_more (usage m.levels.stack) →
    StepsAs (configuration m) (Ok (Full Stack)) (configured (stack_capacity m l) (stack_used m l) (with_stack m l (vec_items m.stack) m.hand))
search_full m l right hand place level =
    let u = usages.untaken (usage m.levels.stack) place in
    let capacity : l.capacity ≡ m.levels.stack.capacity = ap (λ x. x.capacity) level in
    let used : l.used ≡ m.levels.stack.used = ap (λ x. x.used) level ∙ u.level in
    reaches (configuration m) (Ok (Full Stack)) (capacities m) (stack_capacity m l) (places_used m) (stack_used m l) (tables_of m) (with_stack m l (vec_items m.stack) m.hand)
    (agree.search_full_as (capacities m) (places_used m) (tables_of m) right (in_hand m _ hand refl) m.kept hand u.full)
    (cc) (cc) (cc)

-- β

abbrev beta_capacity : Closure → Level → Level → Places
beta_capacity m es st = record { stack = st.capacity; entries = es.capacity; nodes = m.levels.nodes.capacity }

abbrev beta_used : Closure → Level → Level → Places
beta_used m es st = record { stack = st.used; entries = es.used; nodes = m.levels.nodes.used }

-- the machine m with other levels of entries and stack, an argument as entry number e, and the body in hand
abbrev pub after_beta : Closure → Level → Level → ℕ → Argument → Tables
after_beta m es st e a =
    below m.levels.nodes.used (vec_items m.cells) es.used (slice_set (vec_items m.entries) e (record { argument = a; next = m.hand.chain })) st.used (vec_items m.stack) (record { node = m.hand.node + 1; chain = Some e })

-- the argument that has waited least
abbrev pub nearest : Closure → Option Argument
nearest m = slice_get (tables_of m).stack (length (tables_of m).stack - 1)

-- as it is read from the places in use
pub nearest_is :
    (m : Closure) (n : ℕ) (rows : List Argument) (o : Option Argument) → n ≡ m.levels.stack.used → rows ≡ vec_items m.stack →
    o ≡ slice_get (take n rows) (length (take n rows) - 1) → nearest m ≡ o
nearest_is m n rows o long are read = cc

stacked_some : (m : Closure) (a : Argument) → nearest m ≡ Some a → 0 < length (tables_of m).stack
stacked_some m a near = omega (arith, slice_get_within (tables_of m).stack (length (tables_of m).stack - 1) a near)

stacked_none : (m : Closure) → nearest m ≡ None → length (tables_of m).stack ≡ 0
stacked_none m none =
    let xs = (tables_of m).stack in
    elim (slice_get_cases xs (length xs - 1)).1 [
      | inl (x, low, is, read) ↦ cc
      | inr past ↦ omega (arith, past.0)
    ]

-- what the code knows once it has taken an entry and popped the stack
pub record Popping (m : Closure) (es st : Level) (e : ℕ) (a : Argument) : Type 0 where
  pub near : nearest m ≡ Some a
  pub entry : Some e ≡ first_free (usage m.levels.entries)
  pub entries : usage es ≡ one_more (usage m.levels.entries)
  pub stack : usage st ≡ one_less (usage m.levels.stack)

record Entered (m : Closure) (es st : Level) (e : ℕ) (a : Argument) : Type 0 where
  free : m.levels.entries.used < m.levels.entries.capacity
  stacked : 0 < length (tables_of m).stack
  capacity : beta_capacity m es st ≡ capacities m
  used : beta_used m es st ≡ used_by Beta 0 (places_used m)
  tables : after_beta m es st e a ≡ entered (tables_of m)

popped : (m : Closure) (es st : Level) (e : ℕ) (a : Argument) → Popping m es st e a → Entered m es st e a
popped m es st e a p =
    let took = usages.taken (usage m.levels.entries) e p.entry in
    let b = m.levels.entries.used in
    let k = m.levels.stack.used in
    let rows = vec_items m.entries in
    let args = vec_items m.stack in
    let new : Entry = record { argument = a; next = m.hand.chain } in
    let es_used : es.used ≡ suc b = ap (λ u. u.used) p.entries ∙ took.level in
    let es_capacity : es.capacity ≡ m.levels.entries.capacity = ap (λ u. u.capacity) p.entries in
    let st_used : st.used ≡ k - 1 = ap (λ u. u.used) p.stack in
    let st_capacity : st.capacity ≡ m.levels.stack.capacity = ap (λ u. u.capacity) p.stack in
    let room : b < length rows = omega (arith, took.free, m.entries_fit, m.entries.ok) in
    let entry_is : e ≡ length (take b rows) = took.at_level ∙ sym (entries_long m) in
    let stored : take es.used (slice_set rows e new) ≡ take b rows ++ new ∷ []
    = ap (λ j. take j (slice_set rows e new)) es_used ∙ ap (λ i. take (suc b) (slice_set rows i new)) took.at_level ∙ take-suc-set rows b new room in
    let argument : slice_index_or (take k args) (length (take k args) - 1) blank_argument ≡ a
    = get_or_from_slice_get (take k args) (length (take k args) - 1) a blank_argument p.near in
    let rest : take st.used args ≡ take (length (take k args) - 1) (take k args)
    = ap (λ j. take j args) st_used ∙ sym (take-take (k - 1) k args (omega arith)) ∙ ap (λ n. take (n - 1) (take k args)) (sym (stack_long m)) in
    let one = add-one m.hand.node in
    record { free = took.free; stacked = stacked_some m a p.near; capacity = cc; used = cc; tables = cc }

pub beta_made :
    (m : Closure) (es st : Level) (e : ℕ) (a : Argument) → Hand m cell.Function → Popping m es st e a →
    StepsAs (configuration m) (Ok (Made Beta)) (configured (beta_capacity m es st) (beta_used m es st) (after_beta m es st e a))
beta_made m es st e a hand p =
    let q = popped m es st e a p in
    reaches (configuration m) (Ok (Made Beta)) (capacities m) (beta_capacity m es st) (used_by Beta 0 (places_used m)) (beta_used m es st) (entered (tables_of m)) (after_beta m es st e a)
    (agree.beta_as (capacities m) (places_used m) (tables_of m) (in_hand m _ hand refl) m.kept hand q.stacked q.free)
    q.capacity q.used q.tables

pub beta_keeps :
    (m : Closure) (es st : Level) (e : ℕ) (a : Argument) → Hand m cell.Function → Popping m es st e a →
    (beta_capacity m es st ≡ capacities m) × (valid (after_beta m es st e a) ≡ true)
beta_keeps m es st e a hand p =
    let q = popped m es st e a p in
    (q.capacity, ap valid q.tables ∙ agree.beta_valid (tables_of m) (in_hand m _ hand refl) m.kept hand q.stacked)

abbrev with_entries : Closure → Level → Tables
with_entries m es = below m.levels.nodes.used (vec_items m.cells) es.used (vec_items m.entries) m.levels.stack.used (vec_items m.stack) m.hand

pub beta_full :
    (m : Closure) (es : Level) (a : Argument) → Hand m cell.Function → nearest m ≡ Some a →
    None ≡ first_free (usage m.levels.entries) → usage es ≡ one_more (usage m.levels.entries) →
    StepsAs (configuration m) (Ok (Full Entries)) (configured (beta_capacity m es m.levels.stack) (beta_used m es m.levels.stack) (with_entries m es))
beta_full m es a hand near place level =
    let u = usages.untaken (usage m.levels.entries) place in
    let capacity : es.capacity ≡ m.levels.entries.capacity = ap (λ x. x.capacity) level in
    let used : es.used ≡ m.levels.entries.used = ap (λ x. x.used) level ∙ u.level in
    reaches (configuration m) (Ok (Full Entries)) (capacities m) (beta_capacity m es m.levels.stack) (places_used m) (beta_used m es m.levels.stack) (tables_of m) (with_entries m es)
    (agree.beta_full_as (capacities m) (places_used m) (tables_of m) (in_hand m _ hand refl) m.kept hand (stacked_some m a near) u.full)
    (cc) (cc) (cc)

pub beta_done : (m : Closure) → Hand m cell.Function → nearest m ≡ None → StepsAs (configuration m) (Ok Done) (configuration m)
beta_done m hand none = agree.function_done_as (capacities m) (places_used m) (tables_of m) (in_hand m _ hand refl) m.kept hand (stacked_none m none)

pub ingredient_done : (m : Closure) (j : ℕ) → 0 < m.levels.nodes.used → Hand m (cell.Ingredient j) → StepsAs (configuration m) (Ok Done) (configuration m)
ingredient_done m j stands hand = agree.ingredient_done_as (capacities m) (places_used m) (tables_of m) j (standing m stands) m.kept hand
