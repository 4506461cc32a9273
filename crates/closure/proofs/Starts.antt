-- What a reading leaves in the closure machine's tables. Assumes nothing.
use Rattle.std.proofs.Common.{◌≡◌, ℕ, ◌-◌, ◌<◌, ◌≤◌, true, leb, List, [], ◌∷◌, length, take, Some, None, Ok, Err, vec_items, vec_len, fold, sym, refl, ap, ◌∙◌, subst, arith, length-take-le}
use Rattle.std.proofs.lemmas.Bool.{cond-true, le-leb}
use Rattle.term.specs.Terms.{Term, size}
use Rattle.node.specs.declared.nodes.Located.{Located}
use Rattle.code.specs.Law.{ReadingLaw}
use Rattle.code.specs.Scans.{handed_over}
use Rattle.code.specs.Verdicts.{verdict, accepted, refused, told}
use Rattle.machine.specs.declared.faults.MachineFault.TheVariants.{TooLarge}
use Rattle.machine.specs.Meanings.{Places}
use Rattle.machine.specs.Rules.{sized, start_of}
use Rattle.abstract_machine.specs.States.{initial}
use Rattle.abstract_machine.specs.Configurations.{explained, holding, after_start, started}
use Rattle.tables.specs.declared.levels.Levels.{Levels}
use Rattle.tables.specs.Limits.{entry_limit}
use Rattle.tables.specs.Usages.{usages, freed}
use Rattle.closure_tables.specs.declared.rows.Argument.{Argument}
use Rattle.closure_tables.specs.Tables.{blank_argument, Tables, below}
use Rattle.closure_tables.specs.Presented.{loaded_in, configured, no_price}
use Rattle.closure_tables.specs.Valid.{valid}
use Rattle.closure_tables.specs.Received as store
use Rattle.closure_tables.specs.Received.{received, nothing_received}
use Rattle.closure_tables.proofs.Agree.{loaded_some, loaded_none}
use Rattle.code.proofs.Lists.{size_some}
use Rattle.closure_tables.proofs.Started.{code_started}
use Rattle.closure.specs.declared.state.storing.Nodes.{Nodes}
use Rattle.closure.specs.declared.state.Closure.{Closure}
use Rattle.closure.specs.Views.{tables_of, configuration, meaning}
use Rattle.closure.specs.Stores.{Stored, stored_in, storing}
use Rattle.closure.proofs.Views.{cells_long}

-- what is stored of nodes that are handed over, and that the loans are the same
pub record Handed (s e : Stored) (ls : List Located) : Type 0 where
  pub code : e.code ≡ fold received s.code ls
  pub long : e.long ≡ s.long
  pub capacity : e.capacity ≡ s.capacity
  pub cells_lent : s.cells_lent ≡ e.cells_lent
  pub level_lent : s.level_lent ≡ e.level_lent

pub handed : (s e : Stored) (ls : List Located) → e ≡ fold storing s ls → Handed s e ls
handed s e [] is = let same = sym is in record {
  code = ap (λ x. x.code) is;
  long = ap (λ x. x.long) is;
  capacity = ap (λ x. x.capacity) is;
  cells_lent = ap (λ x. x.cells_lent) same;
  level_lent = ap (λ x. x.level_lent) same;
}
handed s e (l ∷ ls) is =
    let h = handed (storing s l) e ls is in
    record { code = h.code; long = h.long; capacity = h.capacity; cells_lent = h.cells_lent; level_lent = h.level_lent }

-- the table of nodes of m as a reading begins, lent by those names
abbrev pub lent : Closure → Levels → ℕ → ℕ → Stored
lent m low cells_lent level_lent = record {
  code = record { cells = take low.nodes.used (vec_items m.cells); room = low.nodes.capacity - low.nodes.used };
  long = vec_len m.cells;
  capacity = low.nodes.capacity;
  cells_lent = cells_lent;
  level_lent = level_lent;
}

-- a code was read into the table of nodes of m, on which nothing stood, with its levels freed
pub record Reading (m : Closure) (low : Levels) (n : Nodes) (bs : List ℕ) : Type 0 where
  pub idle : m.levels.nodes.used ≡ 0
  pub freed : usages low ≡ freed (usages m.levels)
  pub cells_lent : ℕ
  pub level_lent : ℕ
  pub held : stored_in n ≡ fold storing (lent m low cells_lent level_lent) (handed_over bs)
  pub law : ReadingLaw bs

-- so much is known however it ends, where the level of the nodes is the reading's and the others are as they were
pub record Laid (m : Closure) (n : Nodes) (l : Levels) (bs : List ℕ) : Type 0 where
  pub long : vec_len n.cells.now ≡ vec_len m.cells
  pub nodes : l.nodes.capacity ≡ m.levels.nodes.capacity
  pub entries : l.entries.capacity ≡ m.levels.entries.capacity
  pub stack : l.stack.capacity ≡ m.levels.stack.capacity
  pub no_entries : l.entries.used ≡ 0
  pub no_stack : l.stack.used ≡ 0
  pub cells : take l.nodes.used (vec_items n.cells.now) ≡ (fold received (nothing_received m.levels.nodes.capacity) (handed_over bs)).cells

-- the levels afterwards
pub record Raised (low : Levels) (n : Nodes) (l : Levels) : Type 0 where
  pub nodes : l.nodes ≡ n.level.now
  pub entries : l.entries ≡ low.entries
  pub stack : l.stack ≡ low.stack

pub raised :
    (low : Levels) (n : Nodes) (l : Levels) {few : low.entries.capacity ≤ entry_limit} →
    l ≡ record { nodes = n.level.now; entries = low.entries; stack = low.stack; few = few } → Raised low n l
raised low n l is = record { nodes = ap (λ x. x.nodes) is; entries = ap (λ x. x.entries) is; stack = ap (λ x. x.stack) is }

pub laid : (m : Closure) (low : Levels) (n : Nodes) (l : Levels) (bs : List ℕ) → Reading m low n bs → Raised low n l → Laid m n l bs
laid m low n l bs r up =
    let end = handed (lent m low r.cells_lent r.level_lent) (stored_in n) (handed_over bs) r.held in
    let none : low.nodes.used ≡ 0 = ap (λ u. u.nodes.used) r.freed in
    let capacity : low.nodes.capacity ≡ m.levels.nodes.capacity = ap (λ u. u.nodes.capacity) r.freed in
    let room : low.nodes.capacity - low.nodes.used ≡ m.levels.nodes.capacity = omega arith in
    let begun : (lent m low r.cells_lent r.level_lent).code ≡ nothing_received m.levels.nodes.capacity
    = let front : take low.nodes.used (vec_items m.cells) ≡ [] = ap (λ k. take k (vec_items m.cells)) none in cc in
    record {
      long = end.long;
      nodes = ap (λ x. x.capacity) up.nodes ∙ end.capacity ∙ capacity;
      entries = ap (λ x. x.capacity) up.entries ∙ ap (λ u. u.entries.capacity) r.freed;
      stack = ap (λ x. x.capacity) up.stack ∙ ap (λ u. u.stack.capacity) r.freed;
      no_entries = ap (λ x. x.used) up.entries ∙ ap (λ u. u.entries.used) r.freed;
      no_stack = ap (λ x. x.used) up.stack ∙ ap (λ u. u.stack.used) r.freed;
      cells = ap (λ x. take x.used (vec_items n.cells.now)) up.nodes ∙ ap (λ s. s.cells) end.code ∙ ap (λ c. (fold received c (handed_over bs)).cells) begun;
    }

-- m with the nodes and levels that a reading left, and its first node in hand

abbrev pub capacity_after : Levels → Places
capacity_after l = record { stack = l.stack.capacity; entries = l.entries.capacity; nodes = l.nodes.capacity }

abbrev pub used_after : Levels → Places
used_after l = record { stack = l.stack.used; entries = l.entries.used; nodes = l.nodes.used }

abbrev pub tables_after : Closure → Nodes → Levels → Tables
tables_after m n l = below l.nodes.used (vec_items n.cells.now) l.entries.used (vec_items m.entries) l.stack.used (vec_items m.stack) blank_argument

-- what a closure machine keeps, with the nodes and levels that a reading left to m
pub record Upheld (m : Closure) (n : Nodes) (l : Levels) (hand : Argument) : Type 0 where
  pub nodes : l.nodes.capacity ≤ vec_len n.cells.now
  pub entries : l.entries.capacity ≤ vec_len m.entries
  pub stack : l.stack.capacity ≤ vec_len m.stack
  pub kept : valid (below l.nodes.used (vec_items n.cells.now) l.entries.used (vec_items m.entries) l.stack.used (vec_items m.stack) hand) ≡ true

-- the code was accepted, and its nodes fit
pub record Begun (m : Closure) (n : Nodes) (l : Levels) (bs : List ℕ) (s : ℕ) : Type 0 where
  pub answer : Ok s ≡ start_of bs (meaning m)
  pub after : configured (capacity_after l) (used_after l) (tables_after m n l) ≡ started no_price bs (configuration m)
  pub upheld : Upheld m n l blank_argument

idle_configuration : (m : Closure) → m.levels.nodes.used ≡ 0 → loaded_in (tables_of m) ≡ None
idle_configuration m none = loaded_none (tables_of m) (cells_long m ∙ none)

begun_as :
    (m : Closure) (low : Levels) (n : Nodes) (l : Levels) (bs : List ℕ) (t : Term) → Reading m low n bs → Raised low n l → verdict bs ≡ accepted t → size t ≤ m.levels.nodes.capacity →
    Begun m n l bs (size t)
begun_as m low n l bs t r up v fits =
    let lay = laid m low n l bs r up in
    let c = m.levels.nodes.capacity in
    let cells = (fold received (nothing_received c) (handed_over bs)).cells in
    let st = code_started bs t c r.law v fits in
    let tables : tables_after m n l ≡ store.started cells
    = let a = lay.cells in
    let b : take l.entries.used (vec_items m.entries) ≡ [] = ap (λ k. take k (vec_items m.entries)) lay.no_entries in
    let d : take l.stack.used (vec_items m.stack) ≡ [] = ap (λ k. take k (vec_items m.stack)) lay.no_stack in
    cc in
    let used : l.nodes.used ≡ size t
    = sym (length-take-le l.nodes.used (vec_items n.cells.now) (omega (arith, l.nodes.within, lay.nodes, lay.long, m.nodes_fit, n.cells.now.ok))) ∙ ap length lay.cells ∙ st.counted in
    let some : 0 < length cells = omega (arith, st.counted, size_some t) in
    let standing : loaded_in (tables_after m n l) ≡ Some (record { size = size t; state = initial t })
    = ap loaded_in tables ∙ loaded_some (store.started cells) some ∙ (let a = st.counted in let b = st.presents in cc) in
    let answer : start_of bs (meaning m) ≡ Ok (size t)
    = ap (λ o. start_of bs (explained no_price (record { capacity = (configuration m).capacity; used = (configuration m).used; loaded = o }))) (idle_configuration m r.idle)
    ∙ ap (λ x. sized c (told x)) v
    ∙ cond-true (leb (size t) c) (Ok (size t)) (Err TooLarge) (le-leb (size t) c fits) in
    let before : started no_price bs (configuration m) ≡ holding t (configuration m)
    = ap (λ a. after_start a (verdict bs) (configuration m)) answer ∙ ap (λ x. after_start (Ok (size t)) x (configuration m)) v in
    let places : capacity_after l ≡ (configuration m).capacity = let a = lay.nodes in let b = lay.entries in let d = lay.stack in cc in
    let level : used_after l ≡ record { stack = 0; entries = 0; nodes = size t } = let a = lay.no_stack in let b = lay.no_entries in cc in
    record {
      answer = sym answer;
      after = (let same : configured (capacity_after l) (used_after l) (tables_after m n l) ≡ holding t (configuration m) = cc in same) ∙ sym before;
      upheld = record {
        nodes = omega (arith, lay.nodes, lay.long, m.nodes_fit);
        entries = omega (arith, lay.entries, m.entries_fit);
        stack = omega (arith, lay.stack, m.stack_fit);
        kept = ap valid tables ∙ st.valid;
      };
    }

pub begun :
    (m : Closure) (low : Levels) (n : Nodes) (l : Levels) (bs : List ℕ) (s : ℕ) → Reading m low n bs → Raised low n l → Ok s ≡ told (verdict bs) → s ≤ m.levels.nodes.capacity →
    Begun m n l bs s
begun m low n l bs s r up answer fits =
    elim (verdict bs) as (λ v. verdict bs ≡ v → Ok s ≡ told v → Begun m n l bs s) [
      | accepted t ↦ λ v is.
          let same : size t ≡ s = cc in
          subst (Begun m n l bs) same (begun_as m low n l bs t r up v (omega arith))
      | refused f ↦ λ v is. cc
    ] refl answer

-- refused: the levels are those of m again, below which there are no nodes
pub restored : (m : Closure) (low : Levels) (n : Nodes) (bs : List ℕ) (back : Levels) → Reading m low n bs → back ≡ m.levels → Upheld m n back m.hand
restored m low n bs back r is =
    let end = handed (lent m low r.cells_lent r.level_lent) (stored_in n) (handed_over bs) r.held in
    let nodes : back.nodes.capacity ≡ n.level.now.capacity
    = ap (λ x. x.nodes.capacity) is ∙ sym (end.capacity ∙ ap (λ u. u.nodes.capacity) r.freed) in
    let entries = ap (λ x. x.entries.capacity) is in
    let stack = ap (λ x. x.stack.capacity) is in
    let none : back.nodes.used ≡ 0 = ap (λ x. x.nodes.used) is ∙ r.idle in
    record {
      nodes = omega (arith, n.fits);
      entries = omega (arith, m.entries_fit);
      stack = omega (arith, m.stack_fit);
      kept = ap (λ k. valid (below k (vec_items n.cells.now) back.entries.used (vec_items m.entries) back.stack.used (vec_items m.stack) m.hand)) none;
    }
