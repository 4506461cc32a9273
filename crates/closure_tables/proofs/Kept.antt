-- What valid tables are, part by part. Assumes nothing.
use Rattle.std.proofs.Common.{◌≡◌, ℕ, suc, ◌<◌, ◌≤◌, true, ◌&&◌, ltb, leb, List, ◌++◌, length, get_or, Option, sym, ◌∙◌, subst, arith}
use Rattle.std.proofs.lemmas.Bool.Decides.{nat_tests}
use lib.ListN.{get_or-append}
use Rattle.std.proofs.lemmas.Bool.{and_parts, and_from, leb-true, le-leb, ltb-true, lt-ltb}
use Rattle.term.specs.Terms.{most_nodes}
use Rattle.abstract_machine.specs.Soundness.{SoundState, sound_state}
use Rattle.abstract_machine.proofs.Sound.{state_true, state_test}
use Rattle.closure_tables.specs.declared.rows.Cell.TheVariants as cell
use Rattle.closure_tables.specs.declared.rows.Argument.{Argument}
use Rattle.closure_tables.specs.declared.rows.Entry.{Entry}
use Rattle.closure_tables.specs.Tables.{blank_cell, blank_entry, Tables}
use Rattle.closure_tables.specs.Presented.{height, chain_of, chain_in, closure_of, presented}
use Rattle.closure_tables.specs.Valid.{each, cell_inside, argument_inside, entry_inside, inside, valid}
use Rattle.closure_tables.proofs.Each.{each_here}
use Rattle.closure_tables.proofs.Chains.{Falling, chain_agree}
use Rattle.closure_tables.proofs.Pieces.{Onward}

pub record Kept (t : Tables) : Type 0 where
  pub few : length t.cells ≤ most_nodes
  pub cells : each (cell_inside (length t.cells)) 0 t.cells ≡ true
  pub entries : each (entry_inside (length t.cells)) 0 t.entries ≡ true
  pub stack : each (λ k. argument_inside (length t.cells) (length t.entries)) 0 t.stack ≡ true
  pub hand : argument_inside (length t.cells) (length t.entries) t.hand ≡ true
  pub sound : SoundState (length t.cells) (presented t)

valid_is : (t : Tables) → 0 < length t.cells → valid t ≡ (leb (length t.cells) most_nodes && (inside t && sound_state (length t.cells) (presented t)))
valid_is t h = grind (arith, nat_tests)

pub kept : (t : Tables) → 0 < length t.cells → valid t ≡ true → Kept t
kept t h e =
    let n = length t.cells in
    let b = length t.entries in
    let p = and_parts (leb n most_nodes) (inside t && sound_state n (presented t)) (sym (valid_is t h) ∙ e) in
    let q = and_parts (inside t) (sound_state n (presented t)) p.1 in
    let i = and_parts (each (cell_inside n) 0 t.cells) _ q.0 in
    let j = and_parts (each (entry_inside n) 0 t.entries) _ i.1 in
    let k = and_parts (each (λ k. argument_inside n b) 0 t.stack) (argument_inside n b t.hand) j.1 in
    record { few = leb-true _ _ p.0; cells = i.0; entries = j.0; stack = k.0; hand = k.1; sound = state_true n (presented t) q.1 }

pub kept_valid : (t : Tables) → 0 < length t.cells → Kept t → valid t ≡ true
kept_valid t h k =
    valid_is t h
    ∙ and_from _ _ (le-leb _ _ k.few)
    (and_from _ _ (and_from _ _ k.cells (and_from _ _ k.entries (and_from _ _ k.stack k.hand))) (state_test _ (presented t) k.sound))

-- what lies inside, as numbers

pub record Inside (n b : ℕ) (a : Argument) : Type 0 where
  pub node : a.node < n
  pub chain : height a.chain ≤ b

pub argument_is : (n b : ℕ) (a : Argument) → argument_inside n b a ≡ true → Inside n b a
argument_is n b a e = grind (arith, nat_tests)

pub argument_test : (n b : ℕ) (a : Argument) → Inside n b a → argument_inside n b a ≡ true
argument_test n b a h = and_from _ _ (lt-ltb _ _ h.node) (le-leb _ _ h.chain)

pub argument_more : (n b c : ℕ) (a : Argument) → b ≤ c → argument_inside n b a ≡ true → argument_inside n c a ≡ true
argument_more n b c a le e = grind (arith, nat_tests, argument_is, argument_test)

pub onward : (t : Tables) → Kept t → Onward t.cells
onward t k i h = each_here (cell_inside (length t.cells)) t.cells i blank_cell k.cells h

-- the parts of a cell lie inside
pub sides_inside : (t : Tables) → Kept t → (i r : ℕ) → i < length t.cells → get_or t.cells i blank_cell ≡ cell.Application r → (suc i < length t.cells) × (r < length t.cells)
sides_inside t k i r h is =
    let n = length t.cells in
    let p = and_parts (ltb i r) (ltb r n) (subst (λ x. cell_inside n i x ≡ true) is (onward t k i h)) in
    let after = ltb-true i r p.0 in
    let right = ltb-true r n p.1 in
    (omega arith, right)

pub body_inside : (t : Tables) → Kept t → (i : ℕ) → i < length t.cells → get_or t.cells i blank_cell ≡ cell.Function → suc i < length t.cells
body_inside t k i h is = ltb-true _ _ (subst (λ x. cell_inside (length t.cells) i x ≡ true) is (onward t k i h))

pub entry_is : (t : Tables) → Kept t → (e : ℕ) → e < length t.entries → Inside (length t.cells) e (get_or t.entries e blank_entry).argument × (height (get_or t.entries e blank_entry).next ≤ e)
entry_is t k e h = grind (arith, nat_tests, each_here, argument_is)

pub falling : (t : Tables) → Kept t → (b : ℕ) → b ≤ length t.entries → Falling t.entries b
falling t k b le j h = (entry_is t k j (omega arith)).1

-- further entries change no chain, and so no closure, of those before
pub chain_more : (t : Tables) → Kept t → (more : List Entry) (c : Option ℕ) → height c ≤ length t.entries → (m : ℕ) → height c ≤ m → chain_of m (t.entries ++ more) c ≡ chain_in t.entries c
chain_more t k more c le m hm =
    sym (chain_agree (height c) m t.entries (t.entries ++ more) c (omega arith) hm (falling t k (height c) le) (λ j h. sym (get_or-append t.entries more blank_entry j (omega arith))))

pub closure_more : (t : Tables) → Kept t → (more : List Entry) (a : Argument) → argument_inside (length t.cells) (length t.entries) a ≡ true → closure_of t.cells (t.entries ++ more) a ≡ closure_of t.cells t.entries a
closure_more t k more a e = grind (arith, nat_tests, argument_is, chain_more)
