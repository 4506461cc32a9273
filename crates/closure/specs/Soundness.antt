-- The proof of the law of a machine, for the closure machine. Assumes nothing.
-- It stands here, and not with the other lemmas, since an `impl` can name only what stands in specs/.
use Rattle.std.specs.Prelude.{◌≡◌, ℕ, ◌≤◌, List, length, take}
use Rattle.std.proofs.Common.{sym, subst, length-take-le, zero-le}
use Rattle.std.proofs.Math.Nat.{le_trans}
use Rattle.machine.specs.Meanings.{Sound}
use Rattle.abstract_machine.specs.Configurations.{SoundConfiguration, Affordable}
use Rattle.abstract_machine.proofs.Rules as rules
use Rattle.closure_tables.specs.Presented.{no_price}
use Rattle.closure_tables.proofs.Agree as agree
use Rattle.closure.specs.declared.state.Closure.{Closure}
use Rattle.closure.specs.Views.{tables_of, capacities, places_used, configuration, meaning}

-- k places are in use of a table with n rows, under a capacity of c
pub length_in_use : {A : Type 0} (k c n : ℕ) (rows : List A) → k ≤ c → c ≤ n → n ≡ length rows → length (take k rows) ≡ k
length_in_use k c n rows within fits is = length-take-le k rows (subst (λ j. k ≤ j) is (le_trans within fits))

pub entries_long : (m : Closure) → length (tables_of m).entries ≡ m.levels.entries.used
entries_long m = length_in_use _ _ _ _ m.levels.entries.within m.entries_fit m.entries.ok.0

pub stack_long : (m : Closure) → length (tables_of m).stack ≡ m.levels.stack.used
stack_long m = length_in_use _ _ _ _ m.levels.stack.within m.stack_fit m.stack.ok.0

pub configuration_sound : (m : Closure) → SoundConfiguration (configuration m)
configuration_sound m =
    agree.configured_sound (capacities m) (places_used m) (tables_of m)
    (record { stack = m.levels.stack.limited; entries = m.levels.few; nodes = m.levels.nodes.limited })
    (record { stack = m.levels.stack.within; entries = m.levels.entries.within; nodes = m.levels.nodes.within })
    (sym (stack_long m)) (sym (entries_long m)) m.kept

free_of_charge : Affordable no_price
free_of_charge n s h = zero-le

pub sound : (m : Closure) → Sound (meaning m)
sound m = rules.sound no_price free_of_charge (configuration m) (configuration_sound m)
