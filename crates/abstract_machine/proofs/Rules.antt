-- With tables of limited length, the abstract machine obeys the rules of a machine. Assumes nothing.
use Rattle.std.proofs.Common.{◌≡◌, ℕ, suc, ◌-◌, ◌<◌, ◌≤◌, true, false, cond, ltb, leb, List, [], ◌∷◌, length, Some, None, Ok, Err, Option, refl, ap, subst, arith}
use Rattle.std.proofs.lemmas.Bool.{ltb-true, leb-true}
use Rattle.term.specs.Terms.{Term, Closed, size}
use Rattle.code.specs.Verdicts.{Bytes, Verdict, verdict, accepted, refused, told}
use Rattle.code.proofs.Lawful.{reading_law}
use Rattle.code.proofs.Lists.{size_some}
use Rattle.machine.specs.declared.faults.MachineFault.TheVariants.{TooLarge}
use Rattle.machine.specs.declared.transitions.Transition.{Transition}
use Rattle.machine.specs.declared.transitions.Transition.TheVariants.{Beta, Substitution, Search}
use Rattle.machine.specs.declared.outcomes.Table.TheVariants.{Stack, Entries, Nodes}
use Rattle.machine.specs.declared.outcomes.Outcome.TheVariants.{Made, Full}
use Rattle.machine.specs.Meanings.{Places, Due, transition, done, Standing, SoundStanding, Sound, Within, most_places}
use Rattle.machine.specs.Rules.{sized, start_of, Stands, StartEffect, AfterStart, emptied, outcome_of, outcome_due, Moved, StepEffect, AfterStep}
use Rattle.abstract_machine.specs.Pieces.{Piece, place, ingredient, function, application, filled}
use Rattle.abstract_machine.specs.States.{State, initial, due_of, due_at, next, unfolded}
use Rattle.abstract_machine.specs.Soundness.{SoundState}
use Rattle.abstract_machine.specs.Configurations.{Loaded, Configuration, free_of, standing_of, standing_in, explained, vacated, holding, after_start, started, used_by, advanced, after_step, stepped, SoundLoaded, SoundConfiguration, Affordable}
use Rattle.abstract_machine.specs.Law.{Effect, Weighs, Reaches, ObeysRules}
use Rattle.abstract_machine.proofs.Plugging as pieces
use Rattle.abstract_machine.proofs.Transitions as states

abbrev tables : Places → Places → Option Loaded → Configuration
tables c u o = record { capacity = c; used = u; loaded = o }

-- the law of the transition that is due, as a fact of its kind

effect_of : (n : ℕ) (s : State) (d : Due) → SoundState n s → due_of s ≡ d → Effect d (unfolded s) (unfolded (next s))
effect_of n s d h e = subst (λ x. Effect x (unfolded s) (unfolded (next s))) e (states.state_law n s h).effect

weighs_of : (n : ℕ) (s : State) (d : Due) → SoundState n s → due_of s ≡ d → Weighs d n s.hand (next s).hand
weighs_of n s d h e = subst (λ x. Weighs x n s.hand (next s).hand) e (states.state_law n s h).weighs

reaches_of : (n : ℕ) (s : State) (d : Due) → SoundState n s → due_of s ≡ d → Reaches d (length (next s).entries) s.hand (next s).hand
reaches_of n s d h e = subst (λ x. Reaches x (length (next s).entries) s.hand (next s).hand) e (states.state_law n s h).reaches

-- how many arguments wait and how many entries there are, after the transition due
abbrev Counted : Due → State → State → Type 0
Counted (transition Beta) s t = (length t.entries ≡ suc (length s.entries)) × (length s.stack ≡ suc (length t.stack))
Counted (transition Substitution) s t = (length t.entries ≡ length s.entries) × (length t.stack ≡ length s.stack)
Counted (transition Search) s t = (length t.entries ≡ length s.entries) × (length t.stack ≡ suc (length s.stack))
Counted done s t = t ≡ s

counted_at : (p : Piece) (us es : List Piece) → let s : State = record { hand = p; stack = us; entries = es } in Counted (due_at p us) s (next s)
counted_at (place k) us es = refl
counted_at (ingredient i) us es = refl
counted_at (function p) [] es = refl
counted_at (function p) (u ∷ us) es = (refl, refl)
counted_at (application p q) us es = (refl, refl)
counted_at (filled j) us es = (refl, refl)

counted : (s : State) (d : Due) → due_of s ≡ d → Counted d s (next s)
counted s d e = subst (λ x. Counted x s (next s)) e (counted_at s.hand s.stack s.entries)

-- sound

standing_sound : (price : State → ℕ) → Affordable price → (u : Places) (l : Loaded) → SoundLoaded u l → SoundStanding (standing_of price l)
standing_sound price afford u l h =
    let s = l.state in
    let n = l.size in
    let law = states.state_law n s h.state in
    record {
      closed = law.closed;
      loaded_some = h.some;
      weighs_some = pieces.weight_some s.hand;
      price_limit = afford n s h.state;
      done_normal = law.done_normal;
      beta_steps = λ e. (unfolded (next s), effect_of n s (transition Beta) h.state e);
      beta_weighs = λ e. omega (arith, weighs_of n s (transition Beta) h.state e, pieces.weight_some (next s).hand);
      search_weighs = λ e. omega (arith, weighs_of n s (transition Search) h.state e, pieces.weight_some (next s).hand);
      substitution_reaches = λ e. omega (arith, reaches_of n s (transition Substitution) h.state e);
    }

standing_in_sound :
    (price : State → ℕ) → Affordable price → (u : Places) (o : Option Loaded) →
    ((l : Loaded) → o ≡ Some l → SoundLoaded u l) →
    (s : Standing) → standing_in price o ≡ Some s → SoundStanding s
standing_in_sound price afford u None h s e = cc
standing_in_sound price afford u (Some l) h s e =
    let same : standing_of price l ≡ s = cc in
    subst SoundStanding same (standing_sound price afford u l (h l refl))

pub sound : (price : State → ℕ) → Affordable price → (x : Configuration) → SoundConfiguration x → Sound (explained price x)
sound price afford x h = record {
  limited = h.limited;
  within = omega arith;
  standing = standing_in_sound price afford x.used x.loaded h.loaded;
}

-- start and empty

none_used : (c : Places) → free_of (tables c (record { stack = 0; entries = 0; nodes = 0 }) None) ≡ c
none_used c =
    let a : c.stack - 0 ≡ c.stack = omega arith in
    let b : c.entries - 0 ≡ c.entries = omega arith in
    let d : c.nodes - 0 ≡ c.nodes = omega arith in
    let parts : free_of (tables c (record { stack = 0; entries = 0; nodes = 0 }) None) ≡ record { stack = c.stack; entries = c.entries; nodes = c.nodes } = cc in
    parts

stands : (price : State → ℕ) (t : Term) (c u : Places) → Stands t (explained price (tables c u None)) (explained price (holding t (tables c u None)))
stands price t c u =
    let a : c.stack - 0 ≡ c.stack = omega arith in
    let b : c.entries - 0 ≡ c.entries = omega arith in
    record {
      to = standing_of price (record { size = size t; state = initial t });
      stands = refl;
      capacity = refl;
      free = cc;
      term = pieces.plugged_unfilled [] t;
      loaded = refl;
      betas = refl;
      weight = pieces.weight_unfilled t;
      reach = pieces.reach_unfilled t;
    }

start_of_none :
    (price : State → ℕ) (bs : List ℕ) (c u : Places) (v : Verdict) → verdict bs ≡ v →
    StartEffect bs (explained price (tables c u None)) (sized c.nodes (told v)) (explained price (after_start (sized c.nodes (told v)) v (tables c u None)))
start_of_none price bs c u (refused f) e = refl
start_of_none price bs c u (accepted t) e =
    let m = explained price (tables c u None) in
    elim (leb (size t) c.nodes) as (λ b. StartEffect bs m (cond b (Ok (size t)) (Err TooLarge)) (explained price (after_start (cond b (Ok (size t)) (Err TooLarge)) (accepted t) (tables c u None)))) [
      | true ↦ λ t' e'.
          let same : t ≡ t' = cc in
          subst (λ w. Stands w m (explained price (holding t (tables c u None)))) same (stands price t c u)
      | false ↦ refl
    ]

start_effect :
    (price : State → ℕ) (bs : List ℕ) (c u : Places) (o : Option Loaded) →
    StartEffect bs (explained price (tables c u o)) (start_of bs (explained price (tables c u o))) (explained price (started price bs (tables c u o)))
start_effect price bs c u (Some l) = refl
start_effect price bs c u None = start_of_none price bs c u (verdict bs) refl

pub start :
    (price : State → ℕ) (bs : List ℕ) (x : Configuration) →
    AfterStart bs (explained price x) (start_of bs (explained price x)) (explained price (started price bs x))
start price bs x = record { answer = refl; effect = start_effect price bs x.capacity x.used x.loaded }

pub empty : (price : State → ℕ) (x : Configuration) → explained price (vacated x) ≡ emptied (explained price x)
empty price x = ap (λ f. record { capacity = x.capacity; free = f; standing = None }) (none_used x.capacity)

-- step

searched : (price : State → ℕ) (c u : Places) (l : Loaded) → SoundLoaded u l → due_of l.state ≡ transition Search → 0 < c.stack - u.stack → Moved Search (explained price (tables c u (Some l))) (explained price (advanced price Search (tables c u (Some l)) l))
searched price c u l h e lt =
    let s = l.state in
    let k = counted s (transition Search) e in
    record {
      from = standing_of price l;
      to = standing_of price (record { size = l.size; state = next s });
      stood = refl;
      stands = refl;
      capacity = refl;
      loaded = refl;
      rule = record {
        term = effect_of l.size s (transition Search) h.state e;
        betas = k.0;
        weight = weighs_of l.size s (transition Search) h.state e;
        reach = reaches_of l.size s (transition Search) h.state e;
        stack = omega arith;
        entries = refl;
        nodes = refl;
      };
    }

substituted : (price : State → ℕ) (c u : Places) (l : Loaded) → SoundLoaded u l → due_of l.state ≡ transition Substitution → price l.state ≤ c.nodes - u.nodes → Moved Substitution (explained price (tables c u (Some l))) (explained price (advanced price Substitution (tables c u (Some l)) l))
substituted price c u l h e le =
    let s = l.state in
    let k = counted s (transition Substitution) e in
    record {
      from = standing_of price l;
      to = standing_of price (record { size = l.size; state = next s });
      stood = refl;
      stands = refl;
      capacity = refl;
      loaded = refl;
      rule = record {
        term = effect_of l.size s (transition Substitution) h.state e;
        betas = k.0;
        weight = weighs_of l.size s (transition Substitution) h.state e;
        reach = reaches_of l.size s (transition Substitution) h.state e;
        stack = refl;
        entries = refl;
        nodes = omega arith;
      };
    }

bound : (price : State → ℕ) (c u : Places) (l : Loaded) → Within u c → SoundLoaded u l → due_of l.state ≡ transition Beta → 0 < c.entries - u.entries → Moved Beta (explained price (tables c u (Some l))) (explained price (advanced price Beta (tables c u (Some l)) l))
bound price c u l w h e lt =
    let s = l.state in
    let k = counted s (transition Beta) e in
    record {
      from = standing_of price l;
      to = standing_of price (record { size = l.size; state = next s });
      stood = refl;
      stands = refl;
      capacity = refl;
      loaded = refl;
      rule = record {
        term = effect_of l.size s (transition Beta) h.state e;
        betas = k.0;
        weight = weighs_of l.size s (transition Beta) h.state e;
        reach = reaches_of l.size s (transition Beta) h.state e;
        stack = omega (arith, k.1, h.stack, w.stack);
        entries = omega arith;
        nodes = refl;
      };
    }

step_due :
    (price : State → ℕ) (c u : Places) (l : Loaded) (d : Due) → Within u c → SoundLoaded u l → due_of l.state ≡ d →
    let x = tables c u (Some l) in let o = outcome_of (free_of x) (price l.state) d in
    StepEffect (explained price x) (Ok o) (explained price (after_step price (Ok o) x))
step_due price c u l done w h e = refl
step_due price c u l (transition Search) w h e =
    let x = tables c u (Some l) in
    elim (ltb 0 (c.stack - u.stack)) as (λ b. ltb 0 (c.stack - u.stack) ≡ b → StepEffect (explained price x) (Ok (cond b (Made Search) (Full Stack))) (explained price (after_step price (Ok (cond b (Made Search) (Full Stack))) x))) [
      | true ↦ λ t. searched price c u l h e (ltb-true _ _ t)
      | false ↦ λ f. refl
    ] refl
step_due price c u l (transition Substitution) w h e =
    let x = tables c u (Some l) in
    elim (leb (price l.state) (c.nodes - u.nodes)) as (λ b. leb (price l.state) (c.nodes - u.nodes) ≡ b → StepEffect (explained price x) (Ok (cond b (Made Substitution) (Full Nodes))) (explained price (after_step price (Ok (cond b (Made Substitution) (Full Nodes))) x))) [
      | true ↦ λ t. substituted price c u l h e (leb-true _ _ t)
      | false ↦ λ f. refl
    ] refl
step_due price c u l (transition Beta) w h e =
    let x = tables c u (Some l) in
    elim (ltb 0 (c.entries - u.entries)) as (λ b. ltb 0 (c.entries - u.entries) ≡ b → StepEffect (explained price x) (Ok (cond b (Made Beta) (Full Entries))) (explained price (after_step price (Ok (cond b (Made Beta) (Full Entries))) x))) [
      | true ↦ λ t. bound price c u l w h e (ltb-true _ _ t)
      | false ↦ λ f. refl
    ] refl

step_effect :
    (price : State → ℕ) (c u : Places) (o : Option Loaded) → Within u c → ((l : Loaded) → o ≡ Some l → SoundLoaded u l) →
    StepEffect (explained price (tables c u o)) (outcome_due (explained price (tables c u o))) (explained price (stepped price (tables c u o)))
step_effect price c u None w h = refl
step_effect price c u (Some l) w h = step_due price c u l (due_of l.state) w (h l refl) refl

pub step :
    (price : State → ℕ) (x : Configuration) → SoundConfiguration x →
    AfterStep (explained price x) (outcome_due (explained price x)) (explained price (stepped price x))
step price x h = record { answer = refl; effect = step_effect price x.capacity x.used x.loaded h.within h.loaded }

-- what is kept

holding_sound : (t : Term) (c u : Places) (o : Option Loaded) → Closed t → Within c most_places → size t ≤ c.nodes → SoundConfiguration (holding t (tables c u o))
holding_sound t c u o closed limited le = record {
  limited = limited;
  within = omega arith;
  loaded = λ l e.
      let same : record { size = size t; state = initial t } ≡ l = cc in
      subst (SoundLoaded (record { stack = 0; entries = 0; nodes = size t })) same
      (record { some = size_some t; state = states.initial_sound t closed; stack = refl; entries = refl });
}

start_none_sound :
    (bs : List ℕ) (c u : Places) (v : Verdict) → verdict bs ≡ v → Bytes bs → SoundConfiguration (tables c u None) →
    SoundConfiguration (after_start (sized c.nodes (told v)) v (tables c u None))
start_none_sound bs c u (refused f) e b h = h
start_none_sound bs c u (accepted t) e b h =
    elim (leb (size t) c.nodes) as (λ x. leb (size t) c.nodes ≡ x → SoundConfiguration (after_start (cond x (Ok (size t)) (Err TooLarge)) (accepted t) (tables c u None))) [
      | true ↦ λ y. holding_sound t c u None (((reading_law bs b).accepts_exactly t).0 e).1.closed h.limited (leb-true _ _ y)
      | false ↦ λ y. h
    ] refl

start_sound_at : (price : State → ℕ) (bs : List ℕ) (c u : Places) (o : Option Loaded) → Bytes bs → SoundConfiguration (tables c u o) → SoundConfiguration (started price bs (tables c u o))
start_sound_at price bs c u (Some l) b h = h
start_sound_at price bs c u None b h = start_none_sound bs c u (verdict bs) refl b h

pub start_sound : (price : State → ℕ) (bs : List ℕ) (x : Configuration) → Bytes bs → SoundConfiguration x → SoundConfiguration (started price bs x)
start_sound price bs x b h = start_sound_at price bs x.capacity x.used x.loaded b h

-- the places in use and the state, after a transition that was due
advanced_sound :
    (price : State → ℕ) (k : Transition) (c u : Places) (l : Loaded) → Within c most_places → Within (used_by k (price l.state) u) c → SoundLoaded u l →
    due_of l.state ≡ transition k →
    SoundConfiguration (advanced price k (tables c u (Some l)) l)
advanced_sound price k c u l limited within h e = record {
  limited = limited;
  within = within;
  loaded = λ m same.
      let is : record { size = l.size; state = next l.state } ≡ m = cc in
      subst (SoundLoaded (used_by k (price l.state) u)) is (loaded_next price k u l h e);
}
  where
    loaded_next : (price : State → ℕ) (k : Transition) (u : Places) (l : Loaded) → SoundLoaded u l → due_of l.state ≡ transition k → SoundLoaded (used_by k (price l.state) u) (record { size = l.size; state = next l.state })
    loaded_next price Beta u l h e =
        let n = counted l.state (transition Beta) e in
        record { some = h.some; state = (states.state_law l.size l.state h.state).sound; stack = omega (arith, n.1, h.stack); entries = omega (arith, n.0, h.entries) }
    loaded_next price Substitution u l h e =
        let n = counted l.state (transition Substitution) e in
        record { some = h.some; state = (states.state_law l.size l.state h.state).sound; stack = omega (arith, n.1, h.stack); entries = omega (arith, n.0, h.entries) }
    loaded_next price Search u l h e =
        let n = counted l.state (transition Search) e in
        record { some = h.some; state = (states.state_law l.size l.state h.state).sound; stack = omega (arith, n.1, h.stack); entries = omega (arith, n.0, h.entries) }

step_due_sound :
    (price : State → ℕ) (c u : Places) (l : Loaded) (d : Due) → SoundConfiguration (tables c u (Some l)) → due_of l.state ≡ d →
    let x = tables c u (Some l) in
    SoundConfiguration (after_step price (Ok (outcome_of (free_of x) (price l.state) d)) x)
step_due_sound price c u l done h e = h
step_due_sound price c u l (transition Search) h e =
    elim (ltb 0 (c.stack - u.stack)) as (λ b. ltb 0 (c.stack - u.stack) ≡ b → SoundConfiguration (after_step price (Ok (cond b (Made Search) (Full Stack))) (tables c u (Some l)))) [
      | true ↦ λ t. advanced_sound price Search c u l h.limited (omega (arith, ltb-true _ _ t, h.within)) (h.loaded l refl) e
      | false ↦ λ f. h
    ] refl
step_due_sound price c u l (transition Substitution) h e =
    elim (leb (price l.state) (c.nodes - u.nodes)) as (λ b. leb (price l.state) (c.nodes - u.nodes) ≡ b → SoundConfiguration (after_step price (Ok (cond b (Made Substitution) (Full Nodes))) (tables c u (Some l)))) [
      | true ↦ λ t. advanced_sound price Substitution c u l h.limited (omega (arith, leb-true _ _ t, h.within)) (h.loaded l refl) e
      | false ↦ λ f. h
    ] refl
step_due_sound price c u l (transition Beta) h e =
    elim (ltb 0 (c.entries - u.entries)) as (λ b. ltb 0 (c.entries - u.entries) ≡ b → SoundConfiguration (after_step price (Ok (cond b (Made Beta) (Full Entries))) (tables c u (Some l)))) [
      | true ↦ λ t. advanced_sound price Beta c u l h.limited (omega (arith, ltb-true _ _ t, h.within)) (h.loaded l refl) e
      | false ↦ λ f. h
    ] refl

step_sound_at : (price : State → ℕ) (c u : Places) (o : Option Loaded) → SoundConfiguration (tables c u o) → SoundConfiguration (stepped price (tables c u o))
step_sound_at price c u None h = h
step_sound_at price c u (Some l) h = step_due_sound price c u l (due_of l.state) h refl

pub step_sound : (price : State → ℕ) (x : Configuration) → SoundConfiguration x → SoundConfiguration (stepped price x)
step_sound price x h = step_sound_at price x.capacity x.used x.loaded h

pub obeys_rules : ObeysRules
obeys_rules = record { sound = sound; start = start; empty = empty; step = step; start_sound = start_sound; step_sound = step_sound }
