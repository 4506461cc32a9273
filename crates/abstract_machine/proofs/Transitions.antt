-- The law of the abstract machine's states. Assumes nothing.
use Rattle.std.proofs.Common.{◌≡◌, ℕ, suc, List, [], ◌∷◌, map, length, sym, refl, ap, ◌∙◌, subst, arith}
use Rattle.term.specs.Terms as term
use Rattle.term.specs.Terms.{Term, Closed, fill, size}
use Rattle.term.specs.Reduction.{Step, beta, left, Neutral, bare, applied, Normal, abstraction, neutral}
use Rattle.machine.specs.Meanings.{done}
use Rattle.abstract_machine.specs.Pieces.{Piece, place, ingredient, function, application, filled, opened, plugged}
use Rattle.abstract_machine.specs.States.{State, initial, due_at, entry_of, next, values, applied_to, unfolded}
use Rattle.abstract_machine.specs.Soundness.{SoundStack, SoundState}
use Rattle.abstract_machine.specs.Law.{Effect, Weighs, Reaches, StateLaw, MachineLaw}
use Rattle.abstract_machine.proofs.Plugging as pieces
use Rattle.abstract_machine.proofs.Plugging.{AllClosed}
use Rattle.abstract_machine.proofs.Sound as sound

-- a term with arguments behind it

applied_steps : (us : List Term) (t t' : Term) → Step t t' → Step (applied_to t us) (applied_to t' us)
applied_steps [] t t' s = s
applied_steps (u ∷ us) t t' s = applied_steps us (term.application t u) (term.application t' u) (left s)

applied_neutral : (us : List Term) (t : Term) → Neutral t → Neutral (applied_to t us)
applied_neutral [] t n = n
applied_neutral (u ∷ us) t n = applied_neutral us (term.application t u) (applied n)

applied_closed : (us : List Term) (t : Term) → Closed t → AllClosed us → Closed (applied_to t us)
applied_closed [] t c cs = c
applied_closed (u ∷ us) t c cs = applied_closed us (term.application t u) (c, cs.0) cs.1

stack_closed : (n b : ℕ) (ts : List Term) (us : List Piece) → AllClosed ts → SoundStack n b us → AllClosed (map (plugged ts) us)
stack_closed n b ts [] c h = tt
stack_closed n b ts (u ∷ us) c h = (pieces.plugged_covered 0 ts u c h.0.closed, stack_closed n b ts us c h.1)

stack_weaker : (n : ℕ) (v : Term) (ts : List Term) (us : List Piece) → SoundStack n (length ts) us → map (plugged (v ∷ ts)) us ≡ map (plugged ts) us
stack_weaker n v ts [] h = refl
stack_weaker n v ts (u ∷ us) h =
    let one = pieces.plugged_weaker v ts u h.0.earlier in
    let others = stack_weaker n v ts us h.1 in
    cc

pub closed : (n : ℕ) (s : State) → SoundState n s → Closed (unfolded s)
closed n s h =
    let ts = values s.entries in
    let c = sound.values_closed n s.entries h.entries in
    applied_closed (map (plugged ts) s.stack) (plugged ts s.hand)
    (pieces.plugged_covered 0 ts s.hand c h.hand.closed)
    (stack_closed n (length s.entries) ts s.stack c h.stack)

-- a sound state, by its parts
abbrev state : Piece → List Piece → List Piece → State
state p us es = record { hand = p; stack = us; entries = es }

-- β: filling the body's places is what plugging the opened body does
beta_steps : (n : ℕ) (p u : Piece) (us es : List Piece) → SoundState n (state (function p) (u ∷ us) es) → Step (unfolded (state (function p) (u ∷ us) es)) (unfolded (next (state (function p) (u ∷ us) es)))
beta_steps n p u us es h =
    let ts = values es in
    let v = plugged ts u in
    let same = sound.length_values es in
    let c = sound.values_closed n es h.entries in
    let body : plugged (v ∷ ts) (opened 0 (length es) p) ≡ fill 0 v (plugged ts p)
    = ap (λ m. plugged (v ∷ ts) (opened 0 m p)) (sym same) ∙ pieces.plugged_opened 0 v ts p c (omega (arith, h.hand.earlier)) in
    let others : map (plugged (v ∷ ts)) us ≡ map (plugged ts) us
    = stack_weaker n v ts us (subst (λ b. SoundStack n b us) (sym same) h.stack.1) in
    let goal : unfolded (next (state (function p) (u ∷ us) es)) ≡ applied_to (fill 0 v (plugged ts p)) (map (plugged ts) us)
    = ap (λ x. applied_to x (map (plugged (v ∷ ts)) us)) body ∙ ap (applied_to (fill 0 v (plugged ts p))) others in
    subst (Step (unfolded (state (function p) (u ∷ us) es))) (sym goal)
    (applied_steps (map (plugged ts) us) (term.application (term.function (plugged ts p)) v) (fill 0 v (plugged ts p)) beta)

-- substitution: a filled place stands for what its entry does
substitution_keeps : (n j : ℕ) (us es : List Piece) → SoundState n (state (filled j) us es) → unfolded (next (state (filled j) us es)) ≡ unfolded (state (filled j) us es)
substitution_keeps n j us es h =
    ap (λ t. applied_to t (map (plugged (values es)) us)) (sym (sound.value_of n es j h.entries h.hand.earlier))

pub effect : (n : ℕ) (p : Piece) (us es : List Piece) → SoundState n (state p us es) → Effect (due_at p us) (unfolded (state p us es)) (unfolded (next (state p us es)))
effect n (place k) us es h = refl
effect n (ingredient i) us es h = refl
effect n (function p) [] es h = refl
effect n (function p) (u ∷ us) es h = beta_steps n p u us es h
effect n (application p q) us es h = refl
effect n (filled j) us es h = substitution_keeps n j us es h

normal : (n : ℕ) (p : Piece) (us es : List Piece) → SoundState n (state p us es) → due_at p us ≡ done → Normal (unfolded (state p us es))
normal n (place k) us es h e = absurd (omega (arith, h.hand.closed))
normal n (ingredient i) us es h e = neutral (applied_neutral (map (plugged (values es)) us) (term.ingredient i) bare)
normal n (function p) [] es h e = abstraction
normal n (function p) (u ∷ us) es h e = cc
normal n (application p q) us es h e = cc
normal n (filled j) us es h e = cc

weighs : (n : ℕ) (p : Piece) (us es : List Piece) → SoundState n (state p us es) → Weighs (due_at p us) n p (next (state p us es)).hand
weighs n (place k) us es h = refl
weighs n (ingredient i) us es h = refl
weighs n (function p) [] es h = refl
weighs n (function p) (u ∷ us) es h = omega (arith, pieces.weight_opened 0 (length es) p)
weighs n (application p q) us es h = omega arith
weighs n (filled j) us es h = (sound.entry_sound n es j h.entries h.hand.earlier).small

reaches : (n : ℕ) (p : Piece) (us es : List Piece) → SoundState n (state p us es) → Reaches (due_at p us) (length (next (state p us es)).entries) p (next (state p us es)).hand
reaches n (place k) us es h = refl
reaches n (ingredient i) us es h = refl
reaches n (function p) [] es h = refl
reaches n (function p) (u ∷ us) es h = omega (arith, pieces.reach_opened 0 (length es) p, h.hand.earlier)
reaches n (application p q) us es h = omega arith
reaches n (filled j) us es h = omega (arith, (sound.entry_sound n es j h.entries h.hand.earlier).earlier)

pub keeps : (n : ℕ) (p : Piece) (us es : List Piece) → SoundState n (state p us es) → SoundState n (next (state p us es))
keeps n (place k) us es h = h
keeps n (ingredient i) us es h = h
keeps n (function p) [] es h = h
keeps n (function p) (u ∷ us) es h = record {
  hand = record {
    closed = pieces.outer_opened 0 (length es) p (omega (arith, h.hand.closed));
    earlier = omega (arith, pieces.reach_opened 0 (length es) p, h.hand.earlier);
    small = omega (arith, pieces.weight_opened 0 (length es) p, h.hand.small);
  };
  stack = sound.stack_more n (length es) (suc (length es)) us (omega arith) h.stack.1;
  entries = (h.stack.0, h.entries);
}
keeps n (application p q) us es h = record {
  hand = record { closed = omega (arith, h.hand.closed); earlier = omega (arith, h.hand.earlier); small = omega (arith, h.hand.small) };
  stack = (record { closed = omega (arith, h.hand.closed); earlier = omega (arith, h.hand.earlier); small = omega (arith, h.hand.small) }, h.stack);
  entries = h.entries;
}
keeps n (filled j) us es h = record {
  hand = sound.piece_more n j (length es) (entry_of es j) (omega (arith, h.hand.earlier)) (sound.entry_sound n es j h.entries h.hand.earlier);
  stack = h.stack;
  entries = h.entries;
}

pub initial_sound : (t : Term) → Closed t → SoundState (size t) (initial t)
initial_sound t c = record {
  hand = record {
    closed = pieces.outer_unfilled 0 t c;
    earlier = omega (arith, pieces.reach_unfilled t);
    small = omega (arith, pieces.weight_unfilled t);
  };
  stack = tt;
  entries = tt;
}

pub state_law : (n : ℕ) (s : State) → SoundState n s → StateLaw n s
state_law n s h = record {
  effect = effect n s.hand s.stack s.entries h;
  closed = closed n s h;
  done_normal = normal n s.hand s.stack s.entries h;
  weighs = weighs n s.hand s.stack s.entries h;
  reaches = reaches n s.hand s.stack s.entries h;
  sound = keeps n s.hand s.stack s.entries h;
}

pub machine_law : MachineLaw
machine_law = record { initial = λ t c. (initial_sound t c, pieces.plugged_unfilled [] t); states = state_law }
