-- What the loop of the writer keeps. Assumes nothing.
use Rattle.std.proofs.Common.{◌≡◌, ℕ, ◌+◌, ◌*◌, ◌<◌, ◌≤◌, List, [], ◌∷◌, ◌++◌, length, drop, Some, None, Option, sym, refl, ap, ◌∙◌, subst, arith, length-append}
use Rattle.std.proofs.lemmas.List.{append_assoc, length-drop, drop-drop}
use Rattle.std.proofs.lemmas.Bool.{lt-leb, cond-false}
use Rattle.std.specs.List.{slice_get}
use Rattle.std.specs.Option.{option_map}
use Rattle.term.specs.Terms.{Term, function, application, code}
use Rattle.machine.specs.Writing.{put_code, wiped}
use Rattle.writer.specs.declared.heads.Head.{Head}
use Rattle.writer.specs.declared.heads.Head.TheVariants.{Application, Function, Place, Ingredient}
use Rattle.writer.specs.declared.sheet.Sheet.{Sheet}
use Rattle.writer.specs.declared.pending.Pending.{Pending}
use Rattle.writer.specs.Heads.{both, own, Looks}
use Rattle.writer.specs.Pending.{Waiting, waiting, Ahead, ahead, popped}
use Rattle.writer.specs.Sheets.{text, blank, Put}
use Rattle.writer.specs.Walks.{advanced}

-- the positions of the parts of a head, before others
abbrev pub parts : Head → List ℕ → List ℕ
parts (Application l r) ps = l ∷ r ∷ ps
parts (Function b) ps = b ∷ ps
parts (Place k) ps = ps
parts (Ingredient i) ps = ps

-- the positions of what is still to be written; where there is no next one, none waits
abbrev pub to_come : Option ℕ → List ℕ → List ℕ
to_come None ps = []
to_come (Some p) ps = p ∷ ps

-- an advance

popped_coming : (ps : List ℕ) → to_come (slice_get ps 0) (drop 1 ps) ≡ ps
popped_coming [] = refl
popped_coming (p ∷ ps) = refl

advanced_coming : (h : Head) (w : Waiting) → to_come (advanced h w).next (advanced h w).waiting.positions ≡ parts h w.positions
advanced_coming (Application l r) w = refl
advanced_coming (Function b) w = refl
advanced_coming (Place k) w = popped_coming w.positions
advanced_coming (Ingredient i) w = popped_coming w.positions

-- no more than one more waits, and there are as many places
advanced_room : (h : Head) (w : Waiting) → (length (advanced h w).waiting.positions ≤ length w.positions + 1) × ((advanced h w).waiting.places ≡ w.places)
advanced_room (Application l r) w = (omega arith, refl)
advanced_room (Function b) w = (omega arith, refl)
advanced_room (Place k) w = (omega (arith, length-drop 1 w.positions), refl)
advanced_room (Ingredient i) w = (omega (arith, length-drop 1 w.positions), refl)

-- codes of terms that may be missing

abbrev after : List ℕ → Option (List ℕ) → Option (List ℕ)
after bs = option_map (λ z. bs ++ z)

sides_code : (t u : Option Term) (cs : Option (List ℕ)) → both ◌++◌ (option_map code (both application t u)) cs ≡ after (1 ∷ []) (both ◌++◌ (option_map code t) (both ◌++◌ (option_map code u) cs))
sides_code None u cs = refl
sides_code (Some t) None cs = refl
sides_code (Some t) (Some u) None = refl
sides_code (Some t) (Some u) (Some z) = ap (λ x. Some (1 ∷ x)) (append_assoc (code t) (code u) z)

body_code : (t : Option Term) (cs : Option (List ℕ)) → both ◌++◌ (option_map code (option_map function t)) cs ≡ after (2 ∷ []) (both ◌++◌ (option_map code t) cs)
body_code None cs = refl
body_code (Some t) None = refl
body_code (Some t) (Some z) = refl

leaf_code : (bs : List ℕ) (cs : Option (List ℕ)) → both ◌++◌ (Some bs) cs ≡ after bs cs
leaf_code bs None = refl
leaf_code bs (Some z) = refl

further : (a b : List ℕ) (cs : Option (List ℕ)) → after (a ++ b) cs ≡ after a (after b cs)
further a b None = refl
further a b (Some z) = ap Some (append_assoc a b z)

longer : (b : List ℕ) (cs : Option (List ℕ)) (z : List ℕ) → after b cs ≡ Some z → length b ≤ length z
longer b None z e = cc
longer b (Some y) z e =
    let same : b ++ y ≡ z = cc in
    omega (arith, simp length-append at (ap length same))

module _ (at : ℕ → Option Term) where
  -- the codes of the terms at these positions, one after the other
  abbrev pub codes : List ℕ → Option (List ℕ)
  codes [] = Some []
  codes (p ∷ ps) = both ◌++◌ (option_map code (at p)) (codes ps)

  -- the first of them is the bytes of its head and the codes of its parts
  head_codes : (h : Head) (p : ℕ) (ps : List ℕ) → Looks at p (Some h) → codes (p ∷ ps) ≡ after (own h) (codes (parts h ps))
  head_codes (Application l r) p ps is = rw is (sides_code (at l) (at r) (codes ps))
  head_codes (Function b) p ps is = rw is (body_code (at b) (codes ps))
  head_codes (Place k) p ps is = rw is (leaf_code (own (Place k)) (codes ps))
  head_codes (Ingredient i) p ps is = rw is (leaf_code (own (Ingredient i)) (codes ps))

-- the answer where what is to come does not fit
refused : (t : Option Term) (cs : Option (List ℕ)) (front output : List ℕ) → after front cs ≡ option_map code t → ((z : List ℕ) → cs ≡ Some z → length output < length front + length z) → (scratch : List ℕ) → put_code t output scratch ≡ wiped output scratch
refused None cs front output e long scratch = refl
refused (Some t) None front output e long scratch = cc
refused (Some t) (Some z) front output e long scratch =
    let same : front ++ z ≡ code t = cc in
    let past : length output < length (code t) = omega (arith, long z refl, simp length-append at (ap length same)) in
    cond-false _ _ _ (lt-leb (length (code t)) (length output) past)

-- a head has at least one byte of its own
some_byte : (h : Head) → 0 < length (own h)
some_byte (Application l r) = omega arith
some_byte (Function b) = omega arith
some_byte (Place k) = omega arith
some_byte (Ingredient i) = omega arith

-- no more than two parts come in the place of a head
parts_few : (h : Head) (ps : List ℕ) → length (parts h ps) ≤ length ps + 2
parts_few (Application l r) ps = omega arith
parts_few (Function b) ps = omega arith
parts_few (Place k) ps = omega arith
parts_few (Ingredient i) ps = omega arith

-- the latest of those that wait comes next, and there is one position less
pub one_less : (w : Waiting) (next r : Option ℕ) (p : Pending) {q : ℕ} → next ≡ Some q → ahead r p ≡ popped w → length (to_come r (waiting p).positions) < length (to_come next w.positions)
one_less w next r p some is =
    omega (arith, ap (λ a. length (to_come a.next a.waiting.positions)) is, ap length (popped_coming w.positions), ap (λ o. length (to_come o w.positions)) some)

pub less_blank : (s s' : Sheet) (h : Head) → Put (own h) s s' → length (blank s') < length (blank s)
less_blank s s' h put = omega (arith, put.0, some_byte h, ap length put.2, length-drop (length (own h)) (blank s))

-- a head was put, and fewer bytes and positions are to come, where a byte counts for two
pub less_to_come : (s s' : Sheet) (w : Waiting) (next r : Option ℕ) (p : Pending) (h : Head) {q : ℕ} → next ≡ Some q → Put (own h) s s' → ahead r p ≡ advanced h w → length (to_come r (waiting p).positions) + 2 * length (blank s') < length (to_come next w.positions) + 2 * length (blank s)
less_to_come s s' w next r p h some put is =
    omega (arith, less_blank s s' h put, parts_few h w.positions, ap (λ a. length (to_come a.next a.waiting.positions)) is, ap length (advanced_coming h w), ap (λ o. length (to_come o w.positions)) some)

module _ (at : ℕ → Option Term) (root : ℕ) (given : List ℕ) where
  -- the text and what is to come make the code of the whole; behind the text the output is as it was given
  pub record Underway (s : Sheet) (ps : List ℕ) : Type 0 where
    pub size : length (text s) + length (blank s) ≡ length given
    pub back : blank s ≡ drop (length (text s)) given
    pub whole : after (text s) (codes at ps) ≡ option_map code (at root)

  -- bytes are put
  put_on : {s s' : Sheet} {ps : List ℕ} (bs qs : List ℕ) → Underway s ps → codes at ps ≡ after bs (codes at qs) → Put bs s s' → Underway s' qs
  put_on {s} {s'} bs qs u split put =
      let long : length (text s') ≡ length (text s) + length bs = ap length put.1 ∙ length-append (text s) bs in
      record {
        size = omega (arith, put.0, long, u.size, ap length put.2, length-drop (length bs) (blank s));
        back = put.2 ∙ ap (drop (length bs)) u.back ∙ drop-drop (length bs) (length (text s)) given ∙ ap (λ n. drop n given) (sym long);
        whole = ap (λ t. after t (codes at qs)) put.1 ∙ further (text s) bs (codes at qs) ∙ sym (ap (after (text s)) split) ∙ u.whole;
      }

  -- the first of what is to come has a head
  split_at : {next : Option ℕ} (ps : List ℕ) (h : Head) {p : ℕ} → next ≡ Some p → Looks at p (Some h) → codes at (to_come next ps) ≡ after (own h) (codes at (parts h ps))
  split_at ps h {p} some is = ap (λ o. codes at (to_come o ps)) some ∙ head_codes at h p ps is

  -- a head is put, and its parts are what comes next
  pub goes_on : {s s' : Sheet} {next : Option ℕ} (w : Waiting) (a : Ahead) (h : Head) {p : ℕ} → Underway s (to_come next w.positions) → next ≡ Some p → Looks at p (Some h) → Put (own h) s s' → a ≡ advanced h w → length w.positions + length (blank s) ≤ w.places → (length a.waiting.positions + length (blank s') ≤ a.waiting.places) × Underway s' (to_come a.next a.waiting.positions)
  goes_on {s} {s'} w a h u some is put ahead room =
      let v = put_on (own h) (parts h w.positions) u (split_at w.positions h some is) put in
      let coming = ap (λ b. to_come b.next b.waiting.positions) ahead ∙ advanced_coming h w in
      let fits = advanced_room h w in
      (omega (arith, room, less_blank s s' h put, ap (λ b. length b.waiting.positions) ahead, ap (λ b. b.waiting.places) ahead, fits.0, fits.1), subst (Underway s') (sym coming) v)

  -- bytes are not put
  pub stops : {s : Sheet} {next : Option ℕ} (ps : List ℕ) (h : Head) {p : ℕ} → Underway s (to_come next ps) → next ≡ Some p → Looks at p (Some h) → length (blank s) < length (own h) → (scratch : List ℕ) → put_code (at root) given scratch ≡ wiped given scratch
  stops {s = s} ps h u some is put =
      refused (at root) _ _ given u.whole
      (λ z e. omega (arith, put, longer (own h) (codes at (parts h ps)) z (sym (split_at ps h some is) ∙ e), u.size))

-- by which the loop of `walk` ends, and would if it passed over a position
pub ruleset falling = (one_less, less_to_come)
