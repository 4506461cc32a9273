-- The reading of a code that goes on. Assumes nothing.
use Rattle.std.proofs.Common.{◌≡◌, ℕ, zero, suc, ◌+◌, ◌-◌, Bool, true, false, cond, eqb, ltb, leb, List, [], ◌∷◌, ◌++◌, length, drop, Ok, Err, Result, sym, refl, ap, ◌∙◌, subst, arith, length-append}
use Rattle.std.proofs.lemmas.Bool.Decides.{nat_tests}
use Rattle.std.proofs.lemmas.List.{drop-append-le}
use Rattle.std.proofs.lemmas.Bool.{cond_both}
use Rattle.node.specs.declared.nodes.Node.{Node}
use Rattle.node.specs.declared.nodes.Node.TheVariants.{Application, Function, Place, Ingredient}
use Rattle.node.specs.declared.nodes.Misspelling.{Misspelling}
use Rattle.node.specs.declared.nodes.Misspelling.TheVariants.{Nothing, Unknown, Cut}
use Rattle.node.specs.declared.faults.Fault.{Fault}
use Rattle.node.specs.declared.faults.Fault.TheVariants.{Missing, TooManyNodes, Leftover}
use Rattle.node.specs.Faults.{number_of}
use Rattle.node.specs.Spell.{spelling_of, spell_place, spell_ingredient, width_of}
use Rattle.node.specs.Checks.{fitted, judged}
use Rattle.term.specs.Terms.{most_nodes, most_nested, last_ingredient}
use Rattle.code.specs.Scans.{Slot, Scan, parts_of, finished, next, scan}
use Rattle.code.proofs.Turns.{judged_ok, onward, goes_on, stops, Spells, spells, spelled_width}

-- an end that further bytes do not mend
abbrev pub Firm : {A : Type 0} → Result A Fault → Type 0
Firm (Ok x) = Unit {0}
Firm (Err f) = number_of f ≡ 1 → ⊥

-- a tag with what follows it, by the tests of the tag
by_tag : Bool → Bool → Bool → Bool → Result Node Misspelling → Result Node Misspelling → Result Node Misspelling
by_tag a b c d place ingredient = cond a (Ok Application) (cond b (Ok Function) (cond c place (cond d ingredient (Err Unknown))))

-- the tag is one of a node
abbrev Known : Result Node Misspelling → Type 0
Known (Err Nothing) = ⊥
Known (Err Unknown) = ⊥
Known (Err Cut) = Unit {0}
Known (Ok node) = Unit {0}

known_place : (bs : List ℕ) → Known (spell_place bs)
known_place [] = tt
known_place (k ∷ bs) = tt

known_ingredient : (bs : List ℕ) → Known (spell_ingredient bs)
known_ingredient [] = tt
known_ingredient (h ∷ []) = tt
known_ingredient (h ∷ l ∷ bs) = tt

-- what follows a tag does not change whether the tag is known
still_known : (a b c d : Bool) (p i q j : Result Node Misspelling) → Known q → Known j → Known (by_tag a b c d p i) → Known (by_tag a b c d q j)
unfolding by_tag
still_known true b c d p i q j kq kj k = tt
still_known false true c d p i q j kq kj k = tt
still_known false false true d p i q j kq kj k = kq
still_known false false false true p i q j kq kj k = kj
still_known false false false false p i q j kq kj k = absurd k

still_unknown : (a b c d : Bool) (p i q j : Result Node Misspelling) → Known p → Known i → by_tag a b c d p i ≡ Err Unknown → by_tag a b c d q j ≡ Err Unknown
unfolding by_tag
still_unknown true b c d p i q j kp ki e = absurd (subst Known e tt)
still_unknown false true c d p i q j kp ki e = absurd (subst Known e tt)
still_unknown false false true d p i q j kp ki e = absurd (subst Known e kp)
still_unknown false false false true p i q j kp ki e = absurd (subst Known e ki)
still_unknown false false false false p i q j kp ki e = refl

known_more : (bs more : List ℕ) → Known (spelling_of bs) → Known (spelling_of (bs ++ more))
unfolding by_tag
known_more [] more k = absurd k
known_more (t ∷ bs) more k =
    still_known (eqb t 1) (eqb t 2) (eqb t 3) (eqb t 4) (spell_place bs) (spell_ingredient bs) (spell_place (bs ++ more)) (spell_ingredient (bs ++ more)) (known_place (bs ++ more)) (known_ingredient (bs ++ more)) k

unknown_more : (bs more : List ℕ) → spelling_of bs ≡ Err Unknown → spelling_of (bs ++ more) ≡ Err Unknown
unfolding by_tag
unknown_more [] more e = cc
unknown_more (t ∷ bs) more e =
    still_unknown (eqb t 1) (eqb t 2) (eqb t 3) (eqb t 4) (spell_place bs) (spell_ingredient bs) (spell_place (bs ++ more)) (spell_ingredient (bs ++ more)) (known_place bs) (known_ingredient bs) e

spelled_more : (bs more : List ℕ) (node : Node) → Spells node bs → spelling_of (bs ++ more) ≡ Ok node
spelled_more bs more Application h = ap (λ l. spelling_of (l ++ more)) h
spelled_more bs more Function h = ap (λ l. spelling_of (l ++ more)) h
spelled_more bs more (Place k) h = ap (λ l. spelling_of (l ++ more)) h
spelled_more bs more (Ingredient i) h = ap (λ l. spelling_of (l ++ more)) h.3 ∙ ap (λ v. Ok (Ingredient v)) (sym h.2)

-- how the spelling at the front may change where bytes follow
abbrev Grown : Result Node Misspelling → Result Node Misspelling → Type 0
Grown (Err Nothing) q = Unit {0}
Grown (Err Unknown) q = q ≡ Err Unknown
Grown (Err Cut) q = Known q
Grown (Ok node) q = q ≡ Ok node

grown : (bs more : List ℕ) (p : Result Node Misspelling) → spelling_of bs ≡ p → Grown p (spelling_of (bs ++ more))
grown bs more (Err Nothing) e = tt
grown bs more (Err Unknown) e = unknown_more bs more e
grown bs more (Err Cut) e = known_more bs more (subst Known (sym e) tt)
grown bs more (Ok node) e = spelled_more bs more node (spells bs node e)

crowded : (end at n d : ℕ) (p : Result Node Misspelling) → Known p → ltb n most_nodes ≡ false → judged end at n d p ≡ Err (TooManyNodes at)
crowded end at n d (Err Nothing) k e = absurd k
crowded end at n d (Err Unknown) k e = absurd k
crowded end at n d (Err Cut) k e = rw e refl
crowded end at n d (Ok node) k e = rw e refl

not_missing : {A : Type 0} {end : ℕ} {r : Result A Fault} {P : Type 0} → Err (Missing end) ≡ r → Firm r → P
not_missing e f = absurd (subst Firm (sym e) f refl)

judged_more : (end at n d k : ℕ) (p q : Result Node Misspelling) (r : Result Node Fault) → Grown p q → judged end at n d p ≡ r → Firm r → judged (end + k) at n d q ≡ r
judged_more end at n d k (Err Nothing) q r g e f = not_missing e f
judged_more end at n d k (Err Unknown) q r g e f = ap (judged (end + k) at n d) g ∙ e
judged_more end at n d k (Err Cut) q r g e f = grind (arith, nat_tests, not_missing, crowded)
judged_more end at n d k (Ok node) q r g e f = ap (judged (end + k) at n d) g ∙ e

same_place : (end : ℕ) (bs more : List ℕ) → end + length more - length (bs ++ more) ≡ end - length bs
same_place end bs more = omega (arith, length-append bs more)

next_more : (end n : ℕ) (s : Slot) (bs more : List ℕ) (r : Result Node Fault) → next end n s bs ≡ r → Firm r → next (end + length more) n s (bs ++ more) ≡ r
next_more end n s bs more r e f = grind (arith, nat_tests, same_place, judged_more, grown)

-- the end of a longer reading, from that of the shorter
abbrev pub carry : ℕ → List ℕ → Result ℕ Fault → Result ℕ Fault
carry end more (Ok k) = finished end k more
carry end more (Err f) = Err f

abbrev pub carried : ℕ → List ℕ → Scan → Scan
carried end more z = record { handed = z.handed; ended = carry end more z.ended }

no_room : (end n : ℕ) (s : Slot) (ss : List Slot) (bs : List ℕ) (node : Node) → next end n s bs ≡ Ok node → scan end zero n (s ∷ ss) bs ≡ record { handed = []; ended = Err (TooManyNodes (end - length bs)) }
no_room end n s ss bs node e = rw (e, scan) refl

stops_more : (end m n : ℕ) (s : Slot) (ss : List Slot) (bs more : List ℕ) (f : Fault) → next end n s bs ≡ Err f → Firm (scan end m n (s ∷ ss) bs).ended → scan (end + length more) m n (s ∷ ss) (bs ++ more) ≡ carried (end + length more) more (scan end m n (s ∷ ss) bs)
stops_more end m n s ss bs more f e firm = grind (arith, nat_tests, stops, next_more)

zero_more : (end n : ℕ) (s : Slot) (ss : List Slot) (bs more : List ℕ) → Firm (scan end zero n (s ∷ ss) bs).ended → (r : Result Node Fault) → next end n s bs ≡ r → scan (end + length more) zero n (s ∷ ss) (bs ++ more) ≡ carried (end + length more) more (scan end zero n (s ∷ ss) bs)
zero_more end n s ss bs more firm (Ok node) e = grind (arith, nat_tests, no_room, next_more, same_place)
zero_more end n s ss bs more firm (Err f) e = stops_more end zero n s ss bs more f e firm

turn_more : (end m n : ℕ) (s : Slot) (ss : List Slot) (bs more : List ℕ) → Firm (scan end (suc m) n (s ∷ ss) bs).ended → ((node : Node) → Firm (onward end m n s ss bs node).ended → scan (end + length more) m (suc n) (parts_of n s node ss) (drop (width_of node) bs ++ more) ≡ carried (end + length more) more (onward end m n s ss bs node)) → (r : Result Node Fault) → next end n s bs ≡ r → scan (end + length more) (suc m) n (s ∷ ss) (bs ++ more) ≡ carried (end + length more) more (scan end (suc m) n (s ∷ ss) bs)
turn_more end m n s ss bs more firm rest (Ok node) e = grind (arith, nat_tests, goes_on, spelled_width, spells, judged_ok, drop-append-le, next_more)
turn_more end m n s ss bs more firm rest (Err f) e = stops_more end (suc m) n s ss bs more f e firm

pub extends : (end m n : ℕ) (ss : List Slot) (bs more : List ℕ) → Firm (scan end m n ss bs).ended → scan (end + length more) m n ss (bs ++ more) ≡ carried (end + length more) more (scan end m n ss bs)
extends end m n [] [] more firm = refl
extends end m n [] (b ∷ bs) more firm = ap (λ at. record { handed = []; ended = Err (Leftover at) }) (same_place end (b ∷ bs) more)
extends end zero n (s ∷ ss) bs more firm = zero_more end n s ss bs more firm _ refl
extends end (suc m) n (s ∷ ss) bs more firm =
    turn_more end m n s ss bs more firm (λ node f. extends end m (suc n) (parts_of n s node ss) (drop (width_of node) bs) more f) _ refl

-- a byte is missing only where the code ends
abbrev pub MissingAtEnd : {A : Type 0} → ℕ → Result A Fault → Type 0
MissingAtEnd end (Ok x) = Unit {0}
MissingAtEnd end (Err f) = number_of f ≡ 1 → f ≡ Missing end

missing_fitted : (end at d : ℕ) (node : Node) → MissingAtEnd end (fitted at d node)
missing_fitted end at d Application = tt
missing_fitted end at d Function = cond_both (ltb d most_nested) _ _ (MissingAtEnd end) (λ b. tt) (λ b h. absurd (omega arith))
missing_fitted end at d (Place k) = cond_both (ltb k d) _ _ (MissingAtEnd end) (λ b. tt) (λ b h. absurd (omega arith))
missing_fitted end at d (Ingredient i) = cond_both (leb i last_ingredient) _ _ (MissingAtEnd end) (λ b. tt) (λ b h. absurd (omega arith))

missing_judged : (end at n d : ℕ) (p : Result Node Misspelling) → MissingAtEnd end (judged end at n d p)
missing_judged end at n d (Err Nothing) = λ h. refl
missing_judged end at n d (Err Unknown) = λ h. absurd (omega arith)
missing_judged end at n d (Err Cut) = cond_both (ltb n most_nodes) _ _ (MissingAtEnd end) (λ b h. refl) (λ b h. absurd (omega arith))
missing_judged end at n d (Ok node) =
    cond_both (ltb n most_nodes) _ _ (MissingAtEnd end) (λ b. missing_fitted end at d node) (λ b h. absurd (omega arith))

missing_stops : (end m n : ℕ) (s : Slot) (ss : List Slot) (bs : List ℕ) (f : Fault) → next end n s bs ≡ Err f → MissingAtEnd end (scan end m n (s ∷ ss) bs).ended
missing_stops end m n s ss bs f e = grind (arith, nat_tests, missing_judged, stops)

missing_turn : (end m n : ℕ) (s : Slot) (ss : List Slot) (bs : List ℕ) → ((node : Node) → MissingAtEnd end (onward end m n s ss bs node).ended) → (r : Result Node Fault) → next end n s bs ≡ r → MissingAtEnd end (scan end (suc m) n (s ∷ ss) bs).ended
missing_turn end m n s ss bs rest (Ok node) e = subst (λ z. MissingAtEnd end z.ended) (sym (goes_on end m n s ss bs node e)) (rest node)
missing_turn end m n s ss bs rest (Err f) e = missing_stops end (suc m) n s ss bs f e

missing_zero : (end n : ℕ) (s : Slot) (ss : List Slot) (bs : List ℕ) (r : Result Node Fault) → next end n s bs ≡ r → MissingAtEnd end (scan end zero n (s ∷ ss) bs).ended
missing_zero end n s ss bs (Ok node) e = subst (λ z. MissingAtEnd end z.ended) (sym (no_room end n s ss bs node e)) (λ h. absurd (omega arith))
missing_zero end n s ss bs (Err f) e = missing_stops end zero n s ss bs f e

pub missing_at_end : (end m n : ℕ) (ss : List Slot) (bs : List ℕ) → MissingAtEnd end (scan end m n ss bs).ended
missing_at_end end m n [] [] = tt
missing_at_end end m n [] (b ∷ bs) = λ h. absurd (omega arith)
missing_at_end end zero n (s ∷ ss) bs = missing_zero end n s ss bs _ refl
missing_at_end end (suc m) n (s ∷ ss) bs = missing_turn end m n s ss bs (λ node. missing_at_end end m (suc n) (parts_of n s node ss) (drop (width_of node) bs)) _ refl
