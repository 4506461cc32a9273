-- The table that is handed a term's nodes holds the term's cells. Assumes nothing.
use Rattle.std.proofs.Common.{◌≡◌, ℕ, zero, suc, ◌+◌, ◌-◌, ◌<◌, ◌≤◌, min, ltb, List, [], ◌∷◌, ◌++◌, length, take, set, Some, None, Option, fold, refl, ap, ◌∙◌, append_assoc, arith, length-append, length-set}
use Rattle.std.proofs.lemmas.List.{set_at, length_push, take_more_set}
use Rattle.std.proofs.lemmas.Bool.{cond-true, lt-ltb}
use Rattle.std.proofs.iter.runs.Lists.{fold-append}
use Rattle.node.specs.declared.nodes.Part.{Part}
use Rattle.node.specs.declared.nodes.Part.TheVariants.{Left, Right, Body}
use Rattle.node.specs.declared.nodes.Node.TheVariants.{Application, Function, Place, Ingredient}
use Rattle.node.specs.declared.nodes.Located.{Located}
use Rattle.term.specs.Terms.{Term, place, ingredient, function, application, size, nesting, Covered}
use Rattle.code.specs.Scans.{Slot, root, left_of, right_of, body_of, located, handed_over}
use Rattle.code.specs.Verdicts.{accepted, verdict}
use Rattle.code.specs.Layouts.{layout}
use Rattle.code.specs.Law.{ReadingLaw}
use Rattle.closure_tables.specs.declared.rows.Cell.{Cell}
use Rattle.closure_tables.specs.declared.rows.Cell.TheVariants as cell
use Rattle.closure_tables.specs.Received.{Received, nothing_received, cell_of, joined, received, cells_of}

abbrev pub holding : List Cell → ℕ → Received
holding xs room = record { cells = xs; room = room }

-- where there is room a node is stored, and otherwise it is not

pub stored : (r : Received) (l : Located) → 0 < r.room → received r l ≡ record { cells = joined l.part l.number r.cells ++ cell_of l.node ∷ []; room = r.room - 1 }
stored r l h =
    cond-true (ltb 0 r.room) (holding (joined l.part l.number r.cells ++ cell_of l.node ∷ []) (r.room - 1)) r (lt-ltb 0 r.room h)

pub length_joined : (p : Option Part) (n : ℕ) (xs : List Cell) → length (joined p n xs) ≡ length xs
length_joined None n xs = refl
length_joined (Some (Left a)) n xs = refl
length_joined (Some (Right a)) n xs = length-set xs a (cell.Application n)
length_joined (Some (Body f)) n xs = refl

-- the cells in use of a longer list

set_below : (n : ℕ) (xs : List Cell) (a : ℕ) (x : Cell) → take n (set xs a x) ≡ set (take n xs) a x
set_below zero xs a x = refl
set_below (suc n) [] a x = refl
set_below (suc n) (y ∷ xs) zero x = refl
set_below (suc n) (y ∷ xs) (suc a) x = ap (λ l. y ∷ l) (set_below n xs a x)

joined_below : (p : Option Part) (m n : ℕ) (xs : List Cell) → take n (joined p m xs) ≡ joined p m (take n xs)
joined_below None m n xs = refl
joined_below (Some (Left a)) m n xs = refl
joined_below (Some (Right a)) m n xs = set_below n xs a (cell.Application m)
joined_below (Some (Body f)) m n xs = refl

-- where a table has n cells in use and more places, the cell at place n is one more
pub stored_below :
    (p : Option Part) (m n : ℕ) (xs : List Cell) (x : Cell) → n < length xs →
    take (n + 1) (set (joined p m xs) n x) ≡ joined p m (take n xs) ++ x ∷ []
stored_below p m n xs x h =
    take_more_set (joined p m xs) n x (omega (arith, length_joined p m xs))
    ∙ ap (λ l. l ++ x ∷ []) (joined_below p m n xs)

-- a term

pub length_cells : (n : ℕ) (t : Term) → length (cells_of n t) ≡ size t
length_cells n (place k) = refl
length_cells n (ingredient i) = refl
length_cells n (function t) = omega (arith, length_cells (suc n) t)
length_cells n (application t u) =
    omega (arith, length_cells (suc n) t, length_cells (suc n + size t) u, length-append (cells_of (suc n) t) (cells_of (suc n + size t) u))

-- a term under d functions, in a slot; each index of it fits a cell
pub stores_term :
    (n room d : ℕ) (s : Slot) (t : Term) (xs : List Cell) → length xs ≡ n → size t ≤ room → Covered d t → d + nesting t ≤ 255 →
    fold received (holding xs room) (layout n s t) ≡ holding (joined s.part n xs ++ cells_of n t) (room - size t)
stores_term n room d s (place k) xs long h c few =
    let fits : min k 255 ≡ k = omega arith in
    stored (holding xs room) (located n s (Place k)) (omega arith)
    ∙ ap (λ j. holding (joined s.part n xs ++ cell.Place j ∷ []) (room - 1)) fits
stores_term n room d s (ingredient i) xs long h c few = stored (holding xs room) (located n s (Ingredient i)) (omega arith)
stores_term n room d s (function t) xs long h c few =
    let ys = joined s.part n xs in
    let more = length_push ys cell.Function in
    let kept = length_joined s.part n xs in
    let less : room - 1 - size t ≡ room - suc (size t) = omega arith in
    ap (λ r. fold received r (layout (suc n) (body_of n s) t)) (stored (holding xs room) (located n s Function) (omega arith))
    ∙ stores_term (suc n) (room - 1) (suc d) (body_of n s) t (ys ++ cell.Function ∷ []) (omega arith) (omega arith) c (omega arith)
    ∙ ap (λ zs. holding zs (room - 1 - size t)) (append_assoc ys (cell.Function ∷ []) (cells_of (suc n) t))
    ∙ ap (holding (ys ++ cell.Function ∷ cells_of (suc n) t)) less
stores_term n room d s (application t u) xs long h c few =
    let ys = joined s.part n xs in
    let right = suc n + size t in
    let zs = ys ++ cell.Application 0 ∷ [] in
    let ws = zs ++ cells_of (suc n) t in
    let kept = length_joined s.part n xs in
    let here : length ys ≡ n = omega arith in
    let more : length zs ≡ suc n = length_push ys (cell.Application 0) ∙ omega arith in
    let most : length ws ≡ right = length-append zs (cells_of (suc n) t) ∙ omega (arith, length_cells (suc n) t) in
    let less : room - 1 - size t - size u ≡ room - suc (size t + size u) = omega arith in
    let learnt : set ws n (cell.Application right) ≡ ys ++ cell.Application right ∷ cells_of (suc n) t
    = ap (λ l. set l n (cell.Application right)) (append_assoc ys (cell.Application 0 ∷ []) (cells_of (suc n) t))
    ∙ set_at ys (cell.Application 0) (cells_of (suc n) t) (cell.Application right) n here in
    ap (λ r. fold received r (layout (suc n) (left_of n s) t ++ layout right (right_of n s) u)) (stored (holding xs room) (located n s Application) (omega arith))
    ∙ fold-append received (holding zs (room - 1)) (layout (suc n) (left_of n s) t) (layout right (right_of n s) u)
    ∙ ap (λ r. fold received r (layout right (right_of n s) u)) (stores_term (suc n) (room - 1) d (left_of n s) t zs more (omega arith) c.0 (omega arith))
    ∙ stores_term right (room - 1 - size t) d (right_of n s) u ws most (omega arith) c.1 (omega arith)
    ∙ ap (λ l. holding (l ++ cells_of right u) (room - 1 - size t - size u)) learnt
    ∙ ap (λ l. holding l (room - 1 - size t - size u)) (append_assoc ys (cell.Application right ∷ cells_of (suc n) t) (cells_of right u))
    ∙ ap (holding (ys ++ cells_of n (application t u))) less

-- an accepted code
pub stores_code :
    (bs : List ℕ) (t : Term) (capacity : ℕ) → ReadingLaw bs → verdict bs ≡ accepted t → size t ≤ capacity →
    fold received (nothing_received capacity) (handed_over bs) ≡ record { cells = cells_of 0 t; room = capacity - size t }
stores_code bs t capacity law e h =
    let recipe = ((law.accepts_exactly t).0 e).1 in
    ap (fold received (nothing_received capacity)) (law.laid_out t e)
    ∙ stores_term 0 capacity 0 root t [] refl h recipe.closed (omega (arith, recipe.shallow))
