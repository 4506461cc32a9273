-- The pieces that cells present. Assumes nothing.
use Rattle.std.proofs.Common.{◌≡◌, ℕ, zero, suc, ◌+◌, ◌<◌, ◌≤◌, true, ltb, List, ◌∷◌, length, get_or, refl, ap, arith}
use Rattle.std.proofs.lemmas.Bool.Decides.{nat_tests}
use Rattle.std.proofs.lemmas.Bool.{and_parts, ltb-true}
use Rattle.abstract_machine.specs.Pieces.{function, opened}
use Rattle.closure_tables.specs.declared.rows.Cell.{Cell}
use Rattle.closure_tables.specs.declared.rows.Cell.TheVariants as cell
use Rattle.closure_tables.specs.Tables.{blank_cell}
use Rattle.closure_tables.specs.Presented.{place_at, cell_piece, piece_at}
use Rattle.closure_tables.specs.Valid.{cell_inside}

-- every cell's parts lie further on
abbrev pub Onward : List Cell → Type 0
Onward cells = (i : ℕ) → i < length cells → cell_inside (length cells) i (get_or cells i blank_cell) ≡ true

-- more fuel changes no piece
pub piece_enough :
    (m n : ℕ) (cells : List Cell) (chain : List ℕ) (d i : ℕ) → Onward cells → i < length cells → length cells ≤ m + i → length cells ≤ n + i →
    piece_at m cells chain d i ≡ piece_at n cells chain d i
piece_enough zero n cells chain d i on h hm hn = absurd (omega arith)
piece_enough (suc m) zero cells chain d i on h hm hn = absurd (omega arith)
piece_enough (suc m) (suc n) cells chain d i on h hm hn =
    elim (get_or cells i blank_cell) as (λ x. cell_inside (length cells) i x ≡ true → cell_piece (piece_at m cells chain) chain d i x ≡ cell_piece (piece_at n cells chain) chain d i x) [
      | cell.Application r ↦ λ t.
          let p = and_parts (ltb i r) (ltb r (length cells)) t in
          let a : i < r = ltb-true i r p.0 in
          let b : r < length cells = ltb-true r (length cells) p.1 in
          let one = piece_enough m n cells chain d (suc i) on (omega arith) (omega arith) (omega arith) in
          let two = piece_enough m n cells chain d r on b (omega arith) (omega arith) in
          cc
      | cell.Function ↦ λ t.
          let a : suc i < length cells = ltb-true (suc i) (length cells) t in
          ap function (piece_enough m n cells chain (suc d) (suc i) on a (omega arith) (omega arith))
      | cell.Place k ↦ λ t. refl
      | cell.Ingredient j ↦ λ t. refl
    ] (on i h)

-- the piece at a node, by its cell, with the same fuel for its parts
pub piece_here :
    (cells : List Cell) (chain : List ℕ) (d i : ℕ) → Onward cells → i < length cells →
    piece_at (length cells) cells chain d i ≡ cell_piece (piece_at (length cells) cells chain) chain d i (get_or cells i blank_cell)
piece_here cells chain d i on h = piece_enough (length cells) (suc (length cells)) cells chain d i on h (omega arith) (omega arith)

-- a further entry in front of the chain opens the place that it fills
place_opened : (chain : List ℕ) (j d k : ℕ) → opened d j (place_at chain (suc d) k) ≡ place_at (j ∷ chain) d k
place_opened chain j d k = grind (arith, nat_tests)

pub piece_opened : (n : ℕ) (cells : List Cell) (chain : List ℕ) (j d i : ℕ) → opened d j (piece_at n cells chain (suc d) i) ≡ piece_at n cells (j ∷ chain) d i
piece_opened zero cells chain j d i = refl
piece_opened (suc n) cells chain j d i =
    elim (get_or cells i blank_cell) as (λ x. opened d j (cell_piece (piece_at n cells chain) chain (suc d) i x) ≡ cell_piece (piece_at n cells (j ∷ chain)) (j ∷ chain) d i x) [
      | cell.Application r ↦
          let one = piece_opened n cells chain j d (suc i) in
          let two = piece_opened n cells chain j d r in
          cc
      | cell.Function ↦ ap function (piece_opened n cells chain j (suc d) (suc i))
      | cell.Place k ↦ place_opened chain j d k
      | cell.Ingredient m ↦ refl
    ]
