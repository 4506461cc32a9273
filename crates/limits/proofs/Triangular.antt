-- Triangular numbers. Assumes nothing.
use Rattle.std.proofs.Common.{ℕ, zero, suc, ◌+◌, ◌*◌, ◌^◌, ◌<◌, ◌≤◌, refl, suc-mul, mul-le-mul, mul-le-mul_left, mul-suc, mul-add, arith}
use Rattle.limits.specs.Counts.{triangle, Triangles, most_work}

pub triangles : Triangles
triangles zero = refl
triangles (suc n) = omega (arith, triangles n, suc-mul n (suc n + 1), mul-add n (suc n) 1, mul-suc n n, mul-add n n 1)

triangle_more : (b n : ℕ) → b ≤ n → triangle b ≤ triangle n
triangle_more zero n h = omega arith
triangle_more (suc b) zero h = omega arith
triangle_more (suc b) (suc n) h = omega (arith, triangle_more b n (omega arith))

pub work_more : (s b n : ℕ) → b ≤ n → most_work s b ≤ most_work s n
work_more s b n h = mul-le-mul_left s (omega (arith, triangle_more b n h))

-- the work of the largest recipe, in a machine with as many entries as any has
pub work_countable : (s b : ℕ) → s ≤ 4096 → b ≤ 1048576 → most_work s b < 2 ^ 52
work_countable s b hs hb =
    let next : b + 1 ≤ 1048577 = omega arith in
    let square : b * (b + 1) ≤ 1048576 * 1048577 = mul-le-mul hb next in
    let sum : suc (triangle b) ≤ 549756338177 = omega (arith, triangles b) in
    let work : s * suc (triangle b) ≤ 4096 * 549756338177 = mul-le-mul hs sum in
    omega arith
