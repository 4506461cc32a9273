-- What a write behind the text leaves of the output. Assumes nothing.
use Rattle.std.proofs.Common.{◌≡◌, ℕ, ◌+◌, ◌-◌, ◌≤◌, List, ◌++◌, length, take, drop, sym, ◌∙◌, arith}
use Rattle.std.proofs.lemmas.List.{length-drop, drop-drop}
use Rattle.std.proofs.lemmas.Slice.{take-put_mid, drop-put_mid}
use borrow.Rule.Slice.PartMut.{put_mid}

pub text_put : (a k : ℕ) (xs ys : List ℕ) → a ≤ length xs → length ys ≡ k → take (a + k) (put_mid a (a + k - a) xs ys) ≡ take a xs ++ ys
text_put a k xs ys in_xs long = take-put_mid a (a + k - a) xs ys (a + k) (omega arith) in_xs

pub blank_put : (a k : ℕ) (xs ys : List ℕ) → a ≤ length xs → length ys ≡ k → drop (a + k) (put_mid a (a + k - a) xs ys) ≡ drop k (drop a xs)
blank_put a k xs ys in_xs long = drop-put_mid a (a + k - a) xs ys (a + k) (omega arith) in_xs (omega (arith, long)) ∙ sym (drop-drop k a xs)

-- by which `put_all` is proved with nothing written out, so that another test for room shows at the test
pub ruleset putting = (text_put, blank_put, length-drop)
