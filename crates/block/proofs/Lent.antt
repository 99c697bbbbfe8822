-- A part of a byte string that was lent to be written, put back.
use Prim.Native.Nat.{ℕ, ◌+◌, ◌-◌, ◌≤◌}
use mathlib.Core.List.{List, ◌++◌}
use mathlib.Core.Path.{◌≡◌, ap, ◌∙◌}
use native.Mathlib.Omega.{arith}
use lib.ListN.{length, take, drop, length-append, length-drop}
use lib.Seq.{take_at, take-append-add, length-take-le}
use borrow.Rule.Slice.PartMut.{put_mid, Post-is}

-- The n bytes from a on, lent and given back as ys.
pub mid : (a n : ℕ) (xs ys : List ℕ) → put_mid a (a + n - a) xs ys ≡ take a xs ++ (ys ++ drop (a + n) xs)
mid a n xs ys = ap (λ r. take a xs ++ (ys ++ r)) (Post-is a (a + n) xs (omega arith))

pub mid_length :
    (a n : ℕ) (xs ys : List ℕ) → length ys ≡ n → a + n ≤ length xs → length (put_mid a (a + n - a) xs ys) ≡ length xs
mid_length a n xs ys h l =
    ap length (mid a n xs ys) ∙ simp (length-append, length-take-le a xs (omega arith), h, length-drop) (omega arith)

-- The bytes up to its end.
pub mid_next :
    (a n : ℕ) (xs ys : List ℕ) → length ys ≡ n → a + n ≤ length xs → take (a + n) (put_mid a (a + n - a) xs ys) ≡ take a xs ++ ys
mid_next a n xs ys h l =
    let q : a + n ≡ length (take a xs) + n = omega (arith, length-take-le a xs (omega arith)) in
    ap (take (a + n)) (mid a n xs ys) ∙ (ap (λ m. take m (take a xs ++ (ys ++ drop (a + n) xs))) q ∙ rw (take-append-add (take a xs), take_at ys _ n h))
