-- Laws of big-endian numbers: what was written is read back, wherever it stands.
use Prim.Native.Nat.{ℕ, ◌+◌, ◌≤◌}
use mathlib.Core.List.{List, ◌++◌}
use mathlib.Core.Path.{◌≡◌, refl, ◌∙◌}
use native.Mathlib.Omega.{arith}
use lib.ListN.{length, get_or, take, drop, get_or-eq_default}
use lib.Seq.{get_or-append-add, get_or-take, get_or-drop}
use Rattle.layout.specs.Bytes.{two, four, bytes2, bytes4}

-- Two bytes are one number wherever they stand.
pub two_same : (xs ys : List ℕ) (i j : ℕ) → get_or xs i 0 ≡ get_or ys j 0 → get_or xs (i + 1) 0 ≡ get_or ys (j + 1) 0 → two xs i ≡ two ys j
unfolding two
two_same xs ys i j e f = rw (e, f)

pub length_bytes2 : (x : ℕ) → length (bytes2 x) ≡ 2
unfolding bytes2
length_bytes2 x = refl

pub two_past : (xs : List ℕ) (i : ℕ) → length xs ≤ i → two xs i ≡ 0
unfolding two
two_past xs i h = rw (get_or-eq_default xs 0 {n = i} h, get_or-eq_default xs 0 {n = i + 1} (omega arith))

pub two_part : (xs : List ℕ) (a n i : ℕ) → i + 2 ≤ n → two (take n (drop a xs)) i ≡ two xs (a + i)
two_part xs a n i h =
    let e : a + i + 1 ≡ a + (i + 1) = omega arith in
    two_same (take n (drop a xs)) xs i (a + i) (get_or-take n (drop a xs) i 0 (omega arith) ∙ get_or-drop a xs i 0)
    (rw e (get_or-take n (drop a xs) (i + 1) 0 (omega arith) ∙ get_or-drop a xs (i + 1) 0))

pub four_bytes4 : (x : ℕ) (r : List ℕ) → four (bytes4 x ++ r) 0 ≡ x
unfolding four bytes4
four_bytes4 x r = omega arith

pub length_bytes4 : (x : ℕ) → length (bytes4 x) ≡ 4
unfolding bytes4
length_bytes4 x = refl

-- After xs.
pub four_behind : (xs ys : List ℕ) (i : ℕ) → four (xs ++ ys) (length xs + i) ≡ four ys i
unfolding four
four_behind xs ys i =
    let a : length xs + i + 1 ≡ length xs + (i + 1) = omega arith in
    let b : length xs + i + 2 ≡ length xs + (i + 2) = omega arith in
    let c : length xs + i + 3 ≡ length xs + (i + 3) = omega arith in
    rw (a, b, c, get_or-append-add xs ys i 0, get_or-append-add xs ys (i + 1) 0, get_or-append-add xs ys (i + 2) 0, get_or-append-add xs ys (i + 3) 0)

-- Past the end.
pub four_past : (xs : List ℕ) (i : ℕ) → length xs ≤ i → four xs i ≡ 0
unfolding four
four_past xs i h =
    rw (
      get_or-eq_default xs 0 {n = i} h,
      get_or-eq_default xs 0 {n = i + 1} (omega arith),
      get_or-eq_default xs 0 {n = i + 2} (omega arith),
      get_or-eq_default xs 0 {n = i + 3} (omega arith),
    )

-- In the n bytes from a on.
pub four_part : (xs : List ℕ) (a n i : ℕ) → i + 4 ≤ n → four (take n (drop a xs)) i ≡ four xs (a + i)
unfolding four
four_part xs a n i h =
    let p : a + i + 1 ≡ a + (i + 1) = omega arith in
    let q : a + i + 2 ≡ a + (i + 2) = omega arith in
    let r : a + i + 3 ≡ a + (i + 3) = omega arith in
    rw (
      p,
      q,
      r,
      get_or-take n (drop a xs) i 0 (omega arith),
      get_or-take n (drop a xs) (i + 1) 0 (omega arith),
      get_or-take n (drop a xs) (i + 2) 0 (omega arith),
      get_or-take n (drop a xs) (i + 3) 0 (omega arith),
      get_or-drop a xs i 0,
      get_or-drop a xs (i + 1) 0,
      get_or-drop a xs (i + 2) 0,
      get_or-drop a xs (i + 3) 0,
    )
