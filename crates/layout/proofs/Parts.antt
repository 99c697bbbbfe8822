-- Laws of bytes cut into parts of n.
use Prim.Native.Nat.{ℕ, zero, suc, ◌+◌, ◌-◌, ◌*◌, ◌≤◌, ◌<◌}
use mathlib.Core.List.{List, [], ◌∷◌, ◌++◌}
use mathlib.Core.Path.{◌≡◌, sym, ap, ◌∙◌}
use native.Mathlib.Nat.{mul-suc, mul-add, zero-add, suc-add, add-zero}
use native.Mathlib.Omega.{arith}
use lib.ListN.{length, take, drop, length-drop, drop_of_length-le, take-append-drop}
use lib.Seq.{take_at, length-take-le, drop-append-add, take-nil, take-append-le, drop-append-le, take-take, drop-drop}
use Rattle.layout.specs.Bytes.{part}

-- The first part, and the parts after it.
pub part_front : (n : ℕ) (xs ys : List ℕ) → length xs ≡ n → part n (xs ++ ys) 0 ≡ xs
part_front n xs ys h = let e : n * 0 ≡ 0 = omega arith in rw e (take_at xs ys n h)

pub part_behind : (n : ℕ) (xs ys : List ℕ) (i : ℕ) → length xs ≡ n → part n (xs ++ ys) (suc i) ≡ part n ys i
part_behind n xs ys i h =
    let e : n * suc i ≡ length xs + n * i = mul-suc n i ∙ omega (arith, h) in
    rw e (ap (take n) (drop-append-add xs ys (n * i)))

pub length_of_part : (n : ℕ) (xs : List ℕ) (i : ℕ) → n * i + n ≤ length xs → length (part n xs i) ≡ n
length_of_part n xs i h = length-take-le n (drop (n * i) xs) (simp length-drop (omega arith))

-- Past the end there is no part.
pub part_past : (n : ℕ) (xs : List ℕ) (i : ℕ) → length xs ≤ n * i → part n xs i ≡ []
part_past n xs i h = rw (drop_of_length-le xs {i = n * i} h) (take-nil n)

-- A part that lies in the first of two strings.
pub part_append : (n : ℕ) (xs ys : List ℕ) (i : ℕ) → n * i + n ≤ length xs → part n (xs ++ ys) i ≡ part n xs i
part_append n xs ys i h =
    let l : n ≤ length (drop (n * i) xs) = simp length-drop (omega arith) in
    rw (drop-append-le (n * i) xs ys (omega arith), take-append-le n (drop (n * i) xs) ys l)

-- The parts after m whole ones.
pub part_behind_all : (n : ℕ) (xs ys : List ℕ) (m i : ℕ) → length xs ≡ n * m → part n (xs ++ ys) (m + i) ≡ part n ys i
part_behind_all n xs ys m i h =
    let e : n * (m + i) ≡ length xs + n * i = mul-add n m i ∙ omega (arith, h) in
    rw e (ap (take n) (drop-append-add xs ys (n * i)))

-- The part between xs and zs.
pub part_at : (n : ℕ) (xs ys zs : List ℕ) (m : ℕ) → length xs ≡ n * m → length ys ≡ n → part n (xs ++ (ys ++ zs)) m ≡ ys
part_at n xs ys zs m h l =
    let e : part n (xs ++ (ys ++ zs)) (m + 0) ≡ ys = part_behind_all n xs (ys ++ zs) m 0 h ∙ part_front n ys zs l in
    rw add-zero at e

-- A part that lies in the first m bytes, whatever follows these.
pub part_kept :
    (n : ℕ) (xs ys : List ℕ) (m i : ℕ) → n * i + n ≤ m → m ≤ length xs → part n (take m xs ++ ys) i ≡ part n xs i
part_kept n xs ys m i h l =
    let k : n * i + n ≤ length (take m xs) = rw (length-take-le m xs l) h in
    part_append n (take m xs) ys i k ∙
    (sym (part_append n (take m xs) (drop m xs) i k) ∙ ap (λ b. part n b i) (take-append-drop m xs))

drop_take : (m r : ℕ) (xs : List ℕ) → drop m (take (m + r) xs) ≡ take r (drop m xs)
drop_take zero r xs = ap (λ n. take n xs) (zero-add r)
drop_take (suc m) r [] = rw (take-nil (suc m + r), take-nil r)
drop_take (suc m) r (x ∷ xs) = rw (suc-add m r) (drop_take m r xs)

-- The parts of the u parts from part a on.
pub part_part : (n : ℕ) (xs : List ℕ) (a u j : ℕ) → j < u → part n (take (n * u) (drop (n * a) xs)) j ≡ part n xs (a + j)
part_part n xs a u j h =
    let r : ℕ = u - suc j in
    let e : u ≡ j + suc r = omega arith in
    let f : n * u ≡ n * j + n * suc r = ap (λ m. n * m) e ∙ mul-add n j (suc r) in
    let g : n ≤ n * suc r = omega (arith, mul-suc n r) in
    let k : n * a + n * j ≡ n * (a + j) = sym (mul-add n a j) in
    rw (f, drop_take (n * j) (n * suc r) (drop (n * a) xs), take-take n (n * suc r) _ g, drop-drop (n * j) (n * a) xs, k)
