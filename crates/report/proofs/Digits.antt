-- The fewest digits that hold a number are one number of digits, so the digits that are as few and hold it are those of `decimal`.
use Prim.Native.Nat.{ℕ, zero, suc, ◌+◌, ◌-◌, ◌/◌, ◌%◌, ◌^◌, ◌≤◌, ◌<◌}
use mathlib.Core.List.{List, [], ◌∷◌, ◌++◌}
use mathlib.Core.Path.{◌≡◌, refl, ◌∙◌}
use native.Mathlib.Decide.{dec_lt}
use native.Mathlib.Nat.{pow-suc, pow-le-pow_right}
use native.Mathlib.Omega.{arith}
use lib.Dec.{ltb}
use borrow.Author.Tests.{lt-ltb, le-ltb}
use Rattle.std.specs.Fmt as Fmt
use Rattle.std.proofs.lemmas.Fmt.{decimal_by_steps}
use Rattle.io.specs.Digits.{last_digits, IsDigitCount}
use Rattle.search.proofs.Search.{found, found_unique}
use Rattle.report.specs.Decimal.{width, decimal}

below_power : (k : ℕ) → k < 10 ^ k
below_power zero = omega arith
below_power (suc k) = rw pow-suc (omega (arith, below_power k))

fewest_width : (n k : ℕ) → IsDigitCount 10 1 n k → width n ≡ k
unfolding width
fewest_width n k f =
    found_unique (found (λ j. ltb n (10 ^ j)) 1 n)
    (record {
      from = f.0;
      within = elim (dec_lt 1 k) [ yes l ↦ omega (arith, f.2 l, below_power (k - 1)) | no l ↦ omega arith ];
      before = λ j h l.
          le-ltb n (10 ^ j)
          (omega (arith, f.2 (omega arith), pow-le-pow_right {n = 10} (omega arith) {i = j} {j = k - 1} (omega arith)));
      hit = λ _. lt-ltb n (10 ^ k) f.1;
    })

pub is_decimal : (n k : ℕ) → IsDigitCount 10 1 n k → last_digits 10 k n ≡ decimal n
unfolding decimal
is_decimal n k f = rw (fewest_width n k f)

-- What the library writes of a number is as few of its digits: a digit alone, or those of a tenth, and the last.
abbrev fewest : ℕ → List ℕ → Type 0
fewest n ds = (k : ℕ) × IsDigitCount 10 1 n k × (ds ≡ last_digits 10 k n)

digit : (n : ℕ) → n < 10 → fewest n ((48 + n) ∷ [])
digit n h =
    let r : n % 10 ≡ n = omega (arith, h) in
    (1, (omega arith, omega (arith, h), λ l. absurd (omega (arith, l))), rw (r, lt-ltb n 10 h) refl)

ten_times : (n k : ℕ) → 1 ≤ k → 10 ≤ n → (1 < k → 10 ^ (k - 1) ≤ n / 10) → 10 ^ k ≤ n
ten_times n zero a h c = absurd (omega arith)
ten_times n (suc zero) a h c = h
ten_times n (suc (suc k)) a h c =
    let p : 10 ^ suc k ≤ n / 10 = (let e : suc (suc k) - 1 ≡ suc k = omega arith in rw e at c (omega arith)) in rw pow-suc (omega (arith, p))

one_more : (n : ℕ) (ds : List ℕ) → 10 ≤ n → fewest (n / 10) ds → fewest n (ds ++ ((48 + n % 10) ∷ []))
one_more n ds h (k, (a, b, c), e) =
    (suc k, (omega arith, rw pow-suc (omega (arith, b)), λ l. let i : suc k - 1 ≡ k = omega arith in rw i (ten_times n k a h c)), rw (e, lt-ltb (n % 10) 10 (omega arith)) refl)

pub library_decimal : (n : ℕ) → n < 2 ^ 64 → Fmt.decimal n ≡ decimal n
library_decimal n h = let f = decimal_by_steps fewest digit one_more n h in f.2 ∙ is_decimal n f.0 f.1
