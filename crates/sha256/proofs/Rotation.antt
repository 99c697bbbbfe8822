-- Rotations of words: a rotation of a rotation is one by the sum, and a rotation goes through a bitwise sum.
-- Both are read off the rotated word as a number: the low digits of the word, then its high ones.
use Rattle.std.proofs.Common.{◌≡◌, ℕ, ◌+◌, ◌-◌, ◌*◌, ◌/◌, ◌%◌, ◌^◌, ◌<◌, ◌≤◌, sym, ap, ◌∙◌, add-zero, add_assoc, mod-lt, mul_assoc, add-mul, add_comm, arith, pow_pos, pow-add, shr-shr, shr_lt}
use native.Mathlib.Nat.{mul-mod_left}
use lib.Pow.{shl-shr, shr_le, split, high, low, mod-pow-add}
use lib.Bits.{bit_or, bit_xor, or_shifted_r, or_lt, xor_mod, xor_shr, xor_block, xor_lt}
use Rattle.sha256.specs.Sha256.{ROTR}
use Rattle.sha256.proofs.Bits.{xor_assoc}

module _ (n m w x : ℕ) (e : n + m ≡ w) (h : x < 2 ^ w) where
  shifted : x * 2 ^ m % 2 ^ w ≡ x % 2 ^ n * 2 ^ m
  shifted = rw (← e, mod-pow-add (x * 2 ^ m) n m, shl-shr, mul-mod_left, add-zero)

  shifted_or : bit_or (x / 2 ^ n) (x * 2 ^ m % 2 ^ w) ≡ x % 2 ^ n * 2 ^ m + x / 2 ^ n
  shifted_or =
      let e' : m + n ≡ w = omega arith in
      rw (shifted, or_shifted_r (x % 2 ^ n) m (x / 2 ^ n) (shr_lt m n (rw e' h)))

module _ (n x : ℕ) (h : n ≤ 32) (hx : x < 2 ^ 32) where
  rotated : ROTR n x ≡ x % 2 ^ n * 2 ^ (32 - n) + x / 2 ^ n
  rotated = shifted_or n (32 - n) 32 x (omega arith) hx

  rotated_lt : ROTR n x < 2 ^ 32
  rotated_lt = or_lt 32 (x / 2 ^ n) (x * 2 ^ (32 - n) % 2 ^ 32) (omega (arith, shr_le x n)) (omega arith)

  high_lt : x / 2 ^ n < 2 ^ (32 - n)
  high_lt = let e : 32 - n + n ≡ 32 = omega arith in shr_lt (32 - n) n (rw e hx)

rotated_xor : (n x y : ℕ) → n ≤ 32 → x < 2 ^ 32 → y < 2 ^ 32 → ROTR n (bit_xor x y) ≡ bit_xor (ROTR n x) (ROTR n y)
rotated_xor n x y h hx hy =
    rw (rotated n (bit_xor x y) h (xor_lt 32 x y hx hy), rotated n x h hx, rotated n y h hy, xor_mod x y n, xor_shr x y n)
    (sym (xor_block (32 - n) (x % 2 ^ n) (y % 2 ^ n) (x / 2 ^ n) (y / 2 ^ n) (high_lt n x h hx) (high_lt n y h hy)))

-- The three parts of a word that is rotated by j and then by i: b above a, and c above both.
module _ (i j x : ℕ) (h : i + j ≤ 32) (hx : x < 2 ^ 32) where
  abbrev a : ℕ
  a = x % 2 ^ j

  abbrev b : ℕ
  b = x / 2 ^ j % 2 ^ i

  abbrev c : ℕ
  c = x / 2 ^ j / 2 ^ i

  abbrev k : ℕ
  k = 32 - (i + j)

  once : ROTR j x ≡ (a * 2 ^ k + c) * 2 ^ i + b
  once =
      let e : 32 - j ≡ k + i = omega arith in
      let d : x / 2 ^ j ≡ c * 2 ^ i + b = sym (split (x / 2 ^ j) i) in
      rotated j x (omega arith) hx ∙ rw (e, pow-add 2 k i, add-mul, mul_assoc a (2 ^ k) (2 ^ i), add_assoc, ← d)

  rotated_twice : ROTR i (ROTR j x) ≡ ROTR (i + j) x
  rotated_twice =
      let e : 32 - i ≡ j + k = omega arith in
      let l : ROTR i (ROTR j x) ≡ b * 2 ^ (j + k) + (a * 2 ^ k + c) =
      rotated i (ROTR j x) (omega arith) (rotated_lt j x (omega arith) hx)
      ∙ rw (once, e, low (a * 2 ^ k + c) i {lo = b} (mod-lt (x / 2 ^ j) (pow_pos i)), high (a * 2 ^ k + c) i {lo = b} (mod-lt (x / 2 ^ j) (pow_pos i))) in
      let r : ROTR (i + j) x ≡ (b * 2 ^ j + a) * 2 ^ k + c =
      rotated (i + j) x h hx ∙ rw (mod-pow-add x i j, add_comm i j, ← shr-shr x j i) in
      let m : b * 2 ^ (j + k) + (a * 2 ^ k + c) ≡ (b * 2 ^ j + a) * 2 ^ k + c =
      rw (pow-add 2 j k, add-mul (b * 2 ^ j) a (2 ^ k), mul_assoc b (2 ^ j) (2 ^ k), add_assoc) in
      l ∙ m ∙ sym r

-- The forms that the code has: each rotates what is rotated already by the rest of the way.
module _ (i j x : ℕ) (h : i + j ≤ 32) (hx : x < 2 ^ 32) where
  pub nested : ROTR i (bit_xor x (ROTR j x)) ≡ bit_xor (ROTR i x) (ROTR (i + j) x)
  nested = rotated_xor i x (ROTR j x) (omega arith) hx (rotated_lt j x (omega arith) hx) ∙ rw (rotated_twice i j x h hx)

-- Both inner rotations at once.
pub nested_both :
    (i j l x : ℕ)
    → i + j ≤ 32
    → i + l ≤ 32
    → x < 2 ^ 32
    → ROTR i (bit_xor (bit_xor x (ROTR j x)) (ROTR l x)) ≡ bit_xor (bit_xor (ROTR i x) (ROTR (i + j) x)) (ROTR (i + l) x)
nested_both i j l x hj hl hx =
    let hy : bit_xor x (ROTR j x) < 2 ^ 32 = xor_lt 32 x (ROTR j x) hx (rotated_lt j x (omega arith) hx) in
    rotated_xor i (bit_xor x (ROTR j x)) (ROTR l x) (omega arith) hy (rotated_lt l x (omega arith) hx)
    ∙ rw (nested i j x hj hx, rotated_twice i l x hl hx)

-- One after the other.
pub nested_twice :
    (i j l x : ℕ)
    → i + j + l ≤ 32
    → x < 2 ^ 32
    → ROTR i (bit_xor x (ROTR j (bit_xor x (ROTR l x)))) ≡ bit_xor (bit_xor (ROTR i x) (ROTR (i + j) x)) (ROTR (i + j + l) x)
nested_twice i j l x h hx =
    let hy : bit_xor x (ROTR l x) < 2 ^ 32 = xor_lt 32 x (ROTR l x) hx (rotated_lt l x (omega arith) hx) in
    rotated_xor i x (ROTR j (bit_xor x (ROTR l x))) (omega arith) hx (rotated_lt j (bit_xor x (ROTR l x)) (omega arith) hy)
    ∙ ap (bit_xor (ROTR i x)) (rotated_twice i j (bit_xor x (ROTR l x)) (omega arith) hy ∙ nested (i + j) l x h hx)
    ∙ sym (xor_assoc (ROTR i x) (ROTR (i + j) x) (ROTR (i + j + l) x))
