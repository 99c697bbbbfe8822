-- 4.2.2 and 5.3.3: what the constants are, in exact integers.
use Rattle.std.specs.Prelude.{◌≡◌, ℕ, zero, suc, ◌+◌, ◌-◌, ◌*◌, ◌%◌, ◌^◌, ◌<◌, ◌≤◌, Bool, true, false, cond, List, [], ◌∷◌, ◌++◌, length, ◌==◌, nat_lt, slice_index}
use Rattle.sha256.specs.declared.State.{State}
use Rattle.sha256.specs.Sha256.{K, H0}

-- None of the k numbers from 2 on divides p.
unfoldable pub undivided : ℕ → ℕ → Bool
undivided p zero = true
undivided p (suc k) = cond (p % (k + 2) == 0) false (undivided p k)

-- A prime is 2 or more, and none of the numbers from 2 up to it divides it.
unfoldable pub prime : ℕ → Bool
prime p = cond (nat_lt p 2) false (undivided p (p - 2))

-- The primes below n, ascending.
unfoldable pub primes_below : ℕ → List ℕ
primes_below zero = []
primes_below (suc n) = primes_below n ++ cond (prime n) (n ∷ []) []

-- "The first thirty-two bits of the fractional part" of the n-th root of p are x: with `whole` the root's integer part,
-- whole * 2 ^ 32 + x is the integer part of the root times 2 ^ 32.
pub record RootBits (n p x : ℕ) : Type 0 where
  pub whole : ℕ
  pub bits : x < 2 ^ 32
  pub low : (whole * 2 ^ 32 + x) ^ n ≤ p * 2 ^ (32 * n)
  pub high : p * 2 ^ (32 * n) < (whole * 2 ^ 32 + x + 1) ^ n

-- The eight words of a hash value.
abbrev pub words_of : State → List ℕ
words_of s = s.a ∷ s.b ∷ s.c ∷ s.d ∷ s.e ∷ s.f ∷ s.g ∷ s.h ∷ []

-- There are sixty-four primes below 312. K's words come from the cube roots of these, and the initial hash value's
-- from the square roots of the first eight.
pub record Constants : Type 0 where
  pub primes : length (primes_below 312) ≡ 64
  pub table : length K ≡ 64
  pub cube : (t : ℕ) → t < 64 → RootBits 3 (slice_index (primes_below 312) t) (slice_index K t)
  pub square : (t : ℕ) → t < 8 → RootBits 2 (slice_index (primes_below 312) t) (slice_index (words_of H0) t)
