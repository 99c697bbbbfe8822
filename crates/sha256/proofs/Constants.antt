-- The constants are what the standard says: one test of an entry, computed at each, and one law that turns it into the rule.
use Rattle.std.proofs.Common.{◌≡◌, ℕ, zero, suc, ◌+◌, ◌*◌, ◌^◌, ◌<◌, Bool, true, false, cond, ltb, leb, List, [], ◌∷◌, get_or, refl, ⊎_elim, eq-or-lt_of_le, arith, ltb-true, leb-true}
use Rattle.sha256.specs.Sha256.{K, H0}
use Rattle.sha256.specs.Constants.{undivided, prime, primes_below, RootBits, words_of, Constants}

-- The integer part of the n-th root of p, if it is at most k.
unfoldable root : ℕ → ℕ → ℕ → ℕ
root n p zero = 0
root n p (suc k) = cond (leb (suc k ^ n) p) (suc k) (root n p k)

-- The three inequations of an entry.
unfoldable test : ℕ → ℕ → ℕ → Bool
test n p x =
    cond (ltb x (2 ^ 32))
    (cond (leb ((root n p 6 * 2 ^ 32 + x) ^ n) (p * 2 ^ (32 * n)))
    (ltb (p * 2 ^ (32 * n)) ((root n p 6 * 2 ^ 32 + x + 1) ^ n))
    false)
    false

passed : (b c : Bool) → cond b c false ≡ true → b ≡ true
passed true c e = refl
passed false c e = e

passed_on : (b c : Bool) → cond b c false ≡ true → c ≡ true
passed_on true c e = e
passed_on false c e = cc

tested : (n p x : ℕ) → test n p x ≡ true → RootBits n p x
unfolding test
tested n p x e =
    let y : ℕ = root n p 6 * 2 ^ 32 + x in
    let z : ℕ = p * 2 ^ (32 * n) in
    let rest : cond (leb (y ^ n) z) (ltb z ((y + 1) ^ n)) false ≡ true = passed_on (ltb x (2 ^ 32)) _ e in
    record {
      whole = root n p 6;
      bits = ltb-true x (2 ^ 32) (passed (ltb x (2 ^ 32)) _ e);
      low = leb-true (y ^ n) z (passed (leb (y ^ n) z) _ rest);
      high = ltb-true z ((y + 1) ^ n) (passed_on (leb (y ^ n) z) _ rest);
    }

-- A test that holds at each number below n.
unfoldable up_to : (ℕ → Bool) → ℕ → Bool
up_to f zero = true
up_to f (suc n) = cond (f n) (up_to f n) false

each : (f : ℕ → Bool) (n : ℕ) → up_to f n ≡ true → (k : ℕ) → k < n → f k ≡ true
unfolding up_to
each f zero e k h = absurd (omega arith)
each f (suc n) e k h =
    ⊎_elim
    (λ q. rw q (passed (f n) (up_to f n) e))
    (λ l. each f n (passed_on (f n) (up_to f n) e) k l)
    (eq-or-lt_of_le {n = k} {m = n} (omega arith))

primes : List ℕ
primes =
    2 ∷ 3 ∷ 5 ∷ 7 ∷ 11 ∷ 13 ∷ 17 ∷ 19 ∷ 23 ∷ 29 ∷ 31 ∷ 37 ∷ 41 ∷ 43 ∷ 47 ∷ 53 ∷
    59 ∷ 61 ∷ 67 ∷ 71 ∷ 73 ∷ 79 ∷ 83 ∷ 89 ∷ 97 ∷ 101 ∷ 103 ∷ 107 ∷ 109 ∷ 113 ∷ 127 ∷ 131 ∷
    137 ∷ 139 ∷ 149 ∷ 151 ∷ 157 ∷ 163 ∷ 167 ∷ 173 ∷ 179 ∷ 181 ∷ 191 ∷ 193 ∷ 197 ∷ 199 ∷ 211 ∷ 223 ∷
    227 ∷ 229 ∷ 233 ∷ 239 ∷ 241 ∷ 251 ∷ 257 ∷ 263 ∷ 269 ∷ 271 ∷ 277 ∷ 281 ∷ 283 ∷ 293 ∷ 307 ∷ 311 ∷ []

primes_are : primes_below 312 ≡ primes
unfolding primes_below prime undivided primes
primes_are = refl

pub constants : Constants
unfolding up_to test root primes
constants =
    record {
      primes = rw primes_are;
      table = refl;
      cube = λ t h. rw primes_are (tested 3 (get_or primes t 0) (get_or K t 0) (each (λ t. test 3 (get_or primes t 0) (get_or K t 0)) 64 refl t h));
      square = λ t h.
          rw primes_are
          (tested 2 (get_or primes t 0) (get_or (words_of H0) t 0) (each (λ t. test 2 (get_or primes t 0) (get_or (words_of H0) t 0)) 8 refl t h));
    }
