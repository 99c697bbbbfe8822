-- SHA-256 as FIPS 180-4 writes it, in the standard's order. A word is a number below 2 ^ 32, a byte one below 256.
use Rattle.std.specs.Prelude.{ℕ, zero, suc, ◌+◌, ◌-◌, ◌*◌, ◌/◌, ◌%◌, ◌^◌, cond, List, [], ◌∷◌, ◌++◌, length, replicate, bit_and, bit_or, bit_xor, nat_lt, slice_index, slice_index_or}
use Rattle.layout.specs.Bytes.{four, bytes4, bytes8, part}
use Rattle.sha256.specs.declared.State.{State}

-- 2.2.2 and 3.2: operations on words. Addition is modulo 2 ^ 32.
infixl 65 ◌⊞◌
abbrev pub ◌⊞◌ : ℕ → ℕ → ℕ
x ⊞ y = (x + y) % 2 ^ 32

abbrev pub SHR : ℕ → ℕ → ℕ
SHR n x = x / 2 ^ n

abbrev pub ROTR : ℕ → ℕ → ℕ
ROTR n x = bit_or (x / 2 ^ n) (x * 2 ^ (32 - n) % 2 ^ 32)

-- 4.1.2: the six functions. The complement of x is 2 ^ 32 - 1 - x.
abbrev pub Ch : ℕ → ℕ → ℕ → ℕ
Ch x y z = bit_xor (bit_and x y) (bit_and (2 ^ 32 - 1 - x) z)

abbrev pub Maj : ℕ → ℕ → ℕ → ℕ
Maj x y z = bit_xor (bit_xor (bit_and x y) (bit_and x z)) (bit_and y z)

abbrev pub Σ0 : ℕ → ℕ
Σ0 x = bit_xor (bit_xor (ROTR 2 x) (ROTR 13 x)) (ROTR 22 x)

abbrev pub Σ1 : ℕ → ℕ
Σ1 x = bit_xor (bit_xor (ROTR 6 x) (ROTR 11 x)) (ROTR 25 x)

abbrev pub σ0 : ℕ → ℕ
σ0 x = bit_xor (bit_xor (ROTR 7 x) (ROTR 18 x)) (SHR 3 x)

abbrev pub σ1 : ℕ → ℕ
σ1 x = bit_xor (bit_xor (ROTR 17 x) (ROTR 19 x)) (SHR 10 x)

-- 4.2.2: the constants, the first thirty-two bits of the fractional parts of the cube roots of the first sixty-four primes.
abbrev pub K : List ℕ
K =
    0x428a2f98 ∷ 0x71374491 ∷ 0xb5c0fbcf ∷ 0xe9b5dba5 ∷ 0x3956c25b ∷ 0x59f111f1 ∷ 0x923f82a4 ∷ 0xab1c5ed5 ∷
    0xd807aa98 ∷ 0x12835b01 ∷ 0x243185be ∷ 0x550c7dc3 ∷ 0x72be5d74 ∷ 0x80deb1fe ∷ 0x9bdc06a7 ∷ 0xc19bf174 ∷
    0xe49b69c1 ∷ 0xefbe4786 ∷ 0x0fc19dc6 ∷ 0x240ca1cc ∷ 0x2de92c6f ∷ 0x4a7484aa ∷ 0x5cb0a9dc ∷ 0x76f988da ∷
    0x983e5152 ∷ 0xa831c66d ∷ 0xb00327c8 ∷ 0xbf597fc7 ∷ 0xc6e00bf3 ∷ 0xd5a79147 ∷ 0x06ca6351 ∷ 0x14292967 ∷
    0x27b70a85 ∷ 0x2e1b2138 ∷ 0x4d2c6dfc ∷ 0x53380d13 ∷ 0x650a7354 ∷ 0x766a0abb ∷ 0x81c2c92e ∷ 0x92722c85 ∷
    0xa2bfe8a1 ∷ 0xa81a664b ∷ 0xc24b8b70 ∷ 0xc76c51a3 ∷ 0xd192e819 ∷ 0xd6990624 ∷ 0xf40e3585 ∷ 0x106aa070 ∷
    0x19a4c116 ∷ 0x1e376c08 ∷ 0x2748774c ∷ 0x34b0bcb5 ∷ 0x391c0cb3 ∷ 0x4ed8aa4a ∷ 0x5b9cca4f ∷ 0x682e6ff3 ∷
    0x748f82ee ∷ 0x78a5636f ∷ 0x84c87814 ∷ 0x8cc70208 ∷ 0x90befffa ∷ 0xa4506ceb ∷ 0xbef9a3f7 ∷ 0xc67178f2 ∷ []

-- 5.1.1: the bit 1, the least number k of bits 0 for which l + 1 + k is 448 modulo 512, and l, the number of bits of the message, in 64 bits.
-- The message is whole bytes: the bit 1 and seven bits 0 are the byte 128, and k - 7 bits 0 follow.
abbrev pub zero_bits : ℕ → ℕ
zero_bits l = (960 - (l + 1) % 512) % 512

unfoldable pub padded : List ℕ → List ℕ
padded m = m ++ (128 ∷ (replicate ((zero_bits (8 * length m) - 7) / 8) 0 ++ bytes8 (8 * length m)))

-- 5.2.1 and 3.1: the padded message is parsed into blocks of sixteen words. Block i of m is `part 64 m i`, and word t of a block b is
-- `four b (4 * t)`, big-endian.

-- 5.3.3: the initial hash value, the first thirty-two bits of the fractional parts of the square roots of the first eight primes.
abbrev pub H0 : State
H0 =
    record {
      a = 0x6a09e667;
      b = 0xbb67ae85;
      c = 0x3c6ef372;
      d = 0xa54ff53a;
      e = 0x510e527f;
      f = 0x9b05688c;
      g = 0x1f83d9ab;
      h = 0x5be0cd19;
    }

-- 6.2.2, step 1: the message schedule. Its first t words; the next is a word of the block for t below 16, and then
-- σ1 (W (t - 2)) + W (t - 7) + σ0 (W (t - 15)) + W (t - 16).
abbrev pub expanded : List ℕ → ℕ → ℕ
expanded w t = σ1 (slice_index w (t - 2)) ⊞ slice_index_or w (t - 7) 0 ⊞ σ0 (slice_index w (t - 15)) ⊞ slice_index_or w (t - 16) 0

unfoldable pub schedule : List ℕ → ℕ → List ℕ
schedule b zero = []
schedule b (suc t) = schedule b t ++ (cond (nat_lt t 16) (four b (4 * t)) (expanded (schedule b t) t) ∷ [])

-- The word W t of the schedule, for t below 64.
abbrev pub W : List ℕ → ℕ → ℕ
W b t = slice_index (schedule b 64) t

-- Steps 2 and 3: the working variables after t rounds over the block b, from s.
abbrev pub T1 : State → ℕ → ℕ → ℕ
T1 s k w = s.h ⊞ Σ1 s.e ⊞ Ch s.e s.f s.g ⊞ k ⊞ w

abbrev pub T2 : State → ℕ
T2 s = Σ0 s.a ⊞ Maj s.a s.b s.c

unfoldable pub round_of : State → ℕ → ℕ → State
round_of s k w =
    record {
      a = T1 s k w ⊞ T2 s;
      b = s.a;
      c = s.b;
      d = s.c;
      e = s.d ⊞ T1 s k w;
      f = s.e;
      g = s.f;
      h = s.g;
    }

unfoldable pub rounds : List ℕ → State → ℕ → State
rounds b s zero = s
rounds b s (suc t) = round_of (rounds b s t) (slice_index K t) (W b t)

-- Step 4: the next hash value.
unfoldable pub added : State → State → State
added s r =
    record {
      a = r.a ⊞ s.a;
      b = r.b ⊞ s.b;
      c = r.c ⊞ s.c;
      d = r.d ⊞ s.d;
      e = r.e ⊞ s.e;
      f = r.f ⊞ s.f;
      g = r.g ⊞ s.g;
      h = r.h ⊞ s.h;
    }

unfoldable pub compressed : State → List ℕ → State
compressed s b = added s (rounds b s 64)

-- The hash value after i blocks of the padded message m.
unfoldable pub hashed : List ℕ → ℕ → State
hashed m zero = H0
hashed m (suc i) = compressed (hashed m i) (part 64 m i)

-- The eight words of a hash value, end to end.
unfoldable pub bytes_of : State → List ℕ
bytes_of s =
    bytes4 s.a ++
    (bytes4 s.b ++ (bytes4 s.c ++ (bytes4 s.d ++ (bytes4 s.e ++ (bytes4 s.f ++ (bytes4 s.g ++ bytes4 s.h))))))

-- SHA-256 of the message m.
unfoldable pub sha256 : List ℕ → List ℕ
sha256 m = bytes_of (hashed (padded m) (length (padded m) / 64))
