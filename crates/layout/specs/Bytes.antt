-- What the layouts are made of: "Numbers are big-endian", and records, blocks and hashes stand end to end.
use Rattle.std.specs.Prelude.{ℕ, zero, suc, ◌+◌, ◌*◌, ◌/◌, ◌%◌, ◌^◌, List, [], ◌∷◌, ◌++◌, length, get_or, take, drop}

-- The number in the two bytes at a place, in the four, and in the eight. Past the end of the bytes stand zeros.
unfoldable pub two : List ℕ → ℕ → ℕ
two b at = get_or b at 0 * 2 ^ 8 + get_or b (at + 1) 0

unfoldable pub four : List ℕ → ℕ → ℕ
four b at = get_or b at 0 * 2 ^ 24 + get_or b (at + 1) 0 * 2 ^ 16 + get_or b (at + 2) 0 * 2 ^ 8 + get_or b (at + 3) 0

unfoldable pub eight : List ℕ → ℕ → ℕ
eight b at = four b at * 2 ^ 32 + four b (at + 4)

-- The bytes of a number below 2 ^ 16, of one below 2 ^ 32, and of one below 2 ^ 64.
unfoldable pub bytes2 : ℕ → List ℕ
bytes2 x = x / 2 ^ 8 ∷ x % 256 ∷ []

unfoldable pub bytes4 : ℕ → List ℕ
bytes4 x = x / 2 ^ 24 ∷ x / 2 ^ 16 % 256 ∷ x / 2 ^ 8 % 256 ∷ x % 256 ∷ []

unfoldable pub bytes8 : ℕ → List ℕ
bytes8 x = bytes4 (x / 2 ^ 32) ++ bytes4 (x % 2 ^ 32)

-- Bytes cut into parts of n: part i, and the number of whole parts.
abbrev pub part : ℕ → List ℕ → ℕ → List ℕ
part n b i = take n (drop (n * i) b)

abbrev pub parts : ℕ → List ℕ → ℕ
parts n b = length b / n

-- The values of f at the k places from i on.
unfoldable pub values : (ℕ → ℕ) → ℕ → ℕ → List ℕ
values f i zero = []
values f i (suc k) = f i ∷ values f (suc i) k

-- The n bytes from a place on. Past the end of the bytes stand zeros.
abbrev pub bytes_at : List ℕ → ℕ → ℕ → List ℕ
bytes_at b at n = values (λ k. get_or b (at + k) 0) 0 n

-- The bytes b, with others in the place of those from `at` on.
unfoldable pub put_at : List ℕ → ℕ → List ℕ → List ℕ
put_at b at new = take at b ++ (new ++ drop (at + length new) b)
