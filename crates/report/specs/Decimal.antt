-- Numbers in decimal.
use Rattle.std.specs.Prelude.{ℕ, ◌^◌, List, ltb}
use Rattle.search.specs.Search.{find}
use Rattle.io.specs.Digits.{last_digits}

-- How many digits a number takes: the fewest that hold it, and one at least.
unfoldable pub width : ℕ → ℕ
width n = find (λ k. ltb n (10 ^ k)) 1 n

-- Its digits in ASCII, the most significant first.
unfoldable pub decimal : ℕ → List ℕ
decimal n = last_digits 10 (width n) n
