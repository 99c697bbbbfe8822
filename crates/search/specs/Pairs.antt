-- Searches over pairs of places i below j, j at most n.
use Rattle.std.specs.Prelude.{ℕ, ◌+◌, ◌-◌, Bool, not}
use Rattle.search.specs.Search.{find, every}

-- Whether R holds of i and each j above it.
abbrev pub with_all : (ℕ → ℕ → Bool) → ℕ → ℕ → Bool
with_all R n i = every (R i) (i + 1) (n - i)

-- Whether R holds of all pairs.
unfoldable pub every_pair : (ℕ → ℕ → Bool) → ℕ → Bool
every_pair R n = every (with_all R n) 0 n

-- The first pair of which R does not hold: the least i, then the least j.
unfoldable pub first_low : (ℕ → ℕ → Bool) → ℕ → ℕ
first_low R n = find (λ i. not (with_all R n i)) 0 n

unfoldable pub first_high : (ℕ → ℕ → Bool) → ℕ → ℕ
first_high R n = find (λ j. not (R (first_low R n) j)) (first_low R n + 1) (n - first_low R n)
