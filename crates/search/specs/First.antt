-- The first place, and the first pair of places, at which a property fails.
use Rattle.std.specs.Prelude.{ℕ, ◌≤◌, ◌<◌}

-- Of the places below k, i is the first at which P fails.
pub record First (P : ℕ → Type 0) (k i : ℕ) : Type 0 where
  pub within : i < k
  pub before : (j : ℕ) → j < i → P j
  pub fails : P i → ⊥

-- Of the pairs i below j, j at most n, this is the first at which P fails: the least i, then the least j.
pub record FirstPair (P : ℕ → ℕ → Type 0) (n i j : ℕ) : Type 0 where
  pub below : i < j
  pub within : j ≤ n
  pub lower : (k l : ℕ) → k < i → k < l → l ≤ n → P k l
  pub nearer : (l : ℕ) → i < l → l < j → P i l
  pub fails : P i j → ⊥
