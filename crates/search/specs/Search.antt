-- Searches over places, as tests.
use Rattle.std.specs.Prelude.{ℕ, zero, suc, ◌+◌, Bool, true, false, cond, not, eqb, ltb, Option, None, Some}

-- The first of the k places i, i + 1, .. at which p holds; i + k if there is none.
unfoldable pub find : (ℕ → Bool) → ℕ → ℕ → ℕ
find p i zero = i
find p i (suc k) = elim (p i) [ true ↦ i | false ↦ find p (suc i) k ]

-- The first of the k places i, i + 1, .. at which p holds, if there is one.
abbrev pub first : (ℕ → Bool) → ℕ → ℕ → Option ℕ
first p i k = cond (ltb (find p i k) (i + k)) (Some (find p i k)) None

-- Whether p holds at all of the k places i, i + 1, ...
unfoldable pub every : (ℕ → Bool) → ℕ → ℕ → Bool
every p i k = eqb (find (λ v. not (p v)) i k) (i + k)
