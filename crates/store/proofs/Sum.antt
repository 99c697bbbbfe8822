-- Laws of sums: what is the same at every index has the same sum, and one more at one index makes one more in all.
use Prim.Native.Nat.{ℕ, zero, suc, ◌+◌, ◌<◌}
use mathlib.Core.Logic.{⊎_elim}
use mathlib.Core.Path.{◌≡◌, refl, ap}
use native.Mathlib.Nat.{eq-or-lt_of_le}
use native.Mathlib.Omega.{arith}
use Rattle.store.specs.Runs.{sum}

-- Nothing at every index.
pub sum_none : (f : ℕ → ℕ) (k : ℕ) → ((i : ℕ) → i < k → f i ≡ 0) → sum f k ≡ 0
unfolding sum
sum_none f zero e = refl
sum_none f (suc k) e = omega (arith, e k (omega arith), sum_none f k (λ i l. e i (omega arith)))

pub sum_at : (f : ℕ → ℕ) (k : ℕ) → sum f k ≡ 0 → (i : ℕ) → i < k → f i ≡ 0
unfolding sum
sum_at f zero e i l = absurd (omega arith)
sum_at f (suc k) e i l =
    ⊎_elim (λ q. omega (arith, ap f q)) (λ m. sum_at f k (omega arith) i m) (eq-or-lt_of_le {n = i} {m = k} (omega arith))

module _ (f g : ℕ → ℕ) where
  sum_same : (k : ℕ) → ((i : ℕ) → i < k → f i ≡ g i) → sum f k ≡ sum g k
  unfolding sum
  sum_same zero e = refl
  sum_same (suc k) e = omega (arith, e k (omega arith), sum_same k (λ i l. e i (omega arith)))

  module _ (o : ℕ) (more : f o ≡ g o + 1) where
    pub sum_more : (k : ℕ) → o < k → ((i : ℕ) → i < k → (i ≡ o → ⊥) → f i ≡ g i) → sum f k ≡ sum g k + 1
    unfolding sum
    sum_more zero l e = absurd (omega arith)
    sum_more (suc k) l e =
        ⊎_elim
        (λ q. omega (arith, ap f q, ap g q, sum_same k (λ i m. e i (omega arith) (λ r. omega arith))))
        (λ m. omega (arith, e k (omega arith) (λ r. omega arith), sum_more k m (λ i n d. e i (omega arith) d)))
        (eq-or-lt_of_le {n = o} {m = k} (omega arith))
