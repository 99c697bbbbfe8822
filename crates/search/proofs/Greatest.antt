-- Of some things, any two of which are ordered, one is at or after all.
use Prim.Native.Nat.{ℕ, zero, suc, ◌+◌, ◌<◌}
use mathlib.Core.Logic.{◌⊎◌, ⊎_elim}
use mathlib.Core.Path.{◌≡◌}
use native.Mathlib.Omega.{arith}
use Rattle.search.proofs.Search.{span_more}

module _ (Before : ℕ → ℕ → Type 0) (itself : (i : ℕ) → Before i i) (through : (i j k : ℕ) → Before i j → Before j k → Before i k) where
  pub greatest :
      (n : ℕ) → ((i j : ℕ) → i < j → j < n + 1 → Before i j ⊎ Before j i) → (g : ℕ) × (g < n + 1) × ((i : ℕ) → i < n + 1 → Before i g)
  greatest zero ordered = (0, omega arith, λ i l. let e : i ≡ 0 = omega arith in rw e (itself 0))
  greatest (suc n) ordered =
      let g = greatest n (λ i j m k. ordered i j m (omega arith)) in
      let all : (k : ℕ) → ((i : ℕ) → i < suc n → Before i k) → Before (suc n) k → (i : ℕ) → i < suc n + 1 → Before i k =
      λ k h b i l. span_more {P = λ i. Before i k} 0 (suc n) (λ i z m. h i m) b i (omega arith) l
      in
      ⊎_elim (λ b. (suc n, omega arith, all (suc n) (λ i m. through i g.0 (suc n) (g.2 i (omega arith)) b) (itself (suc n))))
      (λ b. (g.0, omega (arith, g.1), all g.0 (λ i m. g.2 i (omega arith)) b)) (ordered g.0 (suc n) (omega (arith, g.1)) (omega arith))
