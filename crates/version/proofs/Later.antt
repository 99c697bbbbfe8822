-- The counts from a user on are 0 exactly where all of their bytes are.
use Prim.Native.Nat.{ℕ, zero, suc, ◌+◌, ◌*◌, ◌-◌, ◌/◌, ◌<◌}
use mathlib.Core.Bool.{Bool, true, false}
use mathlib.Core.List.{List}
use mathlib.Core.Logic.{⊎_elim}
use mathlib.Core.Path.{◌≡◌, refl, sym, ap, ◌∙◌}
use native.Mathlib.Omega.{arith}
use borrow.Author.Tests.{eqb-true, eq-eqb}
use lib.Dec.{eqb}
use lib.ListN.{get_or}
use Rattle.layout.specs.Bytes.{four}
use Rattle.layout.specs.Strings.{zeros}
use Rattle.protocol.specs.Version.{count}
use Rattle.search.specs.Search.{every}
use Rattle.search.proofs.Bool.{bool_cases}
use Rattle.search.proofs.Search.{every_intro, every_at}

same_tests : (a b : Bool) → (a ≡ true → b ≡ true) → (b ≡ true → a ≡ true) → a ≡ b
same_tests true b to from = sym (to refl)
same_tests false b to from = ⊎_elim (λ t. from t ∙ sym t) (λ f. sym f) (bool_cases b)

module _ (b : List ℕ) (at : ℕ) where
  four_zero : ((k : ℕ) → k < 4 → get_or b (at + k) 0 ≡ 0) → four b at ≡ 0
  unfolding four
  four_zero z =
      let e : at + 0 ≡ at = omega arith in
      let p : get_or b at 0 ≡ 0 = ap (λ i. get_or b i 0) (sym e) ∙ z 0 (omega arith) in
      let q = z 1 (omega arith) in
      let r = z 2 (omega arith) in
      let s = z 3 (omega arith) in
      omega (arith, p, q, r, s)

  byte_zero : four b at ≡ 0 → (k : ℕ) → k < 4 → get_or b (at + k) 0 ≡ 0
  unfolding four
  byte_zero z zero l = let e : at + 0 ≡ at = omega arith in ap (λ i. get_or b i 0) e ∙ omega arith
  byte_zero z (suc zero) l = omega arith
  byte_zero z (suc (suc zero)) l = omega arith
  byte_zero z (suc (suc (suc zero))) l = omega arith
  byte_zero z (suc (suc (suc (suc k)))) l = absurd (omega arith)

module _ (x : List ℕ) (N : ℕ) where
  counts_zero : zeros x (34 + 4 * N) (98 - (34 + 4 * N)) ≡ true → every (λ v. eqb (count x v) 0) N (16 - N) ≡ true
  unfolding zeros
  counts_zero z =
      every_intro _ N (16 - N) (λ v a b.
      eq-eqb _ 0 (four_zero x (34 + 4 * v) (λ k l.
      eqb-true _ 0 (every_at (λ j. eqb (get_or x j 0) 0) _ _ z (34 + 4 * v + k) (omega arith) (omega arith)))))

  bytes_zero : every (λ v. eqb (count x v) 0) N (16 - N) ≡ true → zeros x (34 + 4 * N) (98 - (34 + 4 * N)) ≡ true
  unfolding zeros
  bytes_zero e =
      every_intro _ _ _ (λ j a b.
      let v : ℕ = (j - 34) / 4 in
      let z = eqb-true _ 0 (every_at (λ v. eqb (count x v) 0) N (16 - N) e v (omega arith) (omega arith)) in
      let i : j ≡ 34 + 4 * v + (j - (34 + 4 * v)) = omega arith in
      eq-eqb _ 0 (ap (λ i. get_or x i 0) i ∙ byte_zero x (34 + 4 * v) z (j - (34 + 4 * v)) (omega arith)))

  pub none_later : zeros x (34 + 4 * N) (98 - (34 + 4 * N)) ≡ every (λ v. eqb (count x v) 0) N (16 - N)
  none_later = same_tests _ _ counts_zero bytes_zero
