-- Laws of first places: there is one at most, and the search finds it.
use Prim.Native.Nat.{ℕ, ◌<◌}
use mathlib.Core.Bool.{Bool, true, false, not}
use mathlib.Core.Logic.{⊎_elim}
use mathlib.Core.Path.{◌≡◌}
use native.Mathlib.Decide.{dec_lt}
use native.Mathlib.Omega.{arith}
use borrow.Author.Tests.{not-false}
use Rattle.search.specs.Search.{find, every}
use Rattle.search.specs.First.{First}
use Rattle.search.proofs.Bool.{not_both, bool_cases}
use Rattle.search.proofs.Search.{Found, found, every_fails, first_failure}

pub not_holding : (b : Bool) → (b ≡ true → ⊥) → b ≡ false
not_holding b n = ⊎_elim (λ t. absurd (n t)) (λ f. f) (bool_cases b)

pub first_unique : {P : ℕ → Type 0} {k i j : ℕ} → First P k i → First P k j → i ≡ j
first_unique {P} {k} {i} {j} f g =
    elim (dec_lt i j) [
      | yes l ↦ absurd (f.fails (g.before i l))
      | no l ↦ elim (dec_lt j i) [ yes m ↦ absurd (g.fails (f.before j m)) | no m ↦ omega arith ]
    ]

-- What holds of the same places fails first at the same one.
pub first_same :
    {P Q : ℕ → Type 0} {k i : ℕ} → ((j : ℕ) → j < k → P j → Q j) → ((j : ℕ) → j < k → Q j → P j) → First P k i → First Q k i
first_same {i = i} to from f =
    record {
      within = f.within;
      before = λ j l. to j (omega (arith, f.within)) (f.before j l);
      fails = λ q. f.fails (from i f.within q);
    }

pub first_found : (t : ℕ → Bool) (k : ℕ) → every t 0 k ≡ false → First (λ i. t i ≡ true) k (find (λ i. not (t i)) 0 k)
first_found t k e =
    let p = first_failure t 0 k e in
    let f : Found (λ i. not (t i)) 0 k (find (λ i. not (t i)) 0 k) = found (λ i. not (t i)) 0 k in
    record {
      within = omega (arith, p.0);
      before = λ j l. not-false (t j) (f.before j (omega arith) l);
      fails = λ h. not_both h p.1;
    }

-- The first place at which the test fails is the one that the search finds.
pub first_at : (t : ℕ → Bool) (k : ℕ) {i : ℕ} → First (λ j. t j ≡ true) k i → (every t 0 k ≡ false) × (find (λ j. not (t j)) 0 k ≡ i)
first_at t k {i} f =
    let e : every t 0 k ≡ false = every_fails t 0 k i (omega arith) (omega (arith, f.within)) (not_holding (t i) f.fails) in
    (e, first_unique (first_found t k e) f)
