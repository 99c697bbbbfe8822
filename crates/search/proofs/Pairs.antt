-- Laws of the searches over pairs: a test over all pairs is fixed by each pair, and the first pair at which it fails is the only one with
-- that property.
use Prim.Native.Nat.{ℕ, ◌+◌, ◌-◌, ◌≤◌, ◌<◌}
use mathlib.Core.Bool.{Bool, true, false, not}
use mathlib.Core.Path.{◌≡◌}
use native.Mathlib.Decide.{dec_lt}
use native.Mathlib.Omega.{arith}
use borrow.Author.Tests.{not-false}
use Rattle.search.specs.Search.{find}
use Rattle.search.specs.First.{FirstPair}
use Rattle.search.specs.Pairs.{with_all, every_pair, first_low, first_high}
use Rattle.search.proofs.Bool.{not_both}
use Rattle.search.proofs.First.{not_holding}
use Rattle.search.proofs.Search.{Found, found, every_intro, every_at, first_failure}

module _ (R : ℕ → ℕ → Bool) (n : ℕ) where
  pub pairs_at : every_pair R n ≡ true → (i j : ℕ) → i < j → j ≤ n → R i j ≡ true
  unfolding every_pair
  pairs_at e i j l h =
      every_at (R i) (i + 1) (n - i) (every_at (with_all R n) 0 n e i (omega arith) (omega arith)) j (omega arith) (omega arith)

  pub pairs_intro : ((i j : ℕ) → i < j → j ≤ n → R i j ≡ true) → every_pair R n ≡ true
  unfolding every_pair
  pairs_intro f =
      every_intro (with_all R n) 0 n
      (λ i a b. every_intro (R i) (i + 1) (n - i) (λ j c d. f i j (omega arith) (omega arith)))

  -- Where R does not hold of all pairs, the search finds the first at which it fails.
  pub first_pair : every_pair R n ≡ false → FirstPair (λ i j. R i j ≡ true) n (first_low R n) (first_high R n)
  unfolding every_pair first_low first_high
  first_pair e =
      let i : ℕ = find (λ v. not (with_all R n v)) 0 n in
      let p = first_failure (with_all R n) 0 n e in
      let q = first_failure (R i) (i + 1) (n - i) p.1 in
      let f : Found (λ v. not (with_all R n v)) 0 n i = found (λ v. not (with_all R n v)) 0 n in
      let j : ℕ = find (λ v. not (R i v)) (i + 1) (n - i) in
      let g : Found (λ v. not (R i v)) (i + 1) (n - i) j = found (λ v. not (R i v)) (i + 1) (n - i) in
      record {
        below = omega (arith, g.from);
        within = omega (arith, p.0, q.0);
        lower = λ k l a b c.
            every_at (R k) (k + 1) (n - k) (not-false (with_all R n k) (f.before k (omega arith) a)) l (omega arith) (omega (arith, p.0));
        nearer = λ l a b. not-false (R i l) (g.before l (omega arith) b);
        fails = λ h. not_both h q.1;
      }

module _ {P : ℕ → ℕ → Type 0} {n : ℕ} where
  pub first_pair_unique : {i j k l : ℕ} → FirstPair P n i j → FirstPair P n k l → (i ≡ k) × (j ≡ l)
  first_pair_unique {i} {j} {k} {l} f g =
      let e : i ≡ k =
      elim (dec_lt i k) [
        | yes a ↦ absurd (f.fails (g.lower i j a f.below f.within))
        | no a ↦ elim (dec_lt k i) [ yes b ↦ absurd (g.fails (f.lower k l b g.below g.within)) | no b ↦ omega arith ]
      ]
      in (
        e,
        elim (dec_lt j l) [
          | yes a ↦ absurd (f.fails (rw e (g.nearer j (rw (← e) f.below) a)))
          | no a ↦
              elim (dec_lt l j) [
                | yes b ↦ absurd (g.fails (rw (← e) (f.nearer l (rw e g.below) b)))
                | no b ↦ omega arith
              ]
        ],
      )

  -- What holds of the same pairs fails first at the same one.
  pub first_pair_same :
      {Q : ℕ → ℕ → Type 0} {i j : ℕ} → ((k l : ℕ) → k < l → l ≤ n → P k l → Q k l) → ((k l : ℕ) → k < l → l ≤ n → Q k l → P k l) →
      FirstPair P n i j → FirstPair Q n i j
  first_pair_same {i = i} {j = j} to from f =
      record {
        below = f.below;
        within = f.within;
        lower = λ k l a b c. to k l b c (f.lower k l a b c);
        nearer = λ l a b. to i l a (omega (arith, f.within)) (f.nearer l a b);
        fails = λ q. f.fails (from i j f.below f.within q);
      }

-- The first pair at which the test fails is the one that the search finds.
pub first_pair_at :
    (R : ℕ → ℕ → Bool) (n : ℕ) {i j : ℕ} → FirstPair (λ k l. R k l ≡ true) n i j →
    (every_pair R n ≡ false) × (first_low R n ≡ i) × (first_high R n ≡ j)
first_pair_at R n {i} {j} f =
    let e : every_pair R n ≡ false = not_holding (every_pair R n) (λ t. f.fails (pairs_at R n t i j f.below f.within)) in
    let u = first_pair_unique (first_pair R n e) f in (e, u.0, u.1)
