-- Laws of the first place as an `Option`: what the code of a search returns, and what its caller then knows.
use Prim.Native.Nat.{ℕ, ◌+◌, ◌≤◌, ◌<◌}
use mathlib.Core.Bool.{Bool, true, false, cond}
use mathlib.Core.Path.{◌≡◌, refl, sym}
use native.Mathlib.Omega.{arith}
use Rattle.std.specs.Prelude.{Option, None, Some, MatchOption, ltb}
use Rattle.std.proofs.lemmas.Bool.{lt-ltb, le-ltb, ltb-true, ltb-false}
use Rattle.std.proofs.lemmas.Option.{cond_some, none-some}
use Rattle.search.specs.Search.{find, first}
use Rattle.search.proofs.Search.{found, find_at, find_none}

module _ (p : ℕ → Bool) (i k : ℕ) where
  none_by : (b : Bool) → ltb (find p i k) (i + k) ≡ b → cond b (Some (find p i k)) None ≡ None → find p i k ≡ i + k
  none_by true t e = absurd (none-some _ (sym e))
  none_by false t e = let w = (found p i k).within in let l = ltb-false _ _ t in omega (arith, w, l)

  -- The search gives place r, where p holds and nowhere before.
  pub first_at : (r : ℕ) → i ≤ r → r < i + k → ((j : ℕ) → i ≤ j → j < r → p j ≡ false) → p r ≡ true → first p i k ≡ Some r
  first_at r h l b e = let f = find_at p i k r h l b e in rw (f, lt-ltb r (i + k) l) refl

  -- The search gives nothing.
  pub first_none : ((j : ℕ) → i ≤ j → j < i + k → p j ≡ false) → first p i k ≡ None
  first_none b = rw (find_none p i k b, le-ltb (i + k) (i + k) (omega arith)) refl

  -- A place that was given is the one that is found, and p holds there.
  pub was_first : {r : ℕ} → first p i k ≡ Some r → (find p i k ≡ r) × (r < i + k)
  was_first e =
      let c = cond_some _ _ _ e in (c.1, rw (← c.1) (ltb-true _ _ c.0))

  pub was_none : first p i k ≡ None → find p i k ≡ i + k
  was_none e = none_by (ltb (find p i k) (i + k)) refl e

-- From place 0 on, as the library says it of `find` over a range.
pub first_is :
    (p : ℕ → Bool) (n : ℕ) {u : ℕ} → u ≡ n → (r : Option ℕ) →
    MatchOption r ((k : ℕ) → 0 ≤ k → k < u → p k ≡ false)
    (λ i. (0 ≤ i) × (i < u) × (p i ≡ true) × ((k : ℕ) → 0 ≤ k → k < i → p k ≡ false)) → r ≡ first p 0 n
first_is p n e None h = sym (first_none p 0 n (λ j a l. h j a (omega arith)))
first_is p n e (Some i) h = sym (first_at p 0 n i (omega arith) (omega (arith, h.1)) (λ j a l. h.3 j a l) h.2)
