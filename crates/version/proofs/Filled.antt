-- An array that is made by a function of the place holds the function's values.
use Prim.Native.Nat.{ℕ, zero, suc, ◌+◌, ◌≤◌, ◌<◌}
use mathlib.Core.List.{List}
use mathlib.Core.Logic.{⊎_elim}
use mathlib.Core.Path.{◌≡◌, sym, subst, ◌∙◌}
use native.Mathlib.Nat.{eq-or-lt_of_le}
use native.Mathlib.Omega.{arith}
use denote.Param.Members.{Mut}
use lib.ListN.{get_or}
use lib.Seq.{ext_get_or}
use Rattle.std.specs.Fn.{Called}
use Rattle.std.specs.Array.{IsFromFnResult, IsFromFnResultFrom}
use Rattle.layout.specs.Bytes.{values}
use Rattle.layout.proofs.Values.{length_values, value_at}

module _
    {F : Type 0} (g : Mut F (ℕ × Unit {0}) ℕ) (f : ℕ → ℕ) (c : F)
    (gives : (k y : ℕ) (q : F) → Called g c (k, tt) y q → (q ≡ c) × (y ≡ f k)) (ys : List ℕ) where
  from_fn_at : (i n : ℕ) → IsFromFnResultFrom g c ys i n → (k : ℕ) → i ≤ k → k < i + n → get_or ys k 0 ≡ f k
  from_fn_at i zero h k l m = absurd (omega arith)
  from_fn_at i (suc n) (q, y, e, call, rest) k l m =
      let s = gives i y q call in
      ⊎_elim (λ z. rw (← z) (e.1 0 ∙ s.1))
      (λ z. from_fn_at (i + 1) n (subst (λ p. IsFromFnResultFrom g p ys (i + 1) n) s.0 rest) k (omega arith) (omega arith))
      (eq-or-lt_of_le {n = i} {m = k} l)

  pub from_fn_values : (n : ℕ) → IsFromFnResult g c ys n → ys ≡ values f 0 n
  from_fn_values n r =
      ext_get_or 0 _ _ (r.long ∙ sym (length_values f 0 n))
      (λ i l.
      let k : i < n = omega (arith, r.long) in from_fn_at 0 n r.each i (omega arith) (omega arith) ∙ sym (value_at f n i k))
