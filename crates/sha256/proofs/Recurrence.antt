-- The schedule as FIPS's recurrence: a longer beginning of the schedule keeps the words of a shorter one, and its
-- last word is the one that step 1 gives.
use Rattle.std.proofs.Common.{◌≡◌, ℕ, zero, suc, ◌+◌, ◌-◌, ◌*◌, ◌<◌, ◌≤◌, cond, ltb, List, [], length, get_or, sym, refl, ◌∙◌, add-zero, add-suc, arith, length-append, le-ltb, lt-ltb}
use lib.ListN.{get_or-append}
use lib.Seq.{get_or_at}
use Rattle.layout.specs.Bytes.{four}
use Rattle.sha256.specs.Sha256.{◌⊞◌, σ0, σ1, expanded, schedule, W}
use Rattle.sha256.specs.Schedule.{Recurrence}

module _ (b : List ℕ) where
  long : (t : ℕ) → length (schedule b t) ≡ t
  unfolding schedule
  long zero = refl
  long (suc t) = simp length-append (omega (arith, long t))

  kept : (t d u : ℕ) → u < t → get_or (schedule b (t + d)) u 0 ≡ get_or (schedule b t) u 0
  unfolding schedule
  kept t zero u h = rw add-zero
  kept t (suc d) u h =
      rw (add-suc t d, get_or-append (schedule b (t + d)) _ 0 u (omega (arith, long (t + d)))) (kept t d u h)

  stands : (t u : ℕ) → u < t → t ≤ 64 → get_or (schedule b t) u 0 ≡ W b u
  stands t u h l = let e : t + (64 - t) ≡ 64 = omega arith in sym (rw e at (kept t (64 - t) u h))

  made : (t : ℕ) → t < 64 → W b t ≡ cond (ltb t 16) (four b (4 * t)) (expanded (schedule b t) t)
  unfolding schedule
  made t h = sym (stands (suc t) t (omega arith) (omega arith)) ∙ get_or_at (schedule b t) _ [] 0 t (long t)

  expands : (t : ℕ) → 16 ≤ t → t < 64 → W b t ≡ σ1 (W b (t - 2)) ⊞ W b (t - 7) ⊞ σ0 (W b (t - 15)) ⊞ W b (t - 16)
  expands t l h =
      made t h
      ∙ rw (
        le-ltb t 16 l,
        stands t (t - 2) (omega arith) (omega arith),
        stands t (t - 7) (omega arith) (omega arith),
        stands t (t - 15) (omega arith) (omega arith),
        stands t (t - 16) (omega arith) (omega arith),
      )

pub recurrence : Recurrence
recurrence b t = (λ h. made b t (omega arith) ∙ rw (lt-ltb t 16 h), expands b t)

-- The word sixteen after W t.
pub sixteen_on :
    (b : List ℕ) (t : ℕ)
    → t < 48
    → W b (t + 16) ≡ σ1 (W b (t + 14)) ⊞ W b (t + 9) ⊞ σ0 (W b (t + 1)) ⊞ W b t
sixteen_on b t h =
    let e2 : t + 16 - 2 ≡ t + 14 = omega arith in
    let e7 : t + 16 - 7 ≡ t + 9 = omega arith in
    let e15 : t + 16 - 15 ≡ t + 1 = omega arith in
    let e16 : t + 16 - 16 ≡ t = omega arith in
    rw (e2, e7, e15, e16) at ((recurrence b (t + 16)).1 (omega arith) (omega arith))
