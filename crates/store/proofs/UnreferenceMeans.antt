-- Unreferencing means what Meaning says: each of its tests decides one condition; at a count of 0 it leaves the store itself, and otherwise the only
-- one with one less and the other bytes that were there.
use Prim.Native.Nat.{ℕ, ◌-◌, ◌<◌}
use mathlib.Core.Bool.{Bool, true, false, cond}
use mathlib.Core.List.{List}
use mathlib.Core.Logic.{inl, inr}
use mathlib.Core.Path.{◌≡◌, refl, ap₂}
use native.Mathlib.Omega.{arith}
use lib.Dec.{eqb}
use lib.ListN.{length}
use borrow.Author.Tests.{eqb-true, eqb-false, eq-eqb, ne_eqb}
use Rattle.refusal.proofs.Means.{Means, Either, Unless, and_then_means, concludes, why_first, why_next, exactly}
use Rattle.store.specs.Place.{store_size, place, count, place_of, recount}
use Rattle.store.specs.Calls.{Unreferenced, unreferenced, unreference_steps, unreference}
use Rattle.store.specs.Meaning.{LowestHolder, HashSizes, Held, User}
use Rattle.store.specs.Meaning.{ToHashSizes, ToUnreferenceFits, UnreferenceConditions, WhyUnreference, Takes, UnreferenceMeans}
use Rattle.store.proofs.Lowest.{holder_at, the_holder}
use Rattle.store.proofs.Changed.{recounted, recounted_once}
use Rattle.store.proofs.Stages.{Unfit, user_stage, places_stage, hash_sizes_stage, held_stage, why_unfit}

both_same : {k : ℕ} {r : List ℕ} (t : Unreferenced) → t.took ≡ k → t.after ≡ r → t ≡ record { took = k; after = r }
both_same t e f = ap₂ (λ (k : ℕ) (r : List ℕ). record { took = k; after = r }) e f

-- One less at a place, or nothing.
module _ (s : List ℕ) (long : length s ≡ store_size) (p : ℕ) (h : p < 64) (u : ℕ) (user : u < 16) where
  abbrev here : ℕ
  here = count (place s p) u

  is_taken :
      (c : Bool) → eqb here 0 ≡ c →
      Takes s p u (cond c (record { took = 0; after = s }) (record { took = 1; after = recount s p u (here - 1) }))
  is_taken true e = Takes.nothing (eqb-true here 0 e) refl refl
  is_taken false e =
      let n : here ≡ 0 → ⊥ = eqb-false here 0 e in
      Takes.one (here - 1) (omega (arith, n)) refl (recounted s long p h u user (here - 1))

  takes : Takes s p u (unreferenced s p u)
  unfolding unreferenced
  takes = is_taken (eqb here 0) refl

  only_taken : (t : Unreferenced) → Takes s p u t → t ≡ unreferenced s p u
  unfolding unreferenced
  only_taken t (Takes.one n e k r) =
      let less : here - 1 ≡ n = omega arith in
      let after : t.after ≡ recount s p u n = recounted_once t.after (recount s p u n) r (recounted s long p h u user n) in
      rw (ne_eqb here 0 (λ z. omega arith), less) (both_same t k after)
  only_taken t (Takes.nothing e k f) = rw (eq-eqb here 0 e) (both_same t k f)

module _ (s : List ℕ) (u : ℕ) (hash : List ℕ) where
  -- Every way to be refused, as the stages give it.
  abbrev Given : ℕ → ℕ → ℕ → Type 0
  Given =
      Either (ToUnreferenceFits s u hash)
      (Either (ToHashSizes s u hash) (Either (User u) (Unless (User u) 1 0 0) (Unless (HashSizes s hash) 2 0 0)) (Unfit s))
      (Unless (Held s hash) 15 0 0)

  stages : Means (unreference s u hash) (unreferenced s (place_of s hash) u) (UnreferenceConditions s u hash) Given
  unfolding unreference unreference_steps
  stages =
      concludes (unreference_steps s u hash)
      (and_then_means _ _
      (and_then_means _ _ (and_then_means _ _ (user_stage u) (λ w. hash_sizes_stage s hash)) (λ w. places_stage s))
      (λ w. held_stage s hash))
      (unreferenced s (place_of s hash) u)

  -- What is taken at the lowest holder.
  abbrev Taken : Unreferenced → Type 0
  Taken t = (p : ℕ) × LowestHolder s hash p × Takes s p u t

  taken_holds : UnreferenceConditions s u hash → Taken (unreferenced s (place_of s hash) u)
  taken_holds w =
      let lowest : LowestHolder s hash (place_of s hash) = the_holder s hash w.1 in
      (place_of s hash, lowest, takes s w.0.0.1.0 (place_of s hash) lowest.within u (omega arith))

  only_at_holder : (t : Unreferenced) → UnreferenceConditions s u hash → Taken t → t ≡ unreferenced s (place_of s hash) u
  only_at_holder t w r =
      rw (holder_at s hash r.1) (only_taken s w.0.0.1.0 r.0 r.1.within u (omega arith) t r.2)

  abbrev Reason : ℕ → ℕ → ℕ → Type 0
  Reason = WhyUnreference s u hash

  why_given : (n p q : ℕ) → Given n p q → Reason n p q
  why_given =
      why_next Reason
      (why_unfit s Reason (why_next Reason (why_first Reason WhyUnreference.no_user) WhyUnreference.lengths) WhyUnreference.unfit)
      WhyUnreference.not_held

  given_why : (n p q : ℕ) → Reason n p q → Given n p q
  given_why n p q (WhyUnreference.no_user f) = inl (inl (inl (f, refl, refl, refl)))
  given_why n p q (WhyUnreference.lengths w f) = inl (inl (inr (w, (f, refl, refl, refl))))
  given_why n p q (WhyUnreference.unfit i w f) = inl (inr (w, (f, refl, refl)))
  given_why n p q (WhyUnreference.not_held w f) = inr (w, (f, refl, refl, refl))

pub unreference_means : UnreferenceMeans
unreference_means s u hash =
    exactly (stages s u hash) (Taken s u hash) (taken_holds s u hash) (only_at_holder s u hash) (why_given s u hash) (given_why s u hash)
