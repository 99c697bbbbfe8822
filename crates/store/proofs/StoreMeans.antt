-- Storing means what Meaning says: each of its tests decides one condition, and the store that it leaves is the only one with the new count, or the
-- new block, and otherwise the bytes that were there.
use Prim.Native.Nat.{ℕ, ◌+◌, ◌*◌, ◌<◌}
use mathlib.Core.Bool.{Bool, true, false, not, cond, ◌||◌}
use mathlib.Core.List.{List, [], ◌∷◌}
use mathlib.Core.Logic.{◌↔◌, inl, inr, ⊎_elim}
use mathlib.Core.Path.{◌≡◌, refl, ap}
use native.Mathlib.Decide.{dec_lt}
use native.Mathlib.Omega.{arith}
use lib.Dec.{leb, ltb, eqb}
use lib.ListN.{length}
use borrow.Author.Tests.{eqb-true, eqb-false, eq-eqb, ne_eqb, leb-true, le-leb, ltb-true, lt-ltb, not-true}
use Rattle.search.proofs.Bool.{not_both, either_true, left_true, right_true}
use Rattle.search.proofs.First.{not_holding}
use Rattle.refusal.proofs.Means.{Means, Stage, Either, Unless, alike, and_then_means, tests_mean, test_means, concludes, why_first, why_next, exactly}
use Rattle.sha256.specs.Sha256.{sha256}
use Rattle.store.specs.Place.{store_size, place, count, place_of, is_held, first_free, with_block, with_place, recount}
use Rattle.store.specs.Calls.{stored, store_steps, store}
use Rattle.store.specs.Meaning.{NotHeld, User, StoreSizes, HasPlace, NotLast, Recounted, Filled}
use Rattle.store.specs.Meaning.{ToStoreSizes, ToStoreFits, ToHasPlace, StoreConditions, WhyStore, Stored, StoreMeans}
use Rattle.store.proofs.Places.{number_past}
use Rattle.store.proofs.Lowest.{holder_found, holder_at, not_found, held_means, free_found, free_at, some_free}
use Rattle.store.proofs.Changed.{recounted, recounted_once, filled, filled_once}
use Rattle.store.proofs.Stages.{Unfit, user_stage, places_stage, why_unfit}

module _ (s : List ℕ) (u : ℕ) (b : List ℕ) where
  abbrev hash : List ℕ
  hash = sha256 b

  sizes_stage : Stage (alike (eqb (length s) store_size ∷ leb (length b) 8192 ∷ []) 2 0 0) (StoreSizes s b) (Unless (StoreSizes s b) 2 0 0)
  sizes_stage =
      tests_mean (eqb (length s) store_size ∷ leb (length b) 8192 ∷ []) 2 0 0
      (λ t. (eqb-true (length s) store_size t.0, leb-true (length b) 8192 t.1.0))
      (λ w. (eq-eqb (length s) store_size w.0, (le-leb (length b) 8192 w.1, tt)))

  has_place : ((is_held s hash || ltb (first_free s) 64) ≡ true) ↔ HasPlace s b
  has_place = (
    λ e.
        ⊎_elim (λ h. let w = (held_means s hash).0 h in (w.0, w.1, inl w.2))
        (λ f. let w = (some_free s).0 f in (w.0, w.1, inr w.2))
        (either_true (is_held s hash) (ltb (first_free s) 64) e),
    λ w.
        ⊎_elim (λ h. left_true (is_held s hash) (ltb (first_free s) 64) ((held_means s hash).1 (w.0, w.1, h)))
        (λ f. right_true (is_held s hash) (ltb (first_free s) 64) ((some_free s).1 (w.0, w.1, f))) w.2,
  )

  -- Where the hash is not held, the count that is tested stands past the end.
  abbrev held_count : ℕ
  held_count = count (place s (place_of s hash)) u

  not_last : length s ≡ store_size → (not (eqb held_count 65535) ≡ true) ↔ NotLast s u b
  not_last long = (
    λ e p w z. eqb-false held_count 65535 (not-true (eqb held_count 65535) e) (rw (holder_at s hash w) z),
    λ f.
        ap not
        (ne_eqb held_count 65535
        (λ z.
        elim (dec_lt (place_of s hash) 64) [
          | yes l ↦ f (place_of s hash) (holder_found s hash l) z
          | no g ↦ absurd (omega (arith, z, number_past s long (place_of s hash) (omega arith) (2 + 2 * u)))
        ])),
  )

  -- Every way to be refused, as the stages give it.
  abbrev Given : ℕ → ℕ → ℕ → Type 0
  Given =
      Either (ToHasPlace s u b)
      (Either (ToStoreFits s u b)
      (Either (ToStoreSizes s u b) (Either (User u) (Unless (User u) 1 0 0) (Unless (StoreSizes s b) 2 0 0)) (Unfit s))
      (Unless (HasPlace s b) 13 0 0))
      (Unless (NotLast s u b) 14 0 0)

  stages : Means (store s u b) (stored s u b) (StoreConditions s u b) Given
  unfolding store store_steps
  stages =
      concludes (store_steps s u b)
      (and_then_means _ _
      (and_then_means _ _
      (and_then_means _ _ (and_then_means _ _ (user_stage u) (λ w. sizes_stage)) (λ w. places_stage s))
      (λ w. test_means (is_held s hash || ltb (first_free s) 64) 13 0 0 has_place))
      (λ w. test_means (not (eqb held_count 65535)) 14 0 0 (not_last w.0.0.1.0)))
      (stored s u b)

  -- A free place, where none holds the hash.
  free_place : NotHeld s hash → HasPlace s b → first_free s < 64
  free_place n w =
      ltb-true (first_free s) 64
      ((some_free s).1 (w.0, w.1, ⊎_elim (λ h. absurd (n w.0 w.1 h)) (λ f. f) w.2))

  is_stored :
      (c : Bool) → is_held s hash ≡ c → StoreConditions s u b →
      Stored s u b
      (cond c (recount s (place_of s hash) u (held_count + 1)) (with_place s (first_free s) (with_block (place s (first_free s)) u b)))
  is_stored true e w =
      let l : place_of s hash < 64 = ltb-true (place_of s hash) 64 e in
      Stored.again (place_of s hash) (holder_found s hash l) (recounted s w.0.0.0.1.0 (place_of s hash) l u (omega arith) (held_count + 1))
  is_stored false e w =
      let n : NotHeld s hash = not_found s hash (λ l. not_both (lt-ltb (place_of s hash) 64 l) e) in
      let l : first_free s < 64 = free_place n w.0.1 in
      Stored.anew n (first_free s) (free_found s l)
      (filled s w.0.0.0.1.0 (first_free s) l u (omega arith) b w.0.0.0.1.1)

  stored_holds : StoreConditions s u b → Stored s u b (stored s u b)
  unfolding stored
  stored_holds = is_stored (is_held s hash) refl

  only_stored : (t : List ℕ) → StoreConditions s u b → Stored s u b t → t ≡ stored s u b
  unfolding stored
  only_stored t w (Stored.again p h r) =
      let n : ℕ = count (place s p) u + 1 in
      let again : Recounted s p u n (recount s p u n) = recounted s w.0.0.0.1.0 p h.within u (omega arith) n in
      rw (holder_at s hash h, lt-ltb p 64 h.within) (recounted_once t (recount s p u n) r again)
  only_stored t w (Stored.anew n p f r) =
      let x : List ℕ = with_place s p (with_block (place s p) u b) in
      let anew : Filled s p u b x = filled s w.0.0.0.1.0 p f.within u (omega arith) b w.0.0.0.1.1 in
      let e : is_held s hash ≡ false =
      not_holding (is_held s hash) (λ t. let k = (held_means s hash).0 t in n k.0 k.1 k.2) in
      rw (e, free_at s f) (filled_once t x r anew)

  abbrev Reason : ℕ → ℕ → ℕ → Type 0
  Reason = WhyStore s u b

  why_given : (n p q : ℕ) → Given n p q → Reason n p q
  why_given =
      why_next Reason
      (why_next Reason
      (why_unfit s Reason (why_next Reason (why_first Reason WhyStore.no_user) WhyStore.lengths) WhyStore.unfit)
      WhyStore.no_place)
      WhyStore.last_reference

  given_why : (n p q : ℕ) → Reason n p q → Given n p q
  given_why n p q (WhyStore.no_user f) = inl (inl (inl (inl (f, refl, refl, refl))))
  given_why n p q (WhyStore.lengths w f) = inl (inl (inl (inr (w, (f, refl, refl, refl)))))
  given_why n p q (WhyStore.unfit i w f) = inl (inl (inr (w, (f, refl, refl))))
  given_why n p q (WhyStore.no_place w f) = inl (inr (w, (f, refl, refl, refl)))
  given_why n p q (WhyStore.last_reference w f) = inr (w, (f, refl, refl, refl))

pub store_means : StoreMeans
store_means s u b = exactly (stages s u b) (Stored s u b) (stored_holds s u b) (only_stored s u b) (why_given s u b) (given_why s u b)
