-- Retrieving means what Meaning says: each of its tests decides one condition, and bytes that are those from a block's first one on, as many as its
-- length says, are the block.
use Prim.Native.Nat.{ℕ, ◌+◌, ◌*◌, ◌<◌}
use mathlib.Core.Bool.{true}
use mathlib.Core.List.{List}
use mathlib.Core.Logic.{◌↔◌, inl, inr}
use mathlib.Core.Path.{◌≡◌, refl, sym, ap, ◌∙◌}
use native.Mathlib.Omega.{arith}
use lib.Dec.{leb}
use lib.ListN.{length, get_or, drop, length-drop}
use lib.Seq.{length-take-le, get_or-take, get_or-drop, ext_get_or}
use borrow.Author.Tests.{leb-true, le-leb}
use Rattle.refusal.proofs.Means.{Means, Either, Unless, and_then_means, test_means, concludes, why_first, why_next, exactly}
use Rattle.store.specs.Place.{place_size, store_size, place, block_length, block_in, place_of}
use Rattle.store.specs.Calls.{block_of, retrieve_steps, retrieve}
use Rattle.store.specs.Meaning.{LowestHolder, LengthFits, block_at, HashSizes, Held, Room, BlockAt}
use Rattle.store.specs.Meaning.{ToRetrieveFits, ToRetrieveHeld, RetrieveConditions, WhyRetrieve, RetrieveMeans}
use Rattle.store.proofs.Places.{place_length, place_byte}
use Rattle.store.proofs.Lowest.{holder_at, the_holder}
use Rattle.store.proofs.Stages.{Unfit, places_stage, hash_sizes_stage, held_stage, why_unfit}

-- The block of a place that fits.
module _ (s : List ℕ) (long : length s ≡ store_size) (p : ℕ) (h : p < 64) (fits : LengthFits s p) where
  block_long : length (block_in (place s p)) ≡ block_length (place s p)
  block_long =
      length-take-le (block_length (place s p)) (drop 34 (place s p)) (simp (length-drop, place_length s long p h) (omega arith))

  pub block_is : BlockAt s p (block_in (place s p))
  block_is =
      record {
        long = block_long;
        bytes = λ i l.
            let k : i < block_length (place s p) = omega (arith, block_long) in
            let e : place_size * p + (34 + i) ≡ block_at p + i = omega arith in
            get_or-take (block_length (place s p)) (drop 34 (place s p)) i 0 k ∙
            (get_or-drop 34 (place s p) i 0 ∙ (place_byte s p (34 + i) (omega arith) ∙ ap (λ j. get_or s j 0) e));
      }

  pub only_block : (b : List ℕ) → BlockAt s p b → b ≡ block_in (place s p)
  only_block b w =
      let l : length b ≡ length (block_in (place s p)) = w.long ∙ sym block_long in
      ext_get_or 0 b (block_in (place s p)) l (λ i k. w.bytes i k ∙ sym (block_is.bytes i (omega arith)))

module _ (s hash : List ℕ) (room : ℕ) where
  room_means : ToRetrieveHeld s hash → (leb (length (block_of s hash)) room ≡ true) ↔ Room s hash room
  room_means w =
      let lowest : LowestHolder s hash (place_of s hash) = the_holder s hash w.1 in
      let e = block_long s w.0.0.0 (place_of s hash) lowest.within (w.0.1 (place_of s hash) lowest.within) in (
        λ t p f. rw (holder_at s hash f) at (rw e at (leb-true (length (block_of s hash)) room t)),
        λ f. le-leb (length (block_of s hash)) room (rw e (f (place_of s hash) lowest)),
      )

  -- Every way to be refused, as the stages give it.
  abbrev Given : ℕ → ℕ → ℕ → Type 0
  Given =
      Either (ToRetrieveHeld s hash)
      (Either (ToRetrieveFits s hash) (Either (HashSizes s hash) (Unless (HashSizes s hash) 2 0 0) (Unfit s)) (Unless (Held s hash) 15 0 0))
      (Unless (Room s hash room) 12 0 0)

  stages : Means (retrieve s hash room) (block_of s hash) (RetrieveConditions s hash room) Given
  unfolding retrieve retrieve_steps
  stages =
      concludes (retrieve_steps s hash room)
      (and_then_means _ _
      (and_then_means _ _ (and_then_means _ _ (hash_sizes_stage s hash) (λ w. places_stage s)) (λ w. held_stage s hash))
      (λ w. test_means (leb (length (block_of s hash)) room) 12 0 0 (room_means w)))
      (block_of s hash)

  -- The block at the lowest holder.
  abbrev Retrieved : List ℕ → Type 0
  Retrieved b = (p : ℕ) × LowestHolder s hash p × BlockAt s p b

  retrieved_holds : RetrieveConditions s hash room → Retrieved (block_of s hash)
  retrieved_holds w =
      let lowest : LowestHolder s hash (place_of s hash) = the_holder s hash w.0.1 in
      let l : place_of s hash < 64 = lowest.within in
      (place_of s hash, lowest, block_is s w.0.0.0.0 (place_of s hash) l (w.0.0.1 (place_of s hash) l))

  only_retrieved : (b : List ℕ) → RetrieveConditions s hash room → Retrieved b → b ≡ block_of s hash
  only_retrieved b w r =
      rw (holder_at s hash r.1) (only_block s w.0.0.0.0 r.0 r.1.within (w.0.0.1 r.0 r.1.within) b r.2)

  abbrev Reason : ℕ → ℕ → ℕ → Type 0
  Reason = WhyRetrieve s hash room

  why_given : (n p q : ℕ) → Given n p q → Reason n p q
  why_given =
      why_next Reason
      (why_next Reason (why_unfit s Reason (why_first Reason WhyRetrieve.lengths) WhyRetrieve.unfit) WhyRetrieve.not_held)
      WhyRetrieve.no_room

  given_why : (n p q : ℕ) → Reason n p q → Given n p q
  given_why n p q (WhyRetrieve.lengths f) = inl (inl (inl (f, refl, refl, refl)))
  given_why n p q (WhyRetrieve.unfit i w f) = inl (inl (inr (w, (f, refl, refl))))
  given_why n p q (WhyRetrieve.not_held w f) = inl (inr (w, (f, refl, refl, refl)))
  given_why n p q (WhyRetrieve.no_room w f) = inr (w, (f, refl, refl, refl))

pub retrieve_means : RetrieveMeans
retrieve_means s hash room =
    exactly (stages s hash room) (Retrieved s hash room) (retrieved_holds s hash room) (only_retrieved s hash room) (why_given s hash room)
    (given_why s hash room)
