-- The sum of counts is the number of accepted stores less that of unreferences that took one: a made store counts nothing, and each call changes
-- the sum by what it adds to the two numbers.
use mathlib.Core.List.{[], ◌∷◌}
use mathlib.Core.Path.{◌≡◌}
use native.Mathlib.Omega.{arith}
use Rattle.refusal.specs.Run.{state_after}
use Rattle.store.specs.Place.{place, made, count}
use Rattle.store.specs.Runs.{
  store_of,
  retrieve_of,
  unreference_of,
  store_after,
  accepted_stores,
  taken_references,
  counts_of,
  references,
  ReferencesCounted,
}
use Rattle.store.proofs.Sum.{sum_none}
use Rattle.store.proofs.Kept.{made_free}
use Rattle.store.proofs.After.{after_sound, store_after_is, unreference_after}

pub made_counts : references made ≡ 0
made_counts =
    sum_none (λ p. counts_of (place made p)) 64 (λ p l. sum_none (count (place made p)) 16 (made_free p l))

pub references_counted : ReferencesCounted
unfolding state_after accepted_stores taken_references
references_counted [] = omega (arith, made_counts)
references_counted (store_of u b ∷ earlier) =
    omega (arith, (store_after_is (store_after earlier) (after_sound earlier) u b).counted, references_counted earlier)
references_counted (retrieve_of hash room ∷ earlier) = references_counted earlier
references_counted (unreference_of u hash ∷ earlier) =
    omega (arith, (unreference_after (store_after earlier) (after_sound earlier) u hash).counted, references_counted earlier)
