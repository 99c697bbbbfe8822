-- The calls of a block store: 000, section 3, "three RPCs, STORE, RETRIEVE, and UNREFERENCE", and making one. For every store, also one that no call
-- made.
use Rattle.std.specs.Prelude.{ℕ, ◌+◌, ◌-◌, not, cond, ◌||◌, List, [], ◌∷◌, ◌++◌, leb, ltb, eqb, length, drop}
use Rattle.refusal.specs.Answer.{Answer, accepted, and_then}
use Rattle.refusal.specs.Order.{Step, unless, unless_each, in_order}
use Rattle.sha256.specs.Sha256.{sha256}
use Rattle.store.specs.Place.{store_size, place, made, block_length, count, block_in, place_of, is_held, first_free, with_block, with_place, recount}

-- "Refusals, in order: 1 for a user above 15; 2; 3 for a place whose length is over 8,192, lowest first": also for a free one.
abbrev pub user_step : ℕ → Step
user_step u = unless (leb u 15) 1 0 0

abbrev pub store_step : List ℕ → Step
store_step s = unless (eqb (length s) store_size) 2 0 0

abbrev pub hash_step : List ℕ → Step
hash_step hash = unless (eqb (length hash) 32) 2 0 0

abbrev pub places_step : List ℕ → Step
places_step s = unless_each (λ p. leb (block_length (place s p)) 8192) 64 3

-- Making one, in the bytes that are lent for it.
unfoldable pub make : List ℕ → Answer (List ℕ)
make s = in_order (store_step s ∷ []) (accepted made)

-- "Storing a block of 0 to 8,192 bytes whose hash is held adds one to that user's count; otherwise it takes the lowest free place with that user's
-- count 1."
unfoldable pub stored : List ℕ → ℕ → List ℕ → List ℕ
stored s u b =
    cond (is_held s (sha256 b))
    (recount s (place_of s (sha256 b)) u (count (place s (place_of s (sha256 b))) u + 1))
    (with_place s (first_free s) (with_block (place s (first_free s)) u b))

-- "13 no free place when one is needed; 14 storing at count 65,535": of a hash that is not held, place 64 is meant, past the end, where all counts
-- are 0.
unfoldable pub store_steps : List ℕ → ℕ → List ℕ → List Step
store_steps s u b =
    user_step u ∷
    store_step s ∷
    unless (leb (length b) 8192) 2 0 0 ∷
    places_step s ∷
    unless (is_held s (sha256 b) || ltb (first_free s) 64) 13 0 0 ∷
    unless (not (eqb (count (place s (place_of s (sha256 b))) u) 65535)) 14 0 0 ∷ []

-- The store after it.
unfoldable pub store : List ℕ → ℕ → List ℕ → Answer (List ℕ)
store s u b = in_order (store_steps s u b) (accepted (stored s u b))

-- "Retrieving copies out by hash to the front of a buffer and gives the length": the block, for a buffer of this length, and the bytes of the buffer.
-- "15 hash not held (retrieving, unreferencing); 12".
abbrev pub block_of : List ℕ → List ℕ → List ℕ
block_of s hash = block_in (place s (place_of s hash))

unfoldable pub retrieve_steps : List ℕ → List ℕ → ℕ → List Step
retrieve_steps s hash room =
    store_step s ∷
    hash_step hash ∷
    places_step s ∷ unless (is_held s hash) 15 0 0 ∷ unless (leb (length (block_of s hash)) room) 12 0 0 ∷ []

unfoldable pub retrieve : List ℕ → List ℕ → ℕ → Answer (List ℕ)
retrieve s hash room = in_order (retrieve_steps s hash room) (accepted (block_of s hash))

unfoldable pub retrieve_into : List ℕ → List ℕ → List ℕ → Answer (List ℕ)
retrieve_into s hash buffer =
    and_then (retrieve s hash (length buffer)) (λ b. accepted (b ++ drop (length b) buffer))

-- "Unreferencing takes one from the user's count, or does nothing at zero": how many it takes, and the store after it.
pub record Unreferenced : Type 0 where
  pub took : ℕ
  pub after : List ℕ

unfoldable pub unreferenced : List ℕ → ℕ → ℕ → Unreferenced
unreferenced s p u =
    cond (eqb (count (place s p) u) 0) (record { took = 0; after = s })
    (record { took = 1; after = recount s p u (count (place s p) u - 1) })

unfoldable pub unreference_steps : List ℕ → ℕ → List ℕ → List Step
unreference_steps s u hash =
    user_step u ∷ store_step s ∷ hash_step hash ∷ places_step s ∷ unless (is_held s hash) 15 0 0 ∷ []

unfoldable pub unreference : List ℕ → ℕ → List ℕ → Answer Unreferenced
unreference s u hash = in_order (unreference_steps s u hash) (accepted (unreferenced s (place_of s hash) u))

-- The store that it leaves, where it's accepted.
abbrev pub after_unreference : List ℕ → ℕ → List ℕ → Answer (List ℕ)
after_unreference s u hash = and_then (unreference s u hash) (λ t. accepted t.after)
