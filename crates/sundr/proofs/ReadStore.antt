-- The answers of a block store are read back: no position is above 63, no block is longer than its place, and one reference is taken at most.
use Prim.Native.Nat.{ℕ, ◌*◌, ◌≤◌}
use mathlib.Core.Bool.{not, ◌||◌}
use mathlib.Core.List.{List, [], ◌∷◌}
use mathlib.Core.Logic.{⊎_elim}
use mathlib.Core.Path.{refl}
use native.Mathlib.Omega.{arith}
use lib.Dec.{leb, ltb, eqb}
use lib.ListN.{length, drop, length-take, length-drop}
use Rattle.search.proofs.Bool.{bool_cases}
use Rattle.refusal.specs.Answer.{accepted}
use Rattle.refusal.specs.Order.{unless}
use Rattle.sha256.specs.Sha256.{sha256}
use Rattle.store.specs.Place.{place_size, store_size, place, made, block_length, count, place_of, is_held, first_free}
use Rattle.store.specs.Calls.{user_step, store_step, hash_step, places_step, make, store_steps, stored, store, block_of, retrieve_steps, retrieve}
use Rattle.store.specs.Calls.{Unreferenced, unreferenced, unreference_steps, unreference}
use Rattle.sundr.specs.Read.{IsRead, IsReadPlain}
use Rattle.sundr.proofs.Fits.{FitsStep, small_fits, each_fits, result_read, in_order_read, plain_read}

user_fits : (u : ℕ) → FitsStep (user_step u)
user_fits u = small_fits (leb u 15) 1 0 refl

store_fits : (s : List ℕ) → FitsStep (store_step s)
store_fits s = small_fits (eqb (length s) store_size) 2 0 refl

hash_fits : (hash : List ℕ) → FitsStep (hash_step hash)
hash_fits hash = small_fits (eqb (length hash) 32) 2 0 refl

places_fit : (s : List ℕ) → FitsStep (places_step s)
places_fit s = each_fits (λ p. leb (block_length (place s p)) 8192) 64 3 (omega arith) (omega arith) (omega arith)

held_fits : (s hash : List ℕ) → FitsStep (unless (is_held s hash) 15 0 0)
held_fits s hash = small_fits (is_held s hash) 15 0 refl

pub make_store_read : (s : List ℕ) → IsReadPlain (make s)
unfolding make
make_store_read s = plain_read (store_step s ∷ []) made (store_fits s, tt)

pub store_read : (s : List ℕ) (u : ℕ) (b : List ℕ) → IsReadPlain (store s u b)
unfolding store store_steps
store_read s u b =
    plain_read (store_steps s u b) (stored s u b) (
      user_fits u,
      (
        store_fits s,
        (
          small_fits (leb (length b) 8192) 2 0 refl,
          (
            places_fit s,
            (
              small_fits (is_held s (sha256 b) || ltb (first_free s) 64) 13 0 refl,
              (small_fits (not (eqb (count (place s (place_of s (sha256 b))) u) 65535)) 14 0 refl, tt),
            ),
          ),
        ),
      ),
    )

-- A block is part of its place.
short : (s hash : List ℕ) → length (block_of s hash) ≤ place_size
short s hash =
    let p : ℕ = place_of s hash in
    omega (
      arith,
      length-take (block_length (place s p)) (drop 34 (place s p)),
      length-drop 34 (place s p),
      length-take place_size (drop (place_size * p) s),
    )

pub retrieve_read : (s hash : List ℕ) (room : ℕ) → IsRead length (λ b. 0) (retrieve s hash room)
unfolding retrieve retrieve_steps
retrieve_read s hash room =
    in_order_read length (λ b. 0) (retrieve_steps s hash room) (accepted (block_of s hash)) (
      store_fits s,
      (
        hash_fits hash,
        (places_fit s, (held_fits s hash, (small_fits (leb (length (block_of s hash)) room) 12 0 refl, tt))),
      ),
    )
    (λ t. result_read length (λ b. 0) (block_of s hash) (omega (arith, short s hash)) (omega arith))

few : (s : List ℕ) (p u : ℕ) → (unreferenced s p u).took ≤ 1
unfolding unreferenced
few s p u = ⊎_elim (λ e. rw e (omega arith)) (λ e. rw e (omega arith)) (bool_cases (eqb (count (place s p) u) 0))

pub unreference_read : (s : List ℕ) (u : ℕ) (hash : List ℕ) → IsRead (λ (t : Unreferenced). t.took) (λ t. 0) (unreference s u hash)
unfolding unreference unreference_steps
unreference_read s u hash =
    in_order_read (λ (t : Unreferenced). t.took) (λ t. 0) (unreference_steps s u hash) (accepted (unreferenced s (place_of s hash) u)) (
      user_fits u,
      (store_fits s, (hash_fits hash, (places_fit s, (held_fits s hash, tt)))),
    )
    (λ t.
    result_read (λ (t : Unreferenced). t.took) (λ t. 0) (unreferenced s (place_of s hash) u) (omega (arith, few s (place_of s hash) u)) (omega arith))
