-- The answers that are due, by the stages of the code: what an admitted call goes on to.
use Prim.Native.Nat.{ℕ, ◌+◌, ◌*◌, ◌≤◌, ◌<◌}
use mathlib.Core.Bool.{Bool, true, false, not, ◌||◌}
use mathlib.Core.List.{List, [], ◌∷◌}
use mathlib.Core.Path.{◌≡◌, refl}
use native.Mathlib.Omega.{arith}
use lib.Dec.{leb, ltb, eqb}
use lib.ListN.{length}
use borrow.Author.Tests.{lt-ltb, le-leb, lt-leb}
use Rattle.refusal.specs.Answer.{Answer, accepted, refused}
use Rattle.refusal.specs.Order.{Step, pass, unless, in_order}
use Rattle.refusal.proofs.Means.{in_append}
use Rattle.sha256.specs.Sha256.{sha256}
use Rattle.store.specs.Place.{store_size, place, count, place_of, is_held, first_free}
use Rattle.store.specs.Calls.{store_steps, stored, store, block_of, retrieve_steps, retrieve, Unreferenced, unreferenced, unreference_steps, unreference}
use Rattle.store.proofs.Places.{number_past}
use Rattle.blockstore.specs.Internal.Stages.{admit_steps, counted_once, filled_free}

-- A test that passes may be left out at the end.
pass_behind : {A : Type 0} (t : Bool) (n p q : ℕ) (a : Answer A) → in_order (unless t n p q ∷ pass ∷ []) a ≡ in_order (unless t n p q ∷ []) a
unfolding in_order
pass_behind true n p q a = refl
pass_behind false n p q a = refl

-- Storing: where the hash is held, and where it is not.
module _ (s : List ℕ) (u : ℕ) (b : List ℕ) where
  abbrev holder : ℕ
  holder = place_of s (sha256 b)

  abbrev later_steps : List Step
  later_steps =
      unless (is_held s (sha256 b) || ltb (first_free s) 64) 13 0 0 ∷ unless (not (eqb (count (place s holder) u) 65535)) 14 0 0 ∷ []

  abbrev later : Answer (List ℕ)
  later = in_order later_steps (accepted (stored s u b))

  pub store_due : store s u b ≡ in_order (admit_steps s u (leb (length b) 8192)) later
  unfolding store store_steps admit_steps
  store_due = in_append (admit_steps s u (leb (length b) 8192)) later_steps (accepted (stored s u b))

  pub held_due : holder < 64 → later ≡ counted_once s holder u
  unfolding stored counted_once in_order
  held_due l = rw (lt-ltb holder 64 l)

  pub free_due : length s ≡ store_size → holder ≡ 64 → later ≡ filled_free s u b
  unfolding stored filled_free
  free_due long e =
      rw (e, number_past s long 64 (omega arith) (2 + 2 * u)) (pass_behind (ltb (first_free s) 64) 13 0 0 _)

-- Retrieving.
module _ (s hash : List ℕ) (room : ℕ) where
  abbrev given_steps : List Step
  given_steps = unless (is_held s hash) 15 0 0 ∷ unless (leb (length (block_of s hash)) room) 12 0 0 ∷ []

  abbrev pub given_block : Answer (List ℕ)
  given_block = in_order given_steps (accepted (block_of s hash))

  pub retrieve_due : retrieve s hash room ≡ in_order (admit_steps s 0 (eqb (length hash) 32)) given_block
  unfolding retrieve retrieve_steps admit_steps in_order
  retrieve_due = in_append (admit_steps s 0 (eqb (length hash) 32)) given_steps (accepted (block_of s hash))

  pub none_given : place_of s hash ≡ 64 → given_block ≡ refused 15 0 0
  unfolding in_order
  none_given e = rw e

  pub no_room_given : place_of s hash < 64 → room < length (block_of s hash) → given_block ≡ refused 12 0 0
  unfolding in_order
  no_room_given l h = rw (lt-ltb (place_of s hash) 64 l, lt-leb (length (block_of s hash)) room h)

  pub block_given : place_of s hash < 64 → length (block_of s hash) ≤ room → given_block ≡ accepted (block_of s hash)
  unfolding in_order
  block_given l h = rw (lt-ltb (place_of s hash) 64 l, le-leb (length (block_of s hash)) room h)

-- Unreferencing.
module _ (s : List ℕ) (u : ℕ) (hash : List ℕ) where
  abbrev taking : Answer Unreferenced
  taking = in_order (unless (is_held s hash) 15 0 0 ∷ []) (accepted (unreferenced s (place_of s hash) u))

  pub unreference_due : unreference s u hash ≡ in_order (admit_steps s u (eqb (length hash) 32)) taking
  unfolding unreference unreference_steps admit_steps
  unreference_due =
      in_append (admit_steps s u (eqb (length hash) 32)) (unless (is_held s hash) 15 0 0 ∷ []) (accepted (unreferenced s (place_of s hash) u))

  pub none_taken : place_of s hash ≡ 64 → taking ≡ refused 15 0 0
  unfolding in_order
  none_taken e = rw e

  pub one_taken : place_of s hash < 64 → taking ≡ accepted (unreferenced s (place_of s hash) u)
  unfolding in_order
  one_taken l = rw (lt-ltb (place_of s hash) 64 l)
