-- The calls by their stages: an admission that refuses is the call's refusal, and after one that passes the call is what is left to do.
use Prim.Native.Nat.{ℕ, ◌≤◌, ◌<◌}
use mathlib.Core.Bool.{Bool}
use mathlib.Core.List.{List}
use mathlib.Core.Path.{◌≡◌, sym, ap, ◌∙◌}
use lib.Dec.{leb, eqb}
use lib.ListN.{length}
use Rattle.std.specs.Prelude.{Result, Ok, Err, None, Some}
use Rattle.search.specs.Search.{first}
use Rattle.search.proofs.Place.{was_first, was_none}
use Rattle.refusal.specs.Answer.{accepted}
use Rattle.refusal.specs.Order.{tried}
use Rattle.refusal.specs.Refusal.{refusal, said}
use Rattle.refusal.specs.Result.{Gives}
use Rattle.refusal.specs.declared.Refusal.{Refusal}
use Rattle.refusal.specs.declared.Refusal.TheVariants.{NoRoom, NotHeld}
use Rattle.refusal.proofs.Stage.{stage_passed, stage_refused}
use Rattle.sha256.specs.Sha256.{sha256}
use Rattle.store.specs.Place.{place, block_in, free, holds, place_of, first_free}
use Rattle.store.specs.Calls.{store, block_of, retrieve, unreferenced, unreference}
use Rattle.blockstore.specs.Internal.Stages.{admit_steps, counted_once, filled_free}
use Rattle.blockstore.proofs.Admitted.{admitted}
use Rattle.blockstore.proofs.Due.{store_due, held_due, free_due, given_block, retrieve_due, none_given, no_room_given, block_given}
use Rattle.blockstore.proofs.Due.{unreference_due, none_taken, one_taken}

-- The searches of the code are the definitions', which give 64 for no place.
module _ (s hash : List ℕ) where
  abbrev pub holding : ℕ → Bool
  holding p = holds (place s p) hash

  pub held_at : {p : ℕ} → first holding 0 64 ≡ Some p → (place_of s hash ≡ p) × (p < 64)
  unfolding place_of
  held_at e = was_first holding 0 64 e

  pub held_nowhere : first holding 0 64 ≡ None → place_of s hash ≡ 64
  unfolding place_of
  held_nowhere e = was_none holding 0 64 e

module _ (s : List ℕ) where
  abbrev pub freed : ℕ → Bool
  freed p = free (place s p)

  pub free_at : {p : ℕ} → first freed 0 64 ≡ Some p → (first_free s ≡ p) × (p < 64)
  unfolding first_free
  free_at e = was_first freed 0 64 e

  pub free_nowhere : first freed 0 64 ≡ None → first_free s ≡ 64
  unfolding first_free
  free_nowhere e = was_none freed 0 64 e

-- Storing.
module _ (s : List ℕ) (u : ℕ) (b : List ℕ) (c : Result Unit Refusal) (e : said c ≡ tried (admit_steps s u (leb (length b) 8192))) where
  pub store_refused : {r : Refusal} → c ≡ Err r → store s u b ≡ refusal r
  store_refused q = store_due s u b ∙ stage_refused (admit_steps s u (leb (length b) 8192)) c e _ q

  module _ {v : Unit {0}} (q : c ≡ Ok v) (hash : List ℕ) (h : hash ≡ sha256 b) where
    pub store_counted :
        {p : ℕ} → first (holding s hash) 0 64 ≡ Some p → {t : List ℕ} {r : Result Unit Refusal} → Gives (counted_once s p u) s t r →
        Gives (store s u b) s t r
    store_counted f g =
        let w = held_at s (sha256 b) (rw (← h) f) in
        rw (store_due s u b ∙ (stage_passed (admit_steps s u (leb (length b) 8192)) c e _ q ∙ held_due s u b (rw w.0 w.1)), w.0) g

    pub store_filled :
        first (holding s hash) 0 64 ≡ None → {t : List ℕ} {r : Result Unit Refusal} → Gives (filled_free s u b) s t r →
        Gives (store s u b) s t r
    store_filled f g =
        let k = held_nowhere s (sha256 b) (rw (← h) f) in
        let a = admitted s u (leb (length b) 8192) c e q in
        rw (store_due s u b ∙ (stage_passed (admit_steps s u (leb (length b) 8192)) c e _ q ∙ free_due s u b a.long k)) g

-- Retrieving.
module _ (s hash : List ℕ) (room : ℕ) (c : Result Unit Refusal) (e : said c ≡ tried (admit_steps s 0 (eqb (length hash) 32))) where
  pub retrieve_refused : {r : Refusal} → c ≡ Err r → retrieve s hash room ≡ refusal r
  retrieve_refused q = retrieve_due s hash room ∙ stage_refused (admit_steps s 0 (eqb (length hash) 32)) c e _ q

  module _ {v : Unit {0}} (q : c ≡ Ok v) where
    retrieve_later : retrieve s hash room ≡ given_block s hash room
    retrieve_later = retrieve_due s hash room ∙ stage_passed (admit_steps s 0 (eqb (length hash) 32)) c e _ q

    pub retrieve_none : first (holding s hash) 0 64 ≡ None → retrieve s hash room ≡ refusal NotHeld
    retrieve_none f = retrieve_later ∙ none_given s hash room (held_nowhere s hash f)

    module _ {p : ℕ} (f : first (holding s hash) 0 64 ≡ Some p) (b : List ℕ) (h : b ≡ block_in (place s p)) where
      below : place_of s hash < 64
      below = let w = held_at s hash f in rw w.0 w.1

      same_block : b ≡ block_of s hash
      same_block = h ∙ ap (λ q. block_in (place s q)) (sym (held_at s hash f).0)

      pub retrieve_no_room : room < length b → retrieve s hash room ≡ refusal NoRoom
      retrieve_no_room k = retrieve_later ∙ no_room_given s hash room below (rw (← same_block) k)

      pub retrieve_block : length b ≤ room → retrieve s hash room ≡ accepted b
      retrieve_block k = retrieve_later ∙ (block_given s hash room below (rw (← same_block) k) ∙ ap accepted (sym same_block))

-- Unreferencing.
module _ (s : List ℕ) (u : ℕ) (hash : List ℕ) (c : Result Unit Refusal) (e : said c ≡ tried (admit_steps s u (eqb (length hash) 32))) where
  pub unreference_refused : {r : Refusal} → c ≡ Err r → unreference s u hash ≡ refusal r
  unreference_refused q = unreference_due s u hash ∙ stage_refused (admit_steps s u (eqb (length hash) 32)) c e _ q

  module _ {v : Unit {0}} (q : c ≡ Ok v) where
    pub unreference_none : first (holding s hash) 0 64 ≡ None → unreference s u hash ≡ refusal NotHeld
    unreference_none f =
        unreference_due s u hash ∙ (stage_passed (admit_steps s u (eqb (length hash) 32)) c e _ q ∙ none_taken s u hash (held_nowhere s hash f))

    pub unreference_one : {p : ℕ} → first (holding s hash) 0 64 ≡ Some p → unreference s u hash ≡ accepted (unreferenced s p u)
    unreference_one f =
        let w = held_at s hash f in
        unreference_due s u hash ∙
        (stage_passed (admit_steps s u (eqb (length hash) 32)) c e _ q ∙ (one_taken s u hash (rw w.0 w.1) ∙ ap (λ q. accepted (unreferenced s q u)) w.0))
