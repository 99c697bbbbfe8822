-- A made store stays sound, since every call keeps that. So no call is refused for a place of it, and a block finds no place exactly where none
-- holds its hash and none is free.
use Prim.Native.Nat.{ℕ, ◌≤◌, ◌<◌}
use mathlib.Core.List.{List}
use mathlib.Core.Logic.{◌↔◌, inl, inr, ⊎_elim}
use mathlib.Core.Path.{◌≡◌}
use lib.ListN.{length}
use Rattle.search.specs.First.{First}
use Rattle.search.proofs.First.{not_holding}
use Rattle.refusal.specs.Answer.{refused}
use Rattle.refusal.proofs.Run.{each_intro}
use Rattle.sha256.specs.Sha256.{sha256}
use Rattle.store.specs.Place.{place, free}
use Rattle.store.specs.Calls.{store}
use Rattle.store.specs.Meaning.{Counted, NotHeld, LengthFits, HasPlace, WhyStore, WhyRetrieve, WhyUnreference}
use Rattle.store.specs.Runs.{StoreCall, store_of, retrieve_of, unreference_of, store_after, RefusedWith, MadeStaysSound}
use Rattle.store.proofs.Lowest.{free_means, not_free, counted_means}
use Rattle.store.proofs.StoreMeans.{store_means}
use Rattle.store.proofs.RetrieveMeans.{retrieve_means}
use Rattle.store.proofs.UnreferenceMeans.{unreference_means}
use Rattle.store.proofs.Kept.{Sound}
use Rattle.store.proofs.After.{after_sound}

-- A refusal with 3 is for the first place that does not fit.
store_unfit : (s : List ℕ) (u : ℕ) (b : List ℕ) (p q : ℕ) → WhyStore s u b 3 p q → First (LengthFits s) 64 p
store_unfit s u b p q (WhyStore.unfit i w f) = f

retrieve_unfit : (s hash : List ℕ) (room p q : ℕ) → WhyRetrieve s hash room 3 p q → First (LengthFits s) 64 p
retrieve_unfit s hash room p q (WhyRetrieve.unfit i w f) = f

unreference_unfit : (s : List ℕ) (u : ℕ) (hash : List ℕ) (p q : ℕ) → WhyUnreference s u hash 3 p q → First (LengthFits s) 64 p
unreference_unfit s u hash p q (WhyUnreference.unfit i w f) = f

refused_unfit : (s : List ℕ) (c : StoreCall) → RefusedWith 3 s c → (p : ℕ) × First (LengthFits s) 64 p
refused_unfit s (store_of u b) r = (r.0, store_unfit s u b r.0 r.1 (((store_means s u b).1 3 r.0 r.1).0 r.2))
refused_unfit s (retrieve_of hash room) r = (
  r.0,
  retrieve_unfit s hash room r.0 r.1 (((retrieve_means s hash room).1 3 r.0 r.1).0 r.2),
)
refused_unfit s (unreference_of u hash) r = (
  r.0,
  unreference_unfit s u hash r.0 r.1 (((unreference_means s u hash).1 3 r.0 r.1).0 r.2),
)

not_three : (s : List ℕ) → Sound s → (c : StoreCall) → RefusedWith 3 s c → ⊥
not_three s w c r = let f = refused_unfit s c r in f.1.fails (w.fits f.0 f.1.within)

-- A refusal with 13 is for want of a place.
no_place : (s : List ℕ) (u : ℕ) (b : List ℕ) → WhyStore s u b 13 0 0 → HasPlace s b → ⊥
no_place s u b (WhyStore.no_place w f) = f

thirteen :
    (s : List ℕ) → Sound s → (u : ℕ) (b : List ℕ) → u ≤ 15 → length b ≤ 8192 →
    (store s u b ≡ refused 13 0 0) ↔ (NotHeld s (sha256 b) × ((p : ℕ) → p < 64 → Counted (place s p)))
thirteen s w u b hu lb = (
  λ e.
      let none : HasPlace s b → ⊥ = no_place s u b (((store_means s u b).1 13 0 0).0 e) in (
        λ p l held. none (p, l, inl held),
        λ p l. (counted_means (place s p)).0 (not_holding (free (place s p)) (λ t. none (p, l, inr ((free_means (place s p)).0 t)))),
      ),
  λ f.
      ((store_means s u b).1 13 0 0).1
      (WhyStore.no_place ((hu, (w.long, lb)), w.fits)
      (λ k. ⊎_elim (f.0 k.0 k.1) (not_free (place s k.0) (f.1 k.0 k.1)) k.2)),
)

pub made_stays_sound : MadeStaysSound
made_stays_sound =
    record {
      stays_long = λ calls. (after_sound calls).long;
      never_three =
          λ calls.
          each_intro (λ earlier c. RefusedWith 3 (store_after earlier) c → ⊥) calls
          (λ earlier c m. not_three (store_after earlier) (after_sound earlier) c);
      no_place_exactly = λ calls. thirteen (store_after calls) (after_sound calls);
    }
