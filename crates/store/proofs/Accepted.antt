-- What an accepted store leaves, as whole places, and when a call of a sound store is accepted: it's what the calls mean, where each changed store
-- is the one with other bytes at one place.
use Prim.Native.Nat.{ℕ, ◌+◌, ◌≤◌, ◌<◌}
use mathlib.Core.List.{List}
use mathlib.Core.Logic.{◌⊎◌, inl, inr}
use mathlib.Core.Path.{◌≡◌, refl, ap, ◌∙◌}
use native.Mathlib.Omega.{arith}
use lib.ListN.{length}
use Rattle.refusal.specs.Answer.{accepted}
use Rattle.sha256.specs.Sha256.{sha256}
use Rattle.store.specs.Place.{place, block_length, count, block_in, with_block, with_place, recount}
use Rattle.store.specs.Calls.{store, retrieve, unreference}
use Rattle.store.specs.Meaning.{Free, Lowest, LowestHolder, NotHeld, Stored, Takes}
use Rattle.store.proofs.Lowest.{holder_at}
use Rattle.store.proofs.Changed.{recounted, recounted_once, filled, filled_once}
use Rattle.store.proofs.StoreMeans.{store_means}
use Rattle.store.proofs.RetrieveMeans.{block_is, retrieve_means}
use Rattle.store.proofs.UnreferenceMeans.{unreference_means}
use Rattle.store.proofs.Kept.{Sound, OneMore, holds_there}
use Rattle.store.proofs.OneCount.{recount_sound, recount_more, block_kept, filled_sound, filled_more, block_new}

-- An accepted store leaves one more of that user at a place, the lowest that then holds the hash: with the block that the lowest holder held, or
-- with the new one, where the hash was not held.
pub record StoreAccepted (s : List ℕ) (u : ℕ) (b t : List ℕ) : Type 0 where
  pub at : ℕ
  pub sound : Sound t
  pub more : OneMore at u s t
  pub held : LowestHolder t (sha256 b) at
  pub block :
      (LowestHolder s (sha256 b) at × (block_in (place t at) ≡ block_in (place s at))) ⊎
      (NotHeld s (sha256 b) × (block_in (place t at) ≡ b))

store_leaves :
    (s : List ℕ) → Sound s → (u : ℕ) → u < 16 → (b : List ℕ) → length b ≤ 8192 → (t : List ℕ) → Stored s u b t → StoreAccepted s u b t
store_leaves s w u hu b lb t (Stored.again p held r) =
    let h : p < 64 = held.within in
    let n : ℕ = count (place s p) u + 1 in
    let more : OneMore p u s (recount s p u n) = recount_more s w p h u hu n refl in
    let kept : block_in (place (recount s p u n) p) ≡ block_in (place s p) = block_kept s w p h u hu n in
    rw (recounted_once t (recount s p u n) r (recounted s w.long p h u hu n))
    (record {
      at = p;
      sound = recount_sound s w p h u hu n;
      more = more;
      held = holds_there more (sha256 b) (ap sha256 kept ∙ held.here.hashed) held.none_below;
      block = inl (held, kept);
    })
store_leaves s w u hu b lb t (Stored.anew none p free r) =
    let h : p < 64 = free.within in
    let new : List ℕ = with_place s p (with_block (place s p) u b) in
    let more : OneMore p u s new = filled_more s w p h u hu b lb (free.here u hu) in
    let put : block_in (place new p) ≡ b = block_new s w p h u hu b lb in
    rw (filled_once t new r (filled s w.long p h u hu b lb))
    (record {
      at = p;
      sound = filled_sound s w p h u hu b lb;
      more = more;
      held = holds_there more (sha256 b) (ap sha256 put) (λ q l. none q (omega arith));
      block = inr (none, put);
    })

pub store_accepted : (s : List ℕ) (u : ℕ) (b t : List ℕ) → store s u b ≡ accepted t → StoreAccepted s u b t
store_accepted s u b t e =
    let m = ((store_means s u b).0 t).0 e in
    let fits = m.0.0.0 in
    let sizes = fits.0.1 in
    store_leaves s (record { long = sizes.0; fits = fits.1 }) u (omega (arith, fits.0.0)) b sizes.1 t m.1

-- When a call of a sound store is accepted.
module _ (s : List ℕ) (w : Sound s) where
  module _ (u : ℕ) (hu : u ≤ 15) (b : List ℕ) (lb : length b ≤ 8192) (p : ℕ) where
    pub stores_again :
        LowestHolder s (sha256 b) p → (count (place s p) u ≡ 65535 → ⊥) →
        store s u b ≡ accepted (recount s p u (count (place s p) u + 1))
    stores_again held k =
        let n : ℕ = count (place s p) u + 1 in
        let only : (q : ℕ) → LowestHolder s (sha256 b) q → count (place s q) u ≡ 65535 → ⊥ =
        λ q other. rw (← holder_at s (sha256 b) held, holder_at s (sha256 b) other) at k in
        ((store_means s u b).0 (recount s p u n)).1 (
          ((((hu, (w.long, lb)), w.fits), (p, held.within, inl held.here)), only),
          Stored.again p held (recounted s w.long p held.within u (omega arith) n),
        )

    pub stores_anew :
        NotHeld s (sha256 b) → Lowest (λ q. Free (place s q)) p → store s u b ≡ accepted (with_place s p (with_block (place s p) u b))
    stores_anew none free =
        ((store_means s u b).0 (with_place s p (with_block (place s p) u b))).1 (
          ((((hu, (w.long, lb)), w.fits), (p, free.within, inr free.here)), λ q held _. none q held.within held.here),
          Stored.anew none p free (filled s w.long p free.within u (omega arith) b lb),
        )

  module _ (hash : List ℕ) (lh : length hash ≡ 32) (p : ℕ) (held : LowestHolder s hash p) where
    pub retrieves : (room : ℕ) → length (block_in (place s p)) ≤ room → retrieve s hash room ≡ accepted (block_in (place s p))
    retrieves room k =
        let b = block_is s w.long p held.within (w.fits p held.within) in
        let l : block_length (place s p) ≤ room = omega (arith, b.long) in
        let fits : (q : ℕ) → LowestHolder s hash q → block_length (place s q) ≤ room =
        λ q other. rw (← holder_at s hash held, holder_at s hash other) at l in
        ((retrieve_means s hash room).0 (block_in (place s p))).1 (
          ((((w.long, lh), w.fits), (p, held.within, held.here)), fits),
          (p, held, b),
        )

    pub unreferences :
        (u n : ℕ) → u ≤ 15 → count (place s p) u ≡ n + 1 → unreference s u hash ≡ accepted (record { took = 1; after = recount s p u n })
    unreferences u n hu e =
        ((unreference_means s u hash).0 (record { took = 1; after = recount s p u n })).1 (
          (((hu, (w.long, lh)), w.fits), (p, held.within, held.here)),
          (p, held, Takes.one n e refl (recounted s w.long p held.within u (omega arith) n)),
        )
