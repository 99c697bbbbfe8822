-- After a block is stored, it is retrieved by its hash: the place where it was put, or where one more counts it, is then the lowest that holds the
-- hash.
use Prim.Native.Nat.{ℕ, ◌≤◌}
use mathlib.Core.List.{List}
use mathlib.Core.Logic.{⊎_elim}
use mathlib.Core.Path.{◌≡◌, sym, ap, ◌∙◌}
use lib.ListN.{length}
use Rattle.refusal.specs.Answer.{accepted}
use Rattle.sha256.specs.Sha256.{sha256}
use Rattle.sha256.proofs.Laws.{sha256_length}
use Rattle.store.specs.Place.{place, block_in}
use Rattle.store.specs.Calls.{retrieve}
use Rattle.store.specs.Retrieved.{StoredIsRetrieved}
use Rattle.store.proofs.Lowest.{holder_at}
use Rattle.store.proofs.Accepted.{StoreAccepted, store_accepted, retrieves}

retrieved :
    {s : List ℕ} {u : ℕ} {b t : List ℕ} (a : StoreAccepted s u b t) (c : List ℕ) → block_in (place t a.at) ≡ c →
    (room : ℕ) → length c ≤ room → retrieve t (sha256 b) room ≡ accepted c
retrieved {b = b} {t = t} a c e room k =
    rw e at (retrieves t a.sound (sha256 b) (sha256_length b) a.at a.held room (rw e k))

pub stored_is_retrieved : StoredIsRetrieved
stored_is_retrieved =
    record {
      anew =
          λ s u b t room e none k.
          let a = store_accepted s u b t e in
          ⊎_elim (λ w. absurd (none a.at w.0.within w.0.here)) (λ w. retrieved a b w.1 room k) a.block;
      again =
          λ s u b t room p e held k.
          let a = store_accepted s u b t e in
          let there =
          ⊎_elim
          (λ w.
          let same : a.at ≡ p = sym (holder_at s (sha256 b) w.0) ∙ holder_at s (sha256 b) held in
          w.1 ∙ ap (λ q. block_in (place s q)) same)
          (λ w. absurd (w.0 p held.within held.here)) a.block
          in
          (retrieved a (block_in (place s p)) there room k, held.here.hashed);
    }
