-- What is retrieved: bytes of the wanted hash, and what was stored.
use Rattle.std.specs.Prelude.{ℕ, ◌≤◌, List, ◌≡◌, length}
use Rattle.refusal.specs.Answer.{accepted}
use Rattle.sha256.specs.Sha256.{sha256}
use Rattle.store.specs.Place.{place, block_in}
use Rattle.store.specs.Calls.{store, retrieve}
use Rattle.store.specs.Meaning.{LowestHolder, NotHeld}

-- 000, section 3: "RETRIEVE retrieves a block by its collision-resistant cryptographic hash."
abbrev pub RetrievedHash : Type 0
RetrievedHash = (s hash : List ℕ) (room : ℕ) (b : List ℕ) → retrieve s hash room ≡ accepted b → sha256 b ≡ hash

-- After a block is stored, it is retrieved by its hash: itself where the hash was not held before; and otherwise the bytes, of that hash, that the
-- lowest holder held before.
pub record StoredIsRetrieved : Type 0 where
  pub anew :
      (s : List ℕ) (u : ℕ) (b t : List ℕ) (room : ℕ) → store s u b ≡ accepted t → NotHeld s (sha256 b) → length b ≤ room →
      retrieve t (sha256 b) room ≡ accepted b
  pub again :
      (s : List ℕ) (u : ℕ) (b t : List ℕ) (room p : ℕ) → store s u b ≡ accepted t → LowestHolder s (sha256 b) p →
      length (block_in (place s p)) ≤ room →
      (retrieve t (sha256 b) room ≡ accepted (block_in (place s p))) × (sha256 (block_in (place s p)) ≡ sha256 b)
