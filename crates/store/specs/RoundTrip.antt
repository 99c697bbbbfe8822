-- A block is stored, retrieved, shared and given back, whatever it is and whoever the two users are; so that what is said of stores is said of some.
use Rattle.std.specs.Prelude.{ℕ, ◌≤◌, List, ◌≡◌, length}
use Rattle.refusal.specs.Answer.{accepted}
use Rattle.sha256.specs.Sha256.{sha256}
use Rattle.store.specs.Place.{place, made, count, place_of, first_free}
use Rattle.store.specs.Calls.{store, retrieve, unreference}

-- User u stores the block b in a made store, and user w after u: each of the four stores, `alone` after the first call, `shared`, `left` after u
-- unreferences it, and `empty` after w does.
pub record Trip (u w : ℕ) (b : List ℕ) : Type 0 where
  pub alone : List ℕ
  pub shared : List ℕ
  pub left : List ℕ
  pub empty : List ℕ
  -- It is accepted at place 0, and retrieved.
  pub stores : store made u b ≡ accepted alone
  pub lowest : place_of alone (sha256 b) ≡ 0
  pub retrieves : (room : ℕ) → length b ≤ room → retrieve alone (sha256 b) room ≡ accepted b
  -- The other user shares it: at the same place, where each counts one, and no second place is taken.
  pub shares : store alone w b ≡ accepted shared
  pub still_lowest : place_of shared (sha256 b) ≡ 0
  pub counts_first : count (place shared 0) u ≡ 1
  pub counts_second : count (place shared 0) w ≡ 1
  pub next_free : first_free shared ≡ 1
  -- Unreferencing takes one, and one more.
  pub takes : unreference shared u (sha256 b) ≡ accepted (record { took = 1; after = left })
  pub takes_again : unreference left w (sha256 b) ≡ accepted (record { took = 1; after = empty })
  -- Then nothing is held, of any hash, and the lowest free place is 0 again.
  pub holds_nothing : (hash : List ℕ) → place_of empty hash ≡ 64
  pub first_again : first_free empty ≡ 0

abbrev pub RoundTrip : Type 0
RoundTrip = (u w : ℕ) (b : List ℕ) → u ≤ 15 → w ≤ 15 → (u ≡ w → ⊥) → length b ≤ 8192 → Trip u w b
