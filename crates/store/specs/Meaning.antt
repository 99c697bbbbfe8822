-- What the calls of a block store mean, with no test and no search: each condition that a call judges, in its order, each way to be refused, and each
-- byte that it leaves.
use Rattle.std.specs.Prelude.{ℕ, ◌+◌, ◌*◌, ◌/◌, ◌%◌, ◌≤◌, ◌<◌, List, ◌⊎◌, ◌↔◌, ◌≡◌, length, get_or}
use Rattle.search.specs.First.{First}
use Rattle.refusal.specs.Answer.{accepted, refused}
use Rattle.sha256.specs.Sha256.{sha256}
use Rattle.store.specs.Place.{place_size, store_size, place, block_length, count, block_in}
use Rattle.store.specs.Calls.{make, store, retrieve, retrieve_into, Unreferenced, unreference}

-- Somebody counts the place, or nobody does: then it is free.
abbrev pub Counted : List ℕ → Type 0
Counted x = (v : ℕ) × (v < 16) × (count x v ≡ 0 → ⊥)

abbrev pub Free : List ℕ → Type 0
Free x = (v : ℕ) → v < 16 → count x v ≡ 0

-- A place that holds a hash.
pub record Holds (x hash : List ℕ) : Type 0 where
  pub counted : Counted x
  pub hashed : sha256 (block_in x) ≡ hash

-- p is the lowest of the 64 places of which P holds.
pub record Lowest (P : ℕ → Type 0) (p : ℕ) : Type 0 where
  pub within : p < 64
  pub here : P p
  pub none_below : (q : ℕ) → q < p → P q → ⊥

abbrev pub LowestHolder : List ℕ → List ℕ → ℕ → Type 0
LowestHolder s hash = Lowest (λ p. Holds (place s p) hash)

abbrev pub NotHeld : List ℕ → List ℕ → Type 0
NotHeld s hash = (p : ℕ) → p < 64 → Holds (place s p) hash → ⊥

abbrev pub Held : List ℕ → List ℕ → Type 0
Held s hash = (p : ℕ) × (p < 64) × Holds (place s p) hash

-- 3, at place p: its length is at most 8,192.
abbrev pub LengthFits : List ℕ → ℕ → Type 0
LengthFits s p = block_length (place s p) ≤ 8192

abbrev pub AllFit : List ℕ → Type 0
AllFit s = (p : ℕ) → p < 64 → LengthFits s p

-- Byte i is none of the n from a place on.
abbrev pub Outside : ℕ → ℕ → ℕ → Type 0
Outside at n i = (i < at) ⊎ (at + n ≤ i)

-- Making: 526,464 bytes, all zero.
pub record Zero (t : List ℕ) : Type 0 where
  pub long : length t ≡ store_size
  pub zero_bytes : (i : ℕ) → i < store_size → get_or t i 0 ≡ 0

abbrev pub MakeMeans : Type 0
MakeMeans =
    (s : List ℕ) →
    ((t : List ℕ) → (make s ≡ accepted t) ↔ ((length s ≡ store_size) × Zero t)) ×
    ((n p q : ℕ) → (make s ≡ refused n p q) ↔ ((length s ≡ store_size → ⊥) × (n ≡ 2) × (p ≡ 0) × (q ≡ 0)))

-- Where the count of user v at place p stands, and its length and its block.
abbrev pub count_at : ℕ → ℕ → ℕ
count_at p v = place_size * p + 2 + 2 * v

abbrev pub length_at : ℕ → ℕ
length_at p = place_size * p

abbrev pub block_at : ℕ → ℕ
block_at p = place_size * p + 34

-- t is s, but for user v's count at place p, which is n, in two bytes, big-endian.
pub record Recounted (s : List ℕ) (p v n : ℕ) (t : List ℕ) : Type 0 where
  pub same_length : length t ≡ length s
  pub high : get_or t (count_at p v) 0 ≡ n / 256
  pub low : get_or t (count_at p v + 1) 0 ≡ n % 256
  pub others_kept : (i : ℕ) → Outside (count_at p v) 2 i → get_or t i 0 ≡ get_or s i 0

-- t is s, but for a block at place p: its length, user u's count, which is 1, and its bytes. Those behind it are kept.
pub record Filled (s : List ℕ) (p u : ℕ) (b t : List ℕ) : Type 0 where
  pub same_length : length t ≡ length s
  pub length_high : get_or t (length_at p) 0 ≡ length b / 256
  pub length_low : get_or t (length_at p + 1) 0 ≡ length b % 256
  pub count_high : get_or t (count_at p u) 0 ≡ 0
  pub count_low : get_or t (count_at p u + 1) 0 ≡ 1
  pub block_bytes : (i : ℕ) → i < length b → get_or t (block_at p + i) 0 ≡ get_or b i 0
  pub others_kept :
      (i : ℕ) → Outside (length_at p) 2 i → Outside (count_at p u) 2 i → Outside (block_at p) (length b) i → get_or t i 0 ≡ get_or s i 0

-- Storing. 1: there is such a user. 2: the store's length, and the block's.
abbrev pub User : ℕ → Type 0
User u = u ≤ 15

abbrev pub StoreSizes : List ℕ → List ℕ → Type 0
StoreSizes s b = (length s ≡ store_size) × (length b ≤ 8192)

-- 13: a place holds the block's hash, or is free.
abbrev pub HasPlace : List ℕ → List ℕ → Type 0
HasPlace s b = (p : ℕ) × (p < 64) × (Holds (place s p) (sha256 b) ⊎ Free (place s p))

-- 14: where the hash is held, the user's count there is not the last.
abbrev pub NotLast : List ℕ → ℕ → List ℕ → Type 0
NotLast s u b = (p : ℕ) → LowestHolder s (sha256 b) p → count (place s p) u ≡ 65535 → ⊥

-- The conditions up to each one, in the order in which they are tried: 1, 2, 3, 13, 14.
abbrev pub ToStoreSizes : List ℕ → ℕ → List ℕ → Type 0
ToStoreSizes s u b = User u × StoreSizes s b

abbrev pub ToStoreFits : List ℕ → ℕ → List ℕ → Type 0
ToStoreFits s u b = ToStoreSizes s u b × AllFit s

abbrev pub ToHasPlace : List ℕ → ℕ → List ℕ → Type 0
ToHasPlace s u b = ToStoreFits s u b × HasPlace s b

abbrev pub StoreConditions : List ℕ → ℕ → List ℕ → Type 0
StoreConditions s u b = ToHasPlace s u b × NotLast s u b

-- Why storing is refused: all earlier conditions hold and this one does not; among places, the lowest at which it does not.
pub data WhyStore (s : List ℕ) (u : ℕ) (b : List ℕ) : ℕ → ℕ → ℕ → Type 0 where
  no_user : (User u → ⊥) → WhyStore s u b 1 0 0
  lengths : User u → (StoreSizes s b → ⊥) → WhyStore s u b 2 0 0
  unfit : (p : ℕ) → ToStoreSizes s u b → First (LengthFits s) 64 p → WhyStore s u b 3 p 0
  no_place : ToStoreFits s u b → (HasPlace s b → ⊥) → WhyStore s u b 13 0 0
  last_reference : ToHasPlace s u b → (NotLast s u b → ⊥) → WhyStore s u b 14 0 0

-- What it leaves: one more of that user at the lowest holder; or the block in the lowest free place, where none holds its hash.
pub data Stored (s : List ℕ) (u : ℕ) (b t : List ℕ) : Type 0 where
  again : (p : ℕ) → LowestHolder s (sha256 b) p → Recounted s p u (count (place s p) u + 1) t → Stored s u b t
  anew : NotHeld s (sha256 b) → (p : ℕ) → Lowest (λ q. Free (place s q)) p → Filled s p u b t → Stored s u b t

abbrev pub StoreMeans : Type 0
StoreMeans =
    (s : List ℕ) (u : ℕ) (b : List ℕ) →
    ((t : List ℕ) → (store s u b ≡ accepted t) ↔ (StoreConditions s u b × Stored s u b t)) ×
    ((n p q : ℕ) → (store s u b ≡ refused n p q) ↔ WhyStore s u b n p q)

-- Retrieving and unreferencing. 2: the store's length, and the hash's. 15: the hash is held.
abbrev pub HashSizes : List ℕ → List ℕ → Type 0
HashSizes s hash = (length s ≡ store_size) × (length hash ≡ 32)

-- 12: the buffer has room for the block.
abbrev pub Room : List ℕ → List ℕ → ℕ → Type 0
Room s hash room = (p : ℕ) → LowestHolder s hash p → block_length (place s p) ≤ room

-- In the order 2, 3, 15, 12.
abbrev pub ToRetrieveFits : List ℕ → List ℕ → Type 0
ToRetrieveFits s hash = HashSizes s hash × AllFit s

abbrev pub ToRetrieveHeld : List ℕ → List ℕ → Type 0
ToRetrieveHeld s hash = ToRetrieveFits s hash × Held s hash

abbrev pub RetrieveConditions : List ℕ → List ℕ → ℕ → Type 0
RetrieveConditions s hash room = ToRetrieveHeld s hash × Room s hash room

pub data WhyRetrieve (s hash : List ℕ) (room : ℕ) : ℕ → ℕ → ℕ → Type 0 where
  lengths : (HashSizes s hash → ⊥) → WhyRetrieve s hash room 2 0 0
  unfit : (p : ℕ) → HashSizes s hash → First (LengthFits s) 64 p → WhyRetrieve s hash room 3 p 0
  not_held : ToRetrieveFits s hash → (Held s hash → ⊥) → WhyRetrieve s hash room 15 0 0
  no_room : ToRetrieveHeld s hash → (Room s hash room → ⊥) → WhyRetrieve s hash room 12 0 0

-- The block at place p: as many bytes as its length says, from its first one on.
pub record BlockAt (s : List ℕ) (p : ℕ) (b : List ℕ) : Type 0 where
  pub long : length b ≡ block_length (place s p)
  pub bytes : (i : ℕ) → i < length b → get_or b i 0 ≡ get_or s (block_at p + i) 0

abbrev pub RetrieveMeans : Type 0
RetrieveMeans =
    (s hash : List ℕ) (room : ℕ) →
    ((b : List ℕ) →
    (retrieve s hash room ≡ accepted b) ↔
    (RetrieveConditions s hash room × ((p : ℕ) × LowestHolder s hash p × BlockAt s p b))) ×
    ((n p q : ℕ) → (retrieve s hash room ≡ refused n p q) ↔ WhyRetrieve s hash room n p q)

-- "copies out by hash to the front of a buffer": what the buffer holds then, and behind the block what it held before. "bytes after a block stay".
pub record AtFront (b buffer t : List ℕ) : Type 0 where
  pub same_length : length t ≡ length buffer
  pub front : (i : ℕ) → i < length b → get_or t i 0 ≡ get_or b i 0
  pub behind : (i : ℕ) → length b ≤ i → get_or t i 0 ≡ get_or buffer i 0

abbrev pub RetrieveIntoMeans : Type 0
RetrieveIntoMeans =
    (s hash buffer : List ℕ) →
    ((t : List ℕ) →
    (retrieve_into s hash buffer ≡ accepted t) ↔ ((b : List ℕ) × (retrieve s hash (length buffer) ≡ accepted b) × AtFront b buffer t)) ×
    ((n p q : ℕ) → (retrieve_into s hash buffer ≡ refused n p q) ↔ (retrieve s hash (length buffer) ≡ refused n p q))

-- In the order 1, 2, 3, 15.
abbrev pub ToHashSizes : List ℕ → ℕ → List ℕ → Type 0
ToHashSizes s u hash = User u × HashSizes s hash

abbrev pub ToUnreferenceFits : List ℕ → ℕ → List ℕ → Type 0
ToUnreferenceFits s u hash = ToHashSizes s u hash × AllFit s

abbrev pub UnreferenceConditions : List ℕ → ℕ → List ℕ → Type 0
UnreferenceConditions s u hash = ToUnreferenceFits s u hash × Held s hash

pub data WhyUnreference (s : List ℕ) (u : ℕ) (hash : List ℕ) : ℕ → ℕ → ℕ → Type 0 where
  no_user : (User u → ⊥) → WhyUnreference s u hash 1 0 0
  lengths : User u → (HashSizes s hash → ⊥) → WhyUnreference s u hash 2 0 0
  unfit : (p : ℕ) → ToHashSizes s u hash → First (LengthFits s) 64 p → WhyUnreference s u hash 3 p 0
  not_held : ToUnreferenceFits s u hash → (Held s hash → ⊥) → WhyUnreference s u hash 15 0 0

-- What it does at the lowest holder p: it takes one of the user's count; or, at zero, nothing.
pub data Takes (s : List ℕ) (p u : ℕ) (t : Unreferenced) : Type 0 where
  one : (n : ℕ) → count (place s p) u ≡ n + 1 → t.took ≡ 1 → Recounted s p u n t.after → Takes s p u t
  nothing : count (place s p) u ≡ 0 → t.took ≡ 0 → t.after ≡ s → Takes s p u t

abbrev pub UnreferenceMeans : Type 0
UnreferenceMeans =
    (s : List ℕ) (u : ℕ) (hash : List ℕ) →
    ((t : Unreferenced) →
    (unreference s u hash ≡ accepted t) ↔ (UnreferenceConditions s u hash × ((p : ℕ) × LowestHolder s hash p × Takes s p u t))) ×
    ((n p q : ℕ) → (unreference s u hash ≡ refused n p q) ↔ WhyUnreference s u hash n p q)
