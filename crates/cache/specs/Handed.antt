-- What is known of the bytes that are handed back.
use Rattle.std.specs.Prelude.{ℕ, ◌≤◌, List, [], ◌↔◌, ◌≡◌, length}
use Rattle.layout.specs.Bytes.{parts}
use Rattle.refusal.specs.Answer.{accepted, refused, Refused}
use Rattle.sha256.specs.Sha256.{sha256}
use Rattle.itable.specs.Block.{size}
use Rattle.itable.specs.Lookup.{lookup}
use Rattle.cache.specs.Choose.{from_reply, from_cache, choose, handed_of}

-- "A part of 642 bytes handed back is to demand 2's lookup a path of one block, which under the wanted hash it never refuses with 8"; nor, as a path
-- of one whole block under a hash of 32 bytes, with 2.
abbrev pub ChosenIsPath : Type 0
ChosenIsPath =
    (wanted reply cached : List ℕ) (i : ℕ) → length (handed_of wanted reply cached) ≡ 642 →
    (parts size (handed_of wanted reply cached) ≡ 1) ×
    ((n p q : ℕ) → lookup wanted i (handed_of wanted reply cached) ≡ refused n p q → (n ≡ 8 → ⊥) × (n ≡ 2 → ⊥))

-- Nothing is handed back exactly where the call is refused: what is accepted is never empty.
abbrev pub EmptyIsRefused : Type 0
EmptyIsRefused = (wanted reply cached : List ℕ) → (handed_of wanted reply cached ≡ []) ↔ Refused (choose wanted reply cached)

-- Every part of 1 to 65,536 bytes is handed back under its hash, as the reply where nothing is cached, and from the cache where there is no reply.
abbrev pub BlockChosen : Type 0
BlockChosen =
    (b : List ℕ) → 1 ≤ length b → length b ≤ 65536 →
    ((choose (sha256 b) b [] ≡ accepted from_reply) × (handed_of (sha256 b) b [] ≡ b)) ×
    ((choose (sha256 b) [] b ≡ accepted from_cache) × (handed_of (sha256 b) [] b ≡ b))

-- "An empty part means not there": it is never chosen, whatever is wanted and whatever the other part is; "even if the hash of no bytes is wanted".
abbrev pub EmptyNotThere : Type 0
EmptyNotThere =
    ((wanted other : List ℕ) →
    (choose wanted [] other ≡ accepted from_reply → ⊥) × (choose wanted other [] ≡ accepted from_cache → ⊥)) ×
    (choose (sha256 []) [] [] ≡ refused 8 0 0)
