-- Demand 2 about the table of files: "Blocks written from a table of files answer each lookup as that table does, and a path accepted under the
-- table's root that says otherwise contains a block that differs from a written block of equal hash."
use Rattle.std.specs.Prelude.{ℕ, suc, ◌≤◌, ◌<◌, List, [], ◌∷◌, ◌++◌, ◌↔◌, ◌≡◌, length}
use Rattle.layout.specs.Bytes.{part, parts}
use Rattle.refusal.specs.Answer.{accepted}
use Rattle.sha256.specs.Sha256.{sha256}
use Rattle.itable.specs.Block.{size}
use Rattle.itable.specs.Table.{Level, files, blocks, written, root_hash}
use Rattle.itable.specs.Write.{blocks_given, writing}
use Rattle.itable.specs.Lookup.{Entry, found, absent, entry_of, lookup}

-- A table of files: at most 4,096, i-numbers strictly ascending, 32 bytes of handle for each.
pub record IsTable (T : Level) : Type 0 where
  pub few : T.count ≤ 4096
  pub ascends : (j : ℕ) → suc j < T.count → T.number j < T.number (suc j)
  pub sized : (j : ℕ) → j < T.count → length (T.value j) ≡ 32

-- What the table's own answer means: found with the handle of the file of that number, absent if no file has it.
pub record Means (T : Level) (i : ℕ) : Type 0 where
  pub present : (handle : List ℕ) → (entry_of T i ≡ found handle) ↔ ((j : ℕ) × (j < T.count) × (T.number j ≡ i) × (T.value j ≡ handle))
  pub missing : (entry_of T i ≡ absent) ↔ ((j : ℕ) → j < T.count → T.number j ≡ i → ⊥)

abbrev pub EntryMeans : Type 0
EntryMeans = (T : Level) → IsTable T → (i : ℕ) → Means T i

-- "At most 273 blocks."
abbrev pub AtMostBlocks : Type 0
AtMostBlocks = (n : ℕ) → n ≤ 4096 → blocks n ≤ 273

-- The path of the blocks of these indices, out of blocks end to end.
unfoldable pub path_of : List ℕ → List ℕ → List ℕ
path_of bytes [] = []
path_of bytes (w ∷ ws) = part size bytes w ++ path_of bytes ws

-- Every one of the indices is below n.
abbrev pub AllBelow : ℕ → List ℕ → Type 0
AllBelow n [] = Unit
AllBelow n (w ∷ ws) = (w < n) × AllBelow n ws

-- Some path of the n blocks that these bytes are is answered by e under the root's hash.
pub record Answers (bytes : List ℕ) (n i : ℕ) (e : Entry) : Type 0 where
  pub indices : List ℕ
  pub are_written : AllBelow n indices
  pub answers : lookup (root_hash bytes n) i (path_of bytes indices) ≡ accepted e

-- Block d of the path and block w of the n blocks that these bytes are differ and have one hash.
pub record Collision (bytes : List ℕ) (n : ℕ) (path : List ℕ) : Type 0 where
  pub d : ℕ
  pub w : ℕ
  pub in_path : d < parts size path
  pub is_written : w < n
  pub differ : part size path d ≡ part size bytes w → ⊥
  pub equal_hash : sha256 (part size path d) ≡ sha256 (part size bytes w)

-- Written blocks answer each lookup, found or absent, as the table does.
abbrev pub WrittenAnswers : Type 0
WrittenAnswers =
    (T : Level) → IsTable T → (i : ℕ) → Answers (written T) (blocks T.count) i (entry_of T i)

-- A path, of any bytes, that is accepted under the table's root and says otherwise collides with a written block.
abbrev pub OtherwiseCollides : Type 0
OtherwiseCollides =
    (T : Level) → IsTable T → (i : ℕ) (path : List ℕ) (e : Entry) →
    lookup (root_hash (written T) (blocks T.count)) i path ≡ accepted e → (e ≡ entry_of T i → ⊥) →
    Collision (written T) (blocks T.count) path

-- Both, of the b blocks that the writer leaves at the front of the buffer.
pub record BufferAnswers (nums handles out : List ℕ) (b i : ℕ) : Type 0 where
  pub as_table : Answers out b i (entry_of (files nums handles) i)
  pub otherwise :
      (path : List ℕ) (e : Entry) → lookup (root_hash out b) i path ≡ accepted e → (e ≡ entry_of (files nums handles) i → ⊥) →
      Collision out b path

abbrev pub BufferAnswersAsTable : Type 0
BufferAnswersAsTable =
    (nums handles buffer out : List ℕ) (b : ℕ) →
    blocks_given nums handles (length buffer) ≡ accepted b → writing nums handles buffer ≡ accepted out →
    (i : ℕ) → BufferAnswers nums handles out b i
