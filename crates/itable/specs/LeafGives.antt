-- Request c): "Whatever number a leaf consulted by an accepted lookup holds, the same path then gives its handle."
use Rattle.std.specs.Prelude.{ℕ, ◌<◌, List, ◌≡◌}
use Rattle.layout.specs.Bytes.{part, parts}
use Rattle.refusal.specs.Answer.{accepted}
use Rattle.itable.specs.Block.{size, kind, used, number, value}
use Rattle.itable.specs.Table.{Level, blocks, written, root_hash}
use Rattle.itable.specs.Lookup.{Entry, found, lookup}
use Rattle.itable.specs.Answers.{IsTable, AllBelow, path_of}

-- The path gives the handle of every number that a leaf of it holds. (An accepted lookup leaves no block of its path over, so each is consulted.)
abbrev pub GivesHeld : List ℕ → List ℕ → Type 0
GivesHeld handle path =
    (d j : ℕ) → d < parts size path → kind (part size path d) ≡ 3 → j < used (part size path d) →
    lookup handle (number (part size path d) j) path ≡ accepted (found (value (part size path d) j))

abbrev pub LeafGives : Type 0
LeafGives = (handle : List ℕ) (i : ℕ) (path : List ℕ) (e : Entry) → lookup handle i path ≡ accepted e → GivesHeld handle path

-- A leaf of the path holds i with this handle, in slot j of block d.
pub record Holds (path : List ℕ) (i : ℕ) (handle : List ℕ) : Type 0 where
  pub d : ℕ
  pub j : ℕ
  pub in_path : d < parts size path
  pub is_leaf : kind (part size path d) ≡ 3
  pub is_used : j < used (part size path d)
  pub numbered : number (part size path d) j ≡ i
  pub handled : value (part size path d) j ≡ handle

-- For each file of a table there is such a path: it is of written blocks, and a leaf of it holds the file.
pub record FileGiven (T : Level) (f : ℕ) : Type 0 where
  pub indices : List ℕ
  pub are_written : AllBelow (blocks T.count) indices
  pub holds : Holds (path_of (written T) indices) (T.number f) (T.value f)
  pub gives_held : GivesHeld (root_hash (written T) (blocks T.count)) (path_of (written T) indices)

abbrev pub WrittenLeafGives : Type 0
WrittenLeafGives = (T : Level) → IsTable T → (f : ℕ) → f < T.count → FileGiven T f
