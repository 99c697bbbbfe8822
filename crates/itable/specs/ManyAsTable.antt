-- Many lookups in one call, along written blocks: each is answered as the table of files answers it.
use Rattle.std.specs.Prelude.{ℕ, ◌*◌, ◌≤◌, List, [], ◌∷◌, ◌++◌, ◌≡◌, length}
use Rattle.refusal.specs.Answer.{accepted}
use Rattle.itable.specs.Table.{Level, blocks, written, root_hash}
use Rattle.itable.specs.Lookup.{entry_of}
use Rattle.itable.specs.Answers.{IsTable, AllBelow, path_of}
use Rattle.itable.specs.Many.{entry_size, entry_bytes, many}

-- Paths by the indices of their blocks, one list for each question: the paths end to end, and each one's number of blocks.
unfoldable pub paths_of : List ℕ → List (List ℕ) → List ℕ
paths_of bytes [] = []
paths_of bytes (ws ∷ wss) = path_of bytes ws ++ paths_of bytes wss

unfoldable pub counts_of : List (List ℕ) → List ℕ
counts_of [] = []
counts_of (ws ∷ wss) = length ws ∷ counts_of wss

-- What the table itself says of each number, in their order.
unfoldable pub entries_of : Level → List ℕ → List ℕ
entries_of T [] = []
entries_of T (i ∷ is) = entry_bytes (entry_of T i) ++ entries_of T is

-- Every one of the indices is below n.
abbrev pub EachBelow : ℕ → List (List ℕ) → Type 0
EachBelow n [] = Unit
EachBelow n (ws ∷ wss) = AllBelow n ws × EachBelow n wss

-- For these numbers there are paths of written blocks, one for each, with which one call answers all of them as the table does.
pub record TableAnswers (T : Level) (numbers : List ℕ) : Type 0 where
  pub indices : List (List ℕ)
  pub are_written : EachBelow (blocks T.count) indices
  pub answers :
      many (root_hash (written T) (blocks T.count)) numbers (counts_of indices) (paths_of (written T) indices) (entry_size * length numbers) ≡
      accepted (entries_of T numbers)

-- So it is with any 64 numbers and fewer, in any order, one of them twice too.
abbrev pub ManyAsTable : Type 0
ManyAsTable = (T : Level) → IsTable T → (numbers : List ℕ) → length numbers ≤ 64 → TableAnswers T numbers
