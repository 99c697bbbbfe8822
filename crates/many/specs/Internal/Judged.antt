-- All questions, judged one after the other.
use Rattle.std.specs.Prelude.{ℕ, ◌+◌, ◌-◌, ◌≤◌, ◌<◌, List, ◌≡◌, length, get_or, take, Result, Ok}
use Rattle.layout.specs.Bytes.{part}
use Rattle.itable.specs.Block.{size}
use Rattle.itable.specs.Lookup.{Entry}
use Rattle.itable.specs.Many.{total, single, answers_from}
use Rattle.itable.specs.Internal.Many.{entries_from, entry_at}
use Rattle.many.specs.declared.AtQuestion.{AtQuestion}
use Rattle.many.specs.Outcome.{answer_of}

-- What the last block of question q's path says of its number.
abbrev pub entry_to : List ℕ → List ℕ → List ℕ → ℕ → Entry
entry_to numbers counts paths q = entry_at (part size paths (total (take q counts) + get_or counts q 0 - 1)) (get_or numbers q 0)

-- The answer is that of the single lookups in their order, and where all are accepted, each path has a last block.
pub record Judged (handle numbers counts paths : List ℕ) (r : Result Unit AtQuestion) : Type 0 where
  pub answers :
      answer_of (entries_from (entry_to numbers counts paths) 0 (length numbers)) r ≡
      answers_from (single handle numbers counts paths) 0 (length numbers)
  pub counted : r ≡ Ok tt → (q : ℕ) → q < length numbers → 1 ≤ get_or counts q 0
