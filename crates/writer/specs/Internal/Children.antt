-- What inner blocks are written over: "each slot the lowest i-number under a child and the child's SHA-256". It serves the contracts
-- within the crate; what the writer promises is in Written, and does not mention it.
use Rattle.std.specs.Prelude.{ℕ, ◌+◌, ◌<◌, List, ◌≡◌, get_or}
use Rattle.layout.specs.Bytes.{part}
use Rattle.sha256.specs.Sha256.{sha256}
use Rattle.itable.specs.Block.{size, number}
use Rattle.itable.specs.Table.{Level}

-- The level that n blocks of a buffer are, from block `from` on, as they are read back: their first numbers and their hashes.
unfoldable pub children : List ℕ → ℕ → ℕ → Level
children out from n =
    record { count = n; number = λ j. number (part size out (from + j)) 0; value = λ j. sha256 (part size out (from + j)) }

-- The first u blocks of these bytes as they are read back: their first numbers, and their hashes end to end.
pub record ReadBack (blocks : List ℕ) (u : ℕ) (numbers hashes : List ℕ) : Type 0 where
  pub first : (j : ℕ) → j < u → get_or numbers j 0 ≡ number (part size blocks j) 0
  pub hash : (j : ℕ) → j < u → part 32 hashes j ≡ sha256 (part size blocks j)
