-- Many lookups, as code comes by their answers: the entries in a row, and what a block says of an i-number where it is the last of its path.
use Rattle.std.specs.Prelude.{ℕ, zero, suc, cond, List, [], ◌++◌, eqb}
use Rattle.itable.specs.Block.{kind, used, number, value}
use Rattle.itable.specs.Lookup.{Entry, absent, entry_in, last_at_most}
use Rattle.itable.specs.Many.{entry_bytes}

-- The bytes of the k entries from q on, end to end.
unfoldable pub entries_from : (ℕ → Entry) → ℕ → ℕ → List ℕ
entries_from entry q zero = []
entries_from entry q (suc k) = entry_bytes (entry q) ++ entries_from entry (suc q) k

-- What the block b says of i, where no slot of it leads on.
unfoldable pub entry_at : List ℕ → ℕ → Entry
entry_at b i = cond (eqb (kind b) 3) (entry_in (number b) (value b) (used b) i) absent

-- One more than the slot of b that leads on; 0 if there is none, as in a leaf.
unfoldable pub leads_at : List ℕ → ℕ → ℕ
leads_at b i = cond (eqb (kind b) 3) 0 (last_at_most (number b) i (used b))
