-- Version structure lists (VSL; the list): records end to end, owners strictly ascending.
use Rattle.std.specs.Prelude.{ℕ, ◌-◌, Bool, ◌&&◌, ◌||◌, List, ltb, eqb}
use Rattle.layout.specs.Bytes.{part, parts}
use Rattle.search.specs.Search.{find}
use Rattle.protocol.specs.Version.{size, owner, well_formed}

-- The number of records of a list, and record i.
abbrev pub records : List ℕ → ℕ
records list = parts size list

abbrev pub record_at : List ℕ → ℕ → List ℕ
record_at list i = part size list i

-- The list's entry for user v: its first record of that owner, or no bytes.
unfoldable pub entry : List ℕ → ℕ → List ℕ
entry list v = record_at list (find (λ i. eqb (owner (record_at list i)) v) 0 (records list))

-- Record i is well formed, and its owner is above that of the record before it.
unfoldable pub well_placed : ℕ → List ℕ → ℕ → Bool
well_placed N list i =
    well_formed N (record_at list i) && (eqb i 0 || ltb (owner (record_at list (i - 1))) (owner (record_at list i)))
