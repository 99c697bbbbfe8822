-- A block from a reply or from a cache, for C, is told by two numbers.
use Rattle.std.specs.Prelude.{ℕ, List, length}
use Rattle.cache.specs.Choose.{Choice, from_reply, from_cache, chosen}

-- Which part it is.
abbrev pub part_number : Choice → ℕ
part_number from_reply = 0
part_number from_cache = 1

-- Its length.
abbrev pub part_length : List ℕ → List ℕ → Choice → ℕ
part_length reply cached c = length (chosen c reply cached)
