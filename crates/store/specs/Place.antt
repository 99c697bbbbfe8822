-- 02's request e), "A block store that gives room back": the places of a store, as bytes, what a place holds, and how one is changed.
use Rattle.std.specs.Prelude.{ℕ, ◌+◌, ◌*◌, Bool, not, ◌&&◌, List, eqb, ltb, length, take, drop, replicate}
use Rattle.search.specs.Search.{find, every}
use Rattle.layout.specs.Bytes.{two, bytes2, part, put_at}
use Rattle.layout.specs.Strings.{same}
use Rattle.sha256.specs.Sha256.{sha256}

-- "A lent store has 64 places, each with a length (2 bytes), sixteen users' counts (2 bytes each) and 8,192 bytes: 526,464 in all".
abbrev pub place_size : ℕ
place_size = 8226

abbrev pub store_size : ℕ
store_size = 526464

abbrev pub place : List ℕ → ℕ → List ℕ
place s p = part place_size s p

-- "all zero when made".
unfoldable pub made : List ℕ
made = replicate store_size 0

-- In the bytes x of a place: the length of its block, the count of user v, and the block. The bytes behind the block belong to no block.
abbrev pub block_length : List ℕ → ℕ
block_length x = two x 0

abbrev pub count : List ℕ → ℕ → ℕ
count x v = two x (2 + 2 * v)

abbrev pub block_in : List ℕ → List ℕ
block_in x = take (block_length x) (drop 34 x)

-- "a place whose counts are all zero is free, holds nothing": whatever its length and its bytes are.
unfoldable pub free : List ℕ → Bool
free x = every (λ v. eqb (count x v) 0) 0 16

unfoldable pub holds : List ℕ → List ℕ → Bool
holds x hash = not (free x) && same (sha256 (block_in x)) hash

-- "The lowest place that holds a hash is meant in every call"; 64 where none does.
unfoldable pub place_of : List ℕ → List ℕ → ℕ
place_of s hash = find (λ p. holds (place s p) hash) 0 64

abbrev pub is_held : List ℕ → List ℕ → Bool
is_held s hash = ltb (place_of s hash) 64

-- "the lowest free place"; 64 where none is.
unfoldable pub first_free : List ℕ → ℕ
first_free s = find (λ p. free (place s p)) 0 64

-- A place with another count of user v; one that takes a block for user u, with that user's count 1; and a store with other bytes in one place. All
-- other bytes stay.
unfoldable pub with_count : List ℕ → ℕ → ℕ → List ℕ
with_count x v n = put_at x (2 + 2 * v) (bytes2 n)

unfoldable pub with_block : List ℕ → ℕ → List ℕ → List ℕ
with_block x u b = put_at (with_count (put_at x 0 (bytes2 (length b))) u 1) 34 b

unfoldable pub with_place : List ℕ → ℕ → List ℕ → List ℕ
with_place s p x = put_at s (place_size * p) x

-- The store with n as user v's count at place p.
abbrev pub recount : List ℕ → ℕ → ℕ → ℕ → List ℕ
recount s p v n = with_place s p (with_count (place s p) v n)
