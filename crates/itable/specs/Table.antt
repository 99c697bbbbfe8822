-- The blocks of an i-table (the table of files).
use Rattle.std.specs.Prelude.{ℕ, zero, suc, ◌+◌, ◌-◌, ◌*◌, ◌/◌, min, cond, List, [], ◌∷◌, ◌++◌, ltb, length, get_or, replicate}
use Rattle.layout.specs.Bytes.{bytes8, part}
use Rattle.sha256.specs.Sha256.{sha256}
use Rattle.itable.specs.Block.{size}

-- What a row of blocks is made over: entries of a number and 32 bytes each. A table of files is one, of i-numbers and file handles; a row of
-- blocks is one for the row over it, "each slot the lowest i-number under a child and the child's SHA-256".
pub record Level : Type 0 where
  pub count : ℕ
  pub number : ℕ → ℕ
  pub value : ℕ → List ℕ

-- The table of files: a list of i-numbers, and 32 bytes of handle for each.
unfoldable pub files : List ℕ → List ℕ → Level
files nums handles = record { count = length nums; number = λ i. get_or nums i 0; value = λ i. part 32 handles i }

-- "Each filled to 16 before the next, one empty leaf for an empty list": the number of blocks over n entries, and of slots used in block k.
abbrev pub wide : ℕ → ℕ
wide n = (n - 1) / 16 + 1

abbrev pub used_in : ℕ → ℕ → ℕ
used_in n k = min 16 (n - 16 * k)

-- The slots of the u entries from a on, end to end.
unfoldable pub slots : Level → ℕ → ℕ → List ℕ
slots L a zero = []
slots L a (suc u) = bytes8 (L.number a) ++ (L.value a ++ slots L (suc a) u)

-- Block k over a level.
unfoldable pub block : ℕ → Level → ℕ → List ℕ
block kind L k =
    kind ∷
    used_in L.count k ∷ (slots L (16 * k) (used_in L.count k) ++ replicate (640 - 40 * used_in L.count k) 0)

-- The level that the blocks of this kind over L are.
unfoldable pub above : ℕ → Level → Level
above kind L = record { count = wide L.count; number = λ k. L.number (16 * k); value = λ k. sha256 (block kind L k) }

-- The m blocks from block k on, end to end.
unfoldable pub row : ℕ → Level → ℕ → ℕ → List ℕ
row kind L k zero = []
row kind L k (suc m) = block kind L k ++ row kind L (suc k) m

-- "Leaves come first; then kind 4 blocks over them in the same way if there is more than one leaf; then kind 5 if there is more than one of
-- those": how many of each a table of n files has, and in all.
abbrev pub leaves : ℕ → ℕ
leaves n = wide n

abbrev pub fours : ℕ → ℕ
fours n = cond (ltb 1 (leaves n)) (wide (leaves n)) 0

abbrev pub fives : ℕ → ℕ
fives n = cond (ltb 1 (fours n)) (wide (fours n)) 0

unfoldable pub blocks : ℕ → ℕ
blocks n = leaves n + fours n + fives n

-- The blocks of the table T, end to end.
unfoldable pub written : Level → List ℕ
written T =
    row 3 T 0 (leaves T.count) ++
    (row 4 (above 3 T) 0 (fours T.count) ++ row 5 (above 4 (above 3 T)) 0 (fives T.count))

-- "The last block is the root, and its hash is the i-handle": the i-handle of n blocks end to end.
abbrev pub root_hash : List ℕ → ℕ → List ℕ
root_hash bytes n = sha256 (part size bytes (n - 1))
