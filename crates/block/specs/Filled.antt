-- What a filled block is.
use Rattle.std.specs.Prelude.{ℕ, ◌*◌, Bool, cond, ◌&&◌, List, leb, eqb, length}
use Rattle.itable.specs.Block.{size}
use Rattle.itable.specs.Table.{files, block}

-- The lengths are those of a block: at most sixteen numbers, 32 bytes of value for each, and 642 bytes to fill.
unfoldable pub fits : ℕ → ℕ → ℕ → Bool
fits numbers values bytes = leb numbers 16 && (eqb values (32 * numbers) && eqb bytes size)

-- The bytes that were `before`, afterwards: where the lengths fit, the block of this kind whose slots hold the numbers, each with its 32 bytes of
-- value; otherwise as they were.
unfoldable pub filled : ℕ → List ℕ → List ℕ → List ℕ → List ℕ
filled kind numbers values before =
    cond (fits (length numbers) (length values) (length before)) (block kind (files numbers values) 0) before
