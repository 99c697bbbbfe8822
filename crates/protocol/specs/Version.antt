-- Version structures, as the 98 bytes of kind 1: owner (1), i-handle (32), sixteen counts of 4 bytes, one per user 0 to 15.
use Rattle.std.specs.Prelude.{ℕ, zero, suc, ◌+◌, ◌-◌, ◌*◌, Bool, not, ◌&&◌, cond, List, [], ◌∷◌, ◌++◌, leb, ltb, eqb, get_or}
use Rattle.layout.specs.Bytes.{four, bytes4}
use Rattle.search.specs.Search.{every}

abbrev pub size : ℕ
size = 98

abbrev pub kind : List ℕ → ℕ
kind x = get_or x 0 0

abbrev pub owner : List ℕ → ℕ
owner x = get_or x 1 0

-- How many operations of user v the structure counts. No bytes count none.
abbrev pub count : List ℕ → ℕ → ℕ
count x v = four x (34 + 4 * v)

-- The own count: the owner's version number.
abbrev pub own : List ℕ → ℕ
own x = count x (owner x)

-- The counts of the k users from v on, end to end.
unfoldable pub counts : (ℕ → ℕ) → ℕ → ℕ → List ℕ
counts f v zero = []
counts f v (suc k) = bytes4 (f v) ++ counts f (suc v) k

-- The structure of user u with this i-handle and these counts.
unfoldable pub structure : ℕ → List ℕ → (ℕ → ℕ) → List ℕ
structure u handle f = 1 ∷ u ∷ (handle ++ counts f 0 16)

-- "A version structure is well formed if its kind is 1, its owner is below N, its owner's own count is not 0, and counts of
-- users N to 15 are 0." Of an owner above 15 98 bytes have no count, so it is not well formed.
unfoldable pub well_formed : ℕ → List ℕ → Bool
well_formed N x =
    eqb (kind x) 1 && (ltb (owner x) N && (not (eqb (own x) 0) && every (λ v. eqb (count x v) 0) N (16 - N)))

-- "Structure x is at or before y if each of the sixteen counts of x is at most that of y. It is strictly before y if also some count
-- differs." First of two structures' counts, f of x and g of y, then of their bytes.
unfoldable pub counts_before : (ℕ → ℕ) → (ℕ → ℕ) → Bool
counts_before f g = every (λ v. leb (f v) (g v)) 0 16

unfoldable pub counts_strictly_before : (ℕ → ℕ) → (ℕ → ℕ) → Bool
counts_strictly_before f g = counts_before f g && not (every (λ v. eqb (f v) (g v)) 0 16)

abbrev pub at_or_before : List ℕ → List ℕ → Bool
at_or_before x y = counts_before (count x) (count y)

abbrev pub strictly_before : List ℕ → List ℕ → Bool
strictly_before x y = counts_strictly_before (count x) (count y)

-- How one structure's counts stand to another's: "equal counts, strictly before, strictly after, apart".
pub data Standing : Type 0 where
  equal : Standing
  before : Standing
  after : Standing
  apart : Standing

-- The counts f to the counts g, of users 0 to 15.
unfoldable pub standing : (ℕ → ℕ) → (ℕ → ℕ) → Standing
standing f g =
    cond (every (λ v. eqb (f v) (g v)) 0 16) equal
    (cond (counts_strictly_before f g) before
    (cond (counts_strictly_before g f) after
    apart))
