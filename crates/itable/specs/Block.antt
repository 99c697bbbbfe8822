-- The blocks of an i-table, as 642 bytes: kind (1), number of used slots (1), sixteen slots of number (8) and value (32). The value of a
-- leaf's slot (kind 3) is a file handle, that of an inner block's (kinds 4 and 5) the child's SHA-256.
use Rattle.std.specs.Prelude.{ℕ, ◌+◌, ◌-◌, ◌*◌, Bool, cond, ◌&&◌, ◌||◌, List, leb, ltb, eqb, get_or}
use Rattle.layout.specs.Bytes.{eight, bytes_at}
use Rattle.search.specs.Search.{every}
use Rattle.layout.specs.Strings.{zeros}
use Rattle.itable.specs.declared.Link.{Link}

abbrev pub size : ℕ
size = 642

abbrev pub kind : List ℕ → ℕ
kind b = get_or b 0 0

-- The number of used slots.
abbrev pub used : List ℕ → ℕ
used b = get_or b 1 0

-- The number and the value in slot j, zeros past the end of the bytes.
abbrev pub number : List ℕ → ℕ → ℕ
number b j = eight b (2 + 40 * j)

abbrev pub value : List ℕ → ℕ → List ℕ
value b j = bytes_at b (10 + 40 * j) 32

-- What leads to a block: the kind due there, 0 for the root, the number in the slot, the bound of its numbers, 0 where there is none, and the
-- hash. To the root leads the handle, to a child slot j of its parent b, to which k leads. The bound is "the number in the next used slot" there,
-- and where j is the last, the one "handed down from above" to b.
abbrev pub to_root : List ℕ → Link
to_root handle = record { due = 0; first = 0; bound = 0; hash = handle }

unfoldable pub child_bound : ℕ → List ℕ → ℕ → ℕ
child_bound bound b j = cond (ltb (j + 1) (used b)) (number b (j + 1)) bound

abbrev pub to_child : Link → List ℕ → ℕ → Link
to_child k b j = record { due = kind b - 1; first = number b j; bound = child_bound k.bound b j; hash = value b j }

-- "The root's kind may be 3, 4 or 5, each next one is one less."
unfoldable pub kind_due : ℕ → List ℕ → Bool
kind_due due b = cond (eqb due 0) (leb 3 (kind b) && leb (kind b) 5) (eqb (kind b) due)

-- "A leaf has 0 to 16 used slots, 0 only where it is the root. An inner block has 1 to 16."
unfoldable pub used_due : ℕ → List ℕ → Bool
used_due due b = leb (used b) 16 && (leb 1 (used b) || (eqb due 0 && eqb (kind b) 3))

-- "Slot numbers strictly ascend; unused slots are all zero; used ones may hold any value, 0 included."
unfoldable pub ascending : List ℕ → Bool
ascending b = every (λ j. ltb (number b j) (number b (j + 1))) 0 (used b - 1)

unfoldable pub unused_zero : List ℕ → Bool
unused_zero b = zeros b (2 + 40 * used b) (640 - 40 * used b)

-- "A child's first number equals the number in the slot that led to it."
unfoldable pub first_due : ℕ → ℕ → List ℕ → Bool
first_due due first b = eqb due 0 || eqb (number b 0) first

-- 02's request c), over 01's "Nothing further ties a child to its parent.": "every number in a child must also be below the number in the next
-- used slot, and below any such bound handed down from above." No bound is 0, which stands where there is none.
unfoldable pub below_bound : ℕ → List ℕ → Bool
below_bound bound b = eqb bound 0 || every (λ j. ltb (number b j) bound) 0 (used b)

-- A block is well formed where k leads to it.
unfoldable pub well_formed : Link → List ℕ → Bool
well_formed k b =
    kind_due k.due b &&
    (used_due k.due b &&
    (ascending b && (unused_zero b && (first_due k.due k.first b && below_bound k.bound b))))
