-- The lookup of an i-number along one path of blocks, root first.
use Rattle.std.specs.Prelude.{ℕ, zero, suc, ◌*◌, cond, List, [], ◌∷◌, leb, ltb, eqb, length}
use Rattle.layout.specs.Bytes.{part, parts}
use Rattle.search.specs.Search.{find}
use Rattle.layout.specs.Strings.{same}
use Rattle.refusal.specs.Answer.{Answer, accepted, refused}
use Rattle.refusal.specs.Order.{Step, unless, in_order}
use Rattle.sha256.specs.Sha256.{sha256}
use Rattle.itable.specs.Block.{size, kind, used, number, value, to_root, to_child, well_formed}
use Rattle.itable.specs.declared.Link.{Link}
use Rattle.itable.specs.Table.{Level}

-- What is said of an i-number: the handle of the file that has it, or that there is none.
pub data Entry : Type 0 where
  found : List ℕ → Entry
  absent : Entry

-- The entry of i among n numbers, each with its value.
unfoldable pub entry_in : (ℕ → ℕ) → (ℕ → List ℕ) → ℕ → ℕ → Entry
entry_in number value n i =
    cond (ltb (find (λ j. eqb (number j) i) 0 n) n) (found (value (find (λ j. eqb (number j) i) 0 n))) absent

-- What the table itself says of i.
abbrev pub entry_of : Level → ℕ → Entry
entry_of T i = entry_in T.number T.value T.count i

-- One more than the last of the first n places whose number is at most i; 0 if there is none.
unfoldable pub last_at_most : (ℕ → ℕ) → ℕ → ℕ → ℕ
last_at_most number i zero = 0
last_at_most number i (suc n) = cond (leb (number n) i) (suc n) (last_at_most number i n)

-- The answer is known after d blocks: "Blocks left over once the answer is known, also where it is absent: 9. Blocks left over are not
-- otherwise judged."
abbrev pub known : ℕ → ℕ → Entry → Answer Entry
known zero d e = accepted e
known (suc left) d e = refused 9 d 0

-- The slot before place n leads on, or there is none.
abbrev pub leading : ℕ → Answer Entry → (ℕ → Answer Entry) → Answer Entry
leading zero none on = none
leading (suc j) none on = on j

-- "A leaf gives the handle, or absent. In an inner block the last slot whose number is at most the i-number leads on; if there is none (only at
-- a root), absent." The answer at the block b, the last of d consulted; `on` is what follows along a slot.
unfoldable pub answer_at : List ℕ → ℕ → ℕ → ℕ → (ℕ → Answer Entry) → Answer Entry
answer_at b i left d on =
    cond (eqb (kind b) 3) (known left d (entry_in (number b) (value b) (used b) i))
    (leading (last_at_most (number b) i (used b)) (known left d absent) on)

-- "For each block consulted, root first, 8, then 3": block d of the path, to which k leads, where `left` blocks are not yet consulted. "None
-- left where one is needed: 9."
unfoldable pub consult : List ℕ → ℕ → ℕ → ℕ → Link → Answer Entry
consult path i zero d k = refused 9 d 0
consult path i (suc left) d k =
    in_order
    (unless (same (sha256 (part size path d)) k.hash) 8 d 0 ∷ unless (well_formed k (part size path d)) 3 d 0 ∷ [])
    (answer_at (part size path d) i left (suc d) (λ j. consult path i left (suc d) (to_child k (part size path d) j)))

-- "Order: 2 for the handle and the path": a path of 1 to 3 whole blocks.
unfoldable pub path_steps : List ℕ → List ℕ → List Step
path_steps handle path =
    unless (eqb (length handle) 32) 2 0 0 ∷
    unless (eqb (size * parts size path) (length path)) 2 0 0 ∷
    unless (leb 1 (parts size path)) 2 0 0 ∷ unless (leb (parts size path) 3) 2 0 0 ∷ []

unfoldable pub lookup : List ℕ → ℕ → List ℕ → Answer Entry
lookup handle i path = in_order (path_steps handle path) (consult path i (parts size path) 0 (to_root handle))
