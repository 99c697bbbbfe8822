-- The client's check of a version structure list, which gives the counts of its next structure (the desk's verdict; 000, section 4.2).
use Rattle.std.specs.Prelude.{ℕ, ◌+◌, ◌*◌, Bool, not, cond, ◌&&◌, ◌||◌, List, [], ◌∷◌, leb, ltb, eqb, length, get_or}
use Rattle.layout.specs.Bytes.{values}
use Rattle.layout.specs.Strings.{same}
use Rattle.search.specs.Pairs.{every_pair, first_low, first_high}
use Rattle.refusal.specs.Answer.{Answer, accepted}
use Rattle.refusal.specs.Order.{Step, unless, unless_each, in_order}
use Rattle.protocol.specs.Version.{size, owner, count, well_formed, counts_strictly_before, at_or_before}
use Rattle.protocol.specs.List.{records, record_at, entry, well_placed}

-- The largest count, 4,294,967,295.
abbrev pub last_count : ℕ
last_count = 4294967295

-- "The new structure has owner u and that handle; for each other user its count is that user's own count in its list record, or 0; for u
-- it is the remembered own count plus 1, or 1." `mem` is the remembered structure, or no bytes.
abbrev pub next_count : ℕ → List ℕ → List ℕ → ℕ → ℕ
next_count u mem list v = cond (eqb v u) (count mem u + 1) (count (entry list v) v)

-- The sixteen of them.
unfoldable pub next_counts : ℕ → List ℕ → List ℕ → List ℕ
next_counts u mem list = values (next_count u mem list) 0 16

-- The remembered structure is none, or well formed and u's own.
unfoldable pub remembers : ℕ → ℕ → List ℕ → Bool
remembers N u mem = eqb (length mem) 0 || (well_formed N mem && eqb (owner mem) u)

-- The list's entry for u and the remembered structure are the same bytes, or neither exists.
unfoldable pub current : ℕ → List ℕ → List ℕ → Bool
current u mem list = same (entry list u) mem

-- Entries i and j of the list, i below j: one is at or before the other. Where j is the list's length it means the new structure, and
-- entry i is strictly before it. The new structure is told by its counts, for nothing else of it is compared.
unfoldable pub ordered : List ℕ → (ℕ → ℕ) → ℕ → ℕ → Bool
ordered list new i j =
    cond (ltb j (records list))
    (at_or_before (record_at list i) (record_at list j) || at_or_before (record_at list j) (record_at list i))
    (counts_strictly_before (count (record_at list i)) new)

-- Refusal 7, for a pair that is not so: "the pair, least i, then least j".
abbrev pub pair_step : List ℕ → (ℕ → ℕ) → Step
pair_step list new =
    unless (every_pair (ordered list new) (records list)) 7 (first_low (ordered list new) (records list))
    (first_high (ordered list new) (records list))

-- "Order: 1, 2, 3 for the remembered structure, 3 for the list, 4, 5, 6, 7. One refusal is tried over all records before the next is tried."
unfoldable pub size_steps : ℕ → ℕ → List ℕ → List ℕ → List ℕ → List Step
size_steps N u mem list marks =
    unless (leb 1 N) 1 0 0 ∷
    unless (leb N 16) 1 0 0 ∷
    unless (ltb u N) 1 0 0 ∷
    unless (eqb (length mem) 0 || eqb (length mem) size) 2 0 0 ∷
    unless (eqb (size * records list) (length list)) 2 0 0 ∷
    unless (leb (records list) N) 2 0 0 ∷ unless (eqb (length marks) (records list)) 2 0 0 ∷ []

unfoldable pub form_steps : ℕ → ℕ → List ℕ → List ℕ → List ℕ → List Step
form_steps N u mem list marks =
    unless (remembers N u mem) 3 16 0 ∷
    unless_each (well_placed N list) (records list) 3 ∷ unless_each (λ i. eqb (get_or marks i 0) 1) (records list) 4 ∷ []

unfoldable pub order_steps : ℕ → List ℕ → List ℕ → List Step
order_steps u mem list =
    unless (current u mem list) 5 0 0 ∷
    unless (not (eqb (count mem u) last_count)) 6 0 0 ∷ pair_step list (next_count u mem list) ∷ []

-- Accepted: the new counts. Nothing is written.
unfoldable pub check : ℕ → ℕ → List ℕ → List ℕ → List ℕ → Answer (List ℕ)
check N u mem list marks =
    in_order (size_steps N u mem list marks)
    (in_order (form_steps N u mem list marks)
    (in_order (order_steps u mem list) (accepted (next_counts u mem list))))
