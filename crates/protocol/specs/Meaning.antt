-- What the client's check means, with no test and no search: each condition that it judges, in its order, and each way to be refused.
use Rattle.std.specs.Prelude.{ℕ, ◌+◌, ◌-◌, ◌*◌, ◌≤◌, ◌<◌, List, [], ◌⊎◌, ◌↔◌, ◌≡◌, length, get_or}
use Rattle.search.specs.First.{First, FirstPair}
use Rattle.refusal.specs.Answer.{accepted, refused}
use Rattle.protocol.specs.Version.{size, kind, owner, count, own}
use Rattle.protocol.specs.List.{records, record_at}
use Rattle.protocol.specs.Check.{last_count, next_count, next_counts}
use Rattle.protocol.specs.History.{Call, called}

-- "A version structure is well formed if its kind is 1, its owner is below N, its owner's own count is not 0, and counts of
-- users N to 15 are 0."
pub record WellFormed (N : ℕ) (x : List ℕ) : Type 0 where
  pub kind_one : kind x ≡ 1
  pub owner_below : owner x < N
  pub own_counted : own x ≡ 0 → ⊥
  pub others_zero : (v : ℕ) → N ≤ v → v < 16 → count x v ≡ 0

-- "Structure x is at or before y if each of the sixteen counts of x is at most that of y."
abbrev pub AtOrBefore : List ℕ → List ℕ → Type 0
AtOrBefore x y = (v : ℕ) → v < 16 → count x v ≤ count y v

-- "It is strictly before y if also some count differs." First of a y of which only the counts are known.
abbrev pub StrictlyBeforeCounts : List ℕ → (ℕ → ℕ) → Type 0
StrictlyBeforeCounts x new = ((v : ℕ) → v < 16 → count x v ≤ new v) × ((v : ℕ) × (v < 16) × (count x v ≡ new v → ⊥))

abbrev pub StrictlyBefore : List ℕ → List ℕ → Type 0
StrictlyBefore x y = StrictlyBeforeCounts x (count y)

-- 1: N is 1 to 16, and u is below N.
abbrev pub Users : ℕ → ℕ → Type 0
Users N u = (1 ≤ N) × (N ≤ 16) × (u < N)

-- 2: every length is the stated one; the list is of whole records, N at most, with a mark for each.
pub record Sizes (N : ℕ) (mem : List ℕ) (c : Call) : Type 0 where
  pub none_or_one : (length mem ≡ 0) ⊎ (length mem ≡ size)
  pub whole : size * records c.list ≡ length c.list
  pub at_most : records c.list ≤ N
  pub one_mark_each : length c.marks ≡ records c.list

-- 3: what is remembered is none, or well formed and u's own.
abbrev pub Remembered : ℕ → ℕ → List ℕ → Type 0
Remembered N u mem = (mem ≡ []) ⊎ (WellFormed N mem × (owner mem ≡ u))

-- 3: record i is well formed, and its owner is above that of the record before it.
abbrev pub WellPlaced : ℕ → List ℕ → ℕ → Type 0
WellPlaced N list i = WellFormed N (record_at list i) × (0 < i → owner (record_at list (i - 1)) < owner (record_at list i))

-- 4: mark i is 1.
abbrev pub Marked : List ℕ → ℕ → Type 0
Marked marks i = get_or marks i 0 ≡ 1

-- 5: the list's record for u is the remembered structure, byte for byte, and there is one if one is remembered. (A record is never no
-- bytes, so that there is none if none is remembered.)
pub record Current (u : ℕ) (mem list : List ℕ) : Type 0 where
  pub same_bytes : (i : ℕ) → i < records list → owner (record_at list i) ≡ u → record_at list i ≡ mem
  pub is_listed : (mem ≡ [] → ⊥) → (i : ℕ) × (i < records list) × (owner (record_at list i) ≡ u)

-- 6: the remembered own count is not the last.
abbrev pub NotLast : ℕ → List ℕ → Type 0
NotLast u mem = count mem u ≡ last_count → ⊥

-- 7: of the records i and j one is at or before the other; where j is the list's length, record i is strictly before the new structure.
abbrev pub Ordered : List ℕ → (ℕ → ℕ) → ℕ → ℕ → Type 0
Ordered list new i j =
    (j < records list → AtOrBefore (record_at list i) (record_at list j) ⊎ AtOrBefore (record_at list j) (record_at list i)) ×
    (j ≡ records list → StrictlyBeforeCounts (record_at list i) new)

-- The new structure's counts.
abbrev pub new_of : List ℕ → Call → ℕ → ℕ
new_of mem c = next_count c.user mem c.list

abbrev pub new_counts : List ℕ → Call → List ℕ
new_counts mem c = next_counts c.user mem c.list

-- The conditions up to each one, in the order in which they are tried.
abbrev pub ToSizes : ℕ → List ℕ → Call → Type 0
ToSizes N mem c = Users N c.user × Sizes N mem c

abbrev pub ToRemembered : ℕ → List ℕ → Call → Type 0
ToRemembered N mem c = ToSizes N mem c × Remembered N c.user mem

abbrev pub ToPlaced : ℕ → List ℕ → Call → Type 0
ToPlaced N mem c = ToRemembered N mem c × ((i : ℕ) → i < records c.list → WellPlaced N c.list i)

abbrev pub ToMarked : ℕ → List ℕ → Call → Type 0
ToMarked N mem c = ToPlaced N mem c × ((i : ℕ) → i < records c.list → Marked c.marks i)

abbrev pub ToCurrent : ℕ → List ℕ → Call → Type 0
ToCurrent N mem c = ToMarked N mem c × Current c.user mem c.list

abbrev pub ToNotLast : ℕ → List ℕ → Call → Type 0
ToNotLast N mem c = ToCurrent N mem c × NotLast c.user mem

abbrev pub AllConditions : ℕ → List ℕ → Call → Type 0
AllConditions N mem c =
    ToNotLast N mem c × ((i j : ℕ) → i < j → j ≤ records c.list → Ordered c.list (new_of mem c) i j)

-- Why a call is refused with a number and two positions: all earlier conditions hold and this one does not; among records or pairs, the first
-- at which it does not.
pub data Why (N : ℕ) (mem : List ℕ) (c : Call) : ℕ → ℕ → ℕ → Type 0 where
  users : (Users N c.user → ⊥) → Why N mem c 1 0 0
  lengths : Users N c.user → (Sizes N mem c → ⊥) → Why N mem c 2 0 0
  remembered : ToSizes N mem c → (Remembered N c.user mem → ⊥) → Why N mem c 3 16 0
  placed : (i : ℕ) → ToRemembered N mem c → First (WellPlaced N c.list) (records c.list) i → Why N mem c 3 i 0
  unmarked : (i : ℕ) → ToPlaced N mem c → First (Marked c.marks) (records c.list) i → Why N mem c 4 i 0
  not_current : ToMarked N mem c → (Current c.user mem c.list → ⊥) → Why N mem c 5 0 0
  last : ToCurrent N mem c → (NotLast c.user mem → ⊥) → Why N mem c 6 0 0
  unordered :
      (i j : ℕ) → ToNotLast N mem c → FirstPair (Ordered c.list (new_of mem c)) (records c.list) i j → Why N mem c 7 i j

-- The check accepts exactly where all conditions hold, with the new counts; and it refuses exactly for these reasons.
abbrev pub CheckMeans : Type 0
CheckMeans =
    (N : ℕ) (mem : List ℕ) (c : Call) →
    ((a : List ℕ) → (called N mem c ≡ accepted a) ↔ (AllConditions N mem c × (a ≡ new_counts mem c))) ×
    ((n p q : ℕ) → (called N mem c ≡ refused n p q) ↔ Why N mem c n p q)

-- "For each other user its count is that user's own count in its list record, or 0; for u it is the remembered own count plus 1, or 1."
pub record New (mem : List ℕ) (c : Call) (counts : List ℕ) : Type 0 where
  pub sixteen : length counts ≡ 16
  pub one_more : get_or counts c.user 0 ≡ count mem c.user + 1
  pub the_first : mem ≡ [] → get_or counts c.user 0 ≡ 1
  pub as_listed :
      (i : ℕ) → i < records c.list → (owner (record_at c.list i) ≡ c.user → ⊥) →
      get_or counts (owner (record_at c.list i)) 0 ≡ own (record_at c.list i)
  pub absent :
      (v : ℕ) → v < 16 → (v ≡ c.user → ⊥) → ((i : ℕ) → i < records c.list → owner (record_at c.list i) ≡ v → ⊥) →
      get_or counts v 0 ≡ 0

-- What the new counts are, wherever the records are judged well formed: for every accepted call, and wherever they are compared.
abbrev pub NewMeans : Type 0
NewMeans = (N : ℕ) (mem : List ℕ) (c : Call) → ToPlaced N mem c → New mem c (new_counts mem c)
