-- What the check on a memory file means, with no test and no search: the conditions are those of the check on what the file holds, with the
-- file's own length and form, and where the list does not show what is held, "send again" or 5.
use Rattle.std.specs.Prelude.{ℕ, ◌+◌, ◌≤◌, ◌<◌, List, [], ◌⊎◌, ◌↔◌, ◌≡◌, length}
use Rattle.search.specs.First.{First, FirstPair}
use Rattle.refusal.specs.Answer.{accepted, refused}
use Rattle.protocol.specs.Version.{owner, own}
use Rattle.protocol.specs.List.{records, record_at}
use Rattle.protocol.specs.MemoryFile.{file_size, state, held, next, again}
use Rattle.protocol.specs.History.{Call, called_on}
use Rattle.protocol.specs.Meaning.{Users, Sizes, WellPlaced, Marked, Current, NotLast, Ordered, new_of, new_counts}
use Rattle.protocol.specs.MemoryMeaning.{Formed}

-- 2: the file is 100 bytes long, and the lengths of list and marks are those of a check without a memory.
abbrev pub FileSizes : ℕ → List ℕ → Call → Type 0
FileSizes N f c = Sizes N [] c × (length f ≡ file_size)

-- The list shows "the structure before it by own count, or no entry where the own count is 1".
abbrev pub ShowsBefore : ℕ → List ℕ → List ℕ → Type 0
ShowsBefore u x list =
    ((i : ℕ) × (i < records list) × (owner (record_at list i) ≡ u) × (own (record_at list i) + 1 ≡ own x)) ⊎
    (((i : ℕ) → i < records list → owner (record_at list i) ≡ u → ⊥) × (own x ≡ 1))

-- At 5's place: while pending, such a list is answered with "send again".
abbrev pub SendsAgain : ℕ → List ℕ → List ℕ → Type 0
SendsAgain u f list = (state f ≡ 1) × ShowsBefore u (held f) list

-- The conditions up to each one, in the order in which they are tried.
abbrev pub ToSizes : ℕ → List ℕ → Call → Type 0
ToSizes N f c = Users N c.user × FileSizes N f c

abbrev pub ToFormed : ℕ → List ℕ → Call → Type 0
ToFormed N f c = ToSizes N f c × Formed N c.user f

abbrev pub ToPlaced : ℕ → List ℕ → Call → Type 0
ToPlaced N f c = ToFormed N f c × ((i : ℕ) → i < records c.list → WellPlaced N c.list i)

abbrev pub ToMarked : ℕ → List ℕ → Call → Type 0
ToMarked N f c = ToPlaced N f c × ((i : ℕ) → i < records c.list → Marked c.marks i)

abbrev pub ToCurrent : ℕ → List ℕ → Call → Type 0
ToCurrent N f c = ToMarked N f c × Current c.user (held f) c.list

abbrev pub ToNotLast : ℕ → List ℕ → Call → Type 0
ToNotLast N f c = ToCurrent N f c × NotLast c.user (held f)

abbrev pub AllConditions : ℕ → List ℕ → Call → Type 0
AllConditions N f c =
    ToNotLast N f c × ((i j : ℕ) → i < j → j ≤ records c.list → Ordered c.list (new_of (held f) c) i j)

-- Why a check is refused with a number and two positions: all earlier conditions hold and this one does not; with 5, neither of two.
pub data Why (N : ℕ) (f : List ℕ) (c : Call) : ℕ → ℕ → ℕ → Type 0 where
  users : (Users N c.user → ⊥) → Why N f c 1 0 0
  lengths : Users N c.user → (FileSizes N f c → ⊥) → Why N f c 2 0 0
  malformed : ToSizes N f c → (Formed N c.user f → ⊥) → Why N f c 3 16 0
  placed : (i : ℕ) → ToFormed N f c → First (WellPlaced N c.list) (records c.list) i → Why N f c 3 i 0
  unmarked : (i : ℕ) → ToPlaced N f c → First (Marked c.marks) (records c.list) i → Why N f c 4 i 0
  not_current :
      ToMarked N f c → (Current c.user (held f) c.list → ⊥) → (SendsAgain c.user f c.list → ⊥) → Why N f c 5 0 0
  last : ToCurrent N f c → (NotLast c.user (held f) → ⊥) → Why N f c 6 0 0
  unordered :
      (i j : ℕ) → ToNotLast N f c → FirstPair (Ordered c.list (new_of (held f) c)) (records c.list) i j → Why N f c 7 i j

-- The check gives counts exactly where all conditions hold, the new ones of what is held; it says "send again" exactly where such a list is
-- shown and all before that holds, with just the bytes that are held; and it refuses exactly for these reasons.
abbrev pub CheckFileMeans : Type 0
CheckFileMeans =
    (N : ℕ) (f : List ℕ) (c : Call) →
    ((a : List ℕ) → (called_on N f c ≡ accepted (next a)) ↔ (AllConditions N f c × (a ≡ new_counts (held f) c))) ×
    ((x : List ℕ) → (called_on N f c ≡ accepted (again x)) ↔ ((ToMarked N f c × SendsAgain c.user f c.list) × (x ≡ held f))) ×
    ((n p q : ℕ) → (called_on N f c ≡ refused n p q) ↔ Why N f c n p q)
