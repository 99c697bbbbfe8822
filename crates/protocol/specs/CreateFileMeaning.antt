-- What the making step on a memory file means: the conditions are those of the making step on what the file holds, with the file's own length
-- and form.
use Rattle.std.specs.Prelude.{ℕ, List, [], ◌↔◌, ◌≡◌, length}
use Rattle.refusal.specs.Answer.{accepted, refused}
use Rattle.protocol.specs.MemoryFile.{file_size, held}
use Rattle.protocol.specs.History.{Making, created_on}
use Rattle.protocol.specs.Meaning.{Users, NotLast}
use Rattle.protocol.specs.CreateMeaning.{Lengths, NoneBeyond, OneMore, structure_of}
use Rattle.protocol.specs.MemoryMeaning.{Formed}

-- 2: the file is 100 bytes long, and the other lengths are those of a making step without a memory.
abbrev pub FileLengths : List ℕ → Making → Type 0
FileLengths f m = Lengths [] m × (length f ≡ file_size)

-- The conditions up to each one, in the order in which they are tried: 1, 2, 3, 3, 6, 16.
abbrev pub ToLengths : ℕ → List ℕ → Making → Type 0
ToLengths N f m = Users N m.user × FileLengths f m

abbrev pub ToFormed : ℕ → List ℕ → Making → Type 0
ToFormed N f m = ToLengths N f m × Formed N m.user f

abbrev pub ToNoneBeyond : ℕ → List ℕ → Making → Type 0
ToNoneBeyond N f m = ToFormed N f m × NoneBeyond N m.counts

abbrev pub ToNotLast : ℕ → List ℕ → Making → Type 0
ToNotLast N f m = ToNoneBeyond N f m × NotLast m.user (held f)

abbrev pub AllConditions : ℕ → List ℕ → Making → Type 0
AllConditions N f m = ToNotLast N f m × OneMore m.user (held f) m.counts

-- Why a making step is refused with a number and two positions: all earlier conditions hold and this one does not.
pub data Why (N : ℕ) (f : List ℕ) (m : Making) : ℕ → ℕ → ℕ → Type 0 where
  users : (Users N m.user → ⊥) → Why N f m 1 0 0
  lengths : Users N m.user → (FileLengths f m → ⊥) → Why N f m 2 0 0
  malformed : ToLengths N f m → (Formed N m.user f → ⊥) → Why N f m 3 16 0
  beyond : ToFormed N f m → (NoneBeyond N m.counts → ⊥) → Why N f m 3 0 0
  last : ToNoneBeyond N f m → (NotLast m.user (held f) → ⊥) → Why N f m 6 0 0
  not_next : ToNotLast N f m → (OneMore m.user (held f) m.counts → ⊥) → Why N f m 16 0 0

-- The making step accepts exactly where all conditions hold, with the structure of h); and it refuses exactly for these reasons.
abbrev pub CreateFileMeans : Type 0
CreateFileMeans =
    (N : ℕ) (f : List ℕ) (m : Making) →
    ((x : List ℕ) → (created_on N f m ≡ accepted x) ↔ (AllConditions N f m × (x ≡ structure_of m))) ×
    ((n p q : ℕ) → (created_on N f m ≡ refused n p q) ↔ Why N f m n p q)
