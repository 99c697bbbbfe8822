-- What the making step means, with no test and no search: each condition that it judges, in its order, each way to be refused, and what the
-- structure is that it makes.
use Rattle.std.specs.Prelude.{ℕ, ◌+◌, ◌≤◌, ◌<◌, List, [], ◌⊎◌, ◌↔◌, ◌≡◌, length, get_or, take, drop}
use Rattle.refusal.specs.Answer.{accepted, refused}
use Rattle.protocol.specs.Version.{size, kind, owner, count, structure}
use Rattle.protocol.specs.History.{Making, created}
use Rattle.protocol.specs.Meaning.{Users, Remembered, NotLast}

-- 2: every length is the stated one.
pub record Lengths (mem : List ℕ) (m : Making) : Type 0 where
  pub none_or_one : (length mem ≡ 0) ⊎ (length mem ≡ size)
  pub sixteen : length m.counts ≡ 16
  pub handle_long : length m.handle ≡ 32
  pub answer_long : m.room ≡ size

-- 3: the counts of users N to 15 are zero.
abbrev pub NoneBeyond : ℕ → List ℕ → Type 0
NoneBeyond N counts = (v : ℕ) → N ≤ v → v < 16 → get_or counts v 0 ≡ 0

-- 16: "the own count is .. one more than remembered, or than 0 if there is none."
pub record OneMore (u : ℕ) (mem counts : List ℕ) : Type 0 where
  pub than_remembered : (mem ≡ [] → ⊥) → get_or counts u 0 ≡ count mem u + 1
  pub than_none : mem ≡ [] → get_or counts u 0 ≡ 1

-- The conditions up to each one, in the order in which they are tried: 1, 2, 3, 3, 6, 16.
abbrev pub ToLengths : ℕ → List ℕ → Making → Type 0
ToLengths N mem m = Users N m.user × Lengths mem m

abbrev pub ToRemembered : ℕ → List ℕ → Making → Type 0
ToRemembered N mem m = ToLengths N mem m × Remembered N m.user mem

abbrev pub ToNoneBeyond : ℕ → List ℕ → Making → Type 0
ToNoneBeyond N mem m = ToRemembered N mem m × NoneBeyond N m.counts

abbrev pub ToNotLast : ℕ → List ℕ → Making → Type 0
ToNotLast N mem m = ToNoneBeyond N mem m × NotLast m.user mem

abbrev pub AllConditions : ℕ → List ℕ → Making → Type 0
AllConditions N mem m = ToNotLast N mem m × OneMore m.user mem m.counts

-- Why a making step is refused with a number and two positions: all earlier conditions hold and this one does not.
pub data Why (N : ℕ) (mem : List ℕ) (m : Making) : ℕ → ℕ → ℕ → Type 0 where
  users : (Users N m.user → ⊥) → Why N mem m 1 0 0
  lengths : Users N m.user → (Lengths mem m → ⊥) → Why N mem m 2 0 0
  remembered : ToLengths N mem m → (Remembered N m.user mem → ⊥) → Why N mem m 3 16 0
  beyond : ToRemembered N mem m → (NoneBeyond N m.counts → ⊥) → Why N mem m 3 0 0
  last : ToNoneBeyond N mem m → (NotLast m.user mem → ⊥) → Why N mem m 6 0 0
  not_next : ToNotLast N mem m → (OneMore m.user mem m.counts → ⊥) → Why N mem m 16 0 0

-- The structure of a making step: owner u, the handle and the counts that it got.
abbrev pub structure_of : Making → List ℕ
structure_of m = structure m.user m.handle (λ v. get_or m.counts v 0)

-- The making step accepts exactly where all conditions hold, with that structure; and it refuses exactly for these reasons.
abbrev pub CreateMeans : Type 0
CreateMeans =
    (N : ℕ) (mem : List ℕ) (m : Making) →
    ((x : List ℕ) → (created N mem m ≡ accepted x) ↔ (AllConditions N mem m × (x ≡ structure_of m))) ×
    ((n p q : ℕ) → (created N mem m ≡ refused n p q) ↔ Why N mem m n p q)

-- "The new structure has owner u and that handle", and the counts are those that were given.
pub record MadeOf (m : Making) (x : List ℕ) : Type 0 where
  pub long : length x ≡ size
  pub kind_one : kind x ≡ 1
  pub owned : owner x ≡ m.user
  pub handle_held : take 32 (drop 2 x) ≡ m.handle
  pub counted : (v : ℕ) → v < 16 → count x v ≡ get_or m.counts v 0

abbrev pub MadeMeans : Type 0
MadeMeans = (N : ℕ) (mem : List ℕ) (m : Making) (x : List ℕ) → created N mem m ≡ accepted x → MadeOf m x
