-- What a commit means, with no test and no search: each condition that it judges, in its order, each way to be refused, and what the server
-- holds afterwards.
use Rattle.std.specs.Prelude.{ℕ, ◌+◌, ◌*◌, ◌<◌, List, ◌↔◌, ◌≡◌, length}
use Rattle.search.specs.First.{First}
use Rattle.refusal.specs.Answer.{accepted, refused}
use Rattle.protocol.specs.declared.Server.{Server}
use Rattle.protocol.specs.Version.{size, owner, count, own}
use Rattle.protocol.specs.Server.{slot, commit}
use Rattle.protocol.specs.Meaning.{WellFormed, StrictlyBefore}

-- The server holds y of user v: the bytes at v's place, which count an operation of v. It holds none of v where they count none.
abbrev pub Holds : Server → ℕ → List ℕ → Type 0
Holds s v y = (slot s v ≡ y) × (count y v ≡ 0 → ⊥)

abbrev pub HoldsNone : Server → ℕ → Type 0
HoldsNone s v = count (slot s v) v ≡ 0

-- 2: the record's length is the stated one.
abbrev pub Long : List ℕ → Type 0
Long x = length x ≡ size

-- 5: the own count is one more than the held one, or than 0 if none is held.
pub record OneMore (s : Server) (x : List ℕ) : Type 0 where
  pub than_held : (y : List ℕ) → Holds s (owner x) y → own x ≡ count y (owner x) + 1
  pub than_none : HoldsNone s (owner x) → own x ≡ 1

-- 7, at user v: the held record is strictly before the new one, and, the user being another, the new one's count for that user is the held
-- own count, 0 if none is held.
pub record Follows (s : Server) (x : List ℕ) (v : ℕ) : Type 0 where
  pub after_held : (y : List ℕ) → Holds s v y → StrictlyBefore y x
  pub counts_held : (v ≡ owner x → ⊥) → (y : List ℕ) → Holds s v y → count x v ≡ count y v
  pub counts_none : (v ≡ owner x → ⊥) → HoldsNone s v → count x v ≡ 0

-- The conditions up to each one, in the order in which they are tried: "Order for a commit: 2, 3, 4, 5, 7."
abbrev pub ToFormed : Server → List ℕ → Type 0
ToFormed s x = Long x × WellFormed s.users x

abbrev pub ToMarked : Server → List ℕ → ℕ → Type 0
ToMarked s x mark = ToFormed s x × (mark ≡ 1)

abbrev pub ToOneMore : Server → List ℕ → ℕ → Type 0
ToOneMore s x mark = ToMarked s x mark × OneMore s x

abbrev pub AllConditions : Server → List ℕ → ℕ → Type 0
AllConditions s x mark = ToOneMore s x mark × ((v : ℕ) → v < 16 → Follows s x v)

-- Why a commit is refused with a number and two positions: all earlier conditions hold and this one does not; among users, the lowest of
-- whom it does not.
pub data Why (s : Server) (x : List ℕ) (mark : ℕ) : ℕ → ℕ → ℕ → Type 0 where
  not_long : (Long x → ⊥) → Why s x mark 2 0 0
  not_formed : Long x → (WellFormed s.users x → ⊥) → Why s x mark 3 0 0
  unmarked : ToFormed s x → (mark ≡ 1 → ⊥) → Why s x mark 4 0 0
  not_next : ToMarked s x mark → (OneMore s x → ⊥) → Why s x mark 5 0 0
  unordered : (v : ℕ) → ToOneMore s x mark → First (Follows s x) 16 v → Why s x mark 7 v 0

-- "The record replaces its owner's": t is s, but for the record that is now held of its owner.
pub record Replaces (s : Server) (x : List ℕ) (t : Server) : Type 0 where
  pub same_users : t.users ≡ s.users
  pub same_length : length t.records ≡ length s.records
  pub now_held : Holds t (owner x) x
  pub others_kept : (v : ℕ) → (v ≡ owner x → ⊥) → slot t v ≡ slot s v

-- A commit to the sixteen places of a server accepts exactly where all conditions hold, and leaves exactly such a t; and it refuses exactly
-- for these reasons.
abbrev pub CommitMeans : Type 0
CommitMeans =
    (s : Server) (x : List ℕ) (mark : ℕ) → length s.records ≡ 16 * size →
    ((t : Server) → (commit s x mark ≡ accepted t) ↔ (AllConditions s x mark × Replaces s x t)) ×
    ((n p q : ℕ) → (commit s x mark ≡ refused n p q) ↔ Why s x mark n p q)
