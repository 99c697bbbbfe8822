-- A refusal by its number: what follows for any call, one case for each variant said once.
use Prim.Native.Nat.{ℕ}
use mathlib.Core.Path.{◌≡◌, refl}
use Rattle.refusal.specs.Answer.{Answer, refused, and_then}
use Rattle.refusal.specs.Refusal.{refusal}
use Rattle.refusal.specs.Result.{left}
use Rattle.refusal.specs.declared.Refusal.{Refusal}
use Rattle.refusal.specs.declared.Refusal.TheVariants.{
  Users,
  Length,
  Malformed,
  Unsigned,
  NotCurrent,
  LastVersion,
  Unordered,
  WrongHash,
  PathLength,
  NoBlock,
  NotAscending,
  NoRoom,
  NoPlace,
  LastReference,
  NotHeld,
  NotNext,
  Pending,
}

-- Each refusal has one number and two positions, whatever the call's result would be.
pub numbered : (r : Refusal) → (n : ℕ) × (p : ℕ) × (q : ℕ) × ((A : Type 0) → refusal {A = A} r ≡ refused n p q)
numbered Users = (1, 0, 0, λ A. refl)
numbered (Length p) = (2, p, 0, λ A. refl)
numbered (Malformed p) = (3, p, 0, λ A. refl)
numbered (Unsigned p) = (4, p, 0, λ A. refl)
numbered NotCurrent = (5, 0, 0, λ A. refl)
numbered LastVersion = (6, 0, 0, λ A. refl)
numbered (Unordered p q) = (7, p, q, λ A. refl)
numbered (WrongHash p) = (8, p, 0, λ A. refl)
numbered (PathLength p) = (9, p, 0, λ A. refl)
numbered NoBlock = (10, 0, 0, λ A. refl)
numbered (NotAscending p) = (11, p, 0, λ A. refl)
numbered NoRoom = (12, 0, 0, λ A. refl)
numbered NoPlace = (13, 0, 0, λ A. refl)
numbered LastReference = (14, 0, 0, λ A. refl)
numbered NotHeld = (15, 0, 0, λ A. refl)
numbered NotNext = (16, 0, 0, λ A. refl)
numbered Pending = (17, 0, 0, λ A. refl)

-- A refusal ends what would follow it, and a refused call keeps what was there before.
pub ends : {A B : Type 0} (r : Refusal) (f : B → Answer A) → and_then (refusal r) f ≡ refusal r
ends {A} {B} r f = let w = numbered r in rw (w.3 B, w.3 A)

pub keeps : {A : Type 0} (r : Refusal) (before : A) → left (refusal r) before ≡ before
keeps {A} r before = rw ((numbered r).3 A)
