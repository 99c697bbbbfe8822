-- The number and the two positions of each refusal, as the table "Refusal numbers" has them.
use Rattle.std.specs.Prelude.{Result, Ok, Err}
use Rattle.refusal.specs.Answer.{Answer, accepted, refused}
use Rattle.refusal.specs.declared.Refusal.{Refusal}
use Rattle.refusal.specs.declared.Refusal.TheVariants.{
  Users,
  Length,
  Malformed,
  Unsigned,
  NotCurrent,
  LastVersion,
  Unordered,
  WrongHash,
  PathLength,
  NoBlock,
  NotAscending,
  NoRoom,
  NoPlace,
  LastReference,
  NotHeld,
  NotNext,
  Pending,
}

abbrev pub refusal : {A : Type 0} → Refusal → Answer A
refusal Users = refused 1 0 0
refusal (Length p) = refused 2 p 0
refusal (Malformed p) = refused 3 p 0
refusal (Unsigned p) = refused 4 p 0
refusal NotCurrent = refused 5 0 0
refusal LastVersion = refused 6 0 0
refusal (Unordered p q) = refused 7 p q
refusal (WrongHash p) = refused 8 p 0
refusal (PathLength p) = refused 9 p 0
refusal NoBlock = refused 10 0 0
refusal (NotAscending p) = refused 11 p 0
refusal NoRoom = refused 12 0 0
refusal NoPlace = refused 13 0 0
refusal LastReference = refused 14 0 0
refusal NotHeld = refused 15 0 0
refusal NotNext = refused 16 0 0
refusal Pending = refused 17 0 0

-- What a call says whose code gives its result or a refusal.
abbrev pub said : {A : Type 0} → Result A Refusal → Answer A
said (Ok a) = accepted a
said (Err r) = refusal r

-- The answer of a call whose result is `a`, where its code tells only whether it is refused.
abbrev pub checked : {A : Type 0} → A → Result Unit Refusal → Answer A
checked a (Ok u) = accepted a
checked a (Err r) = refusal r
