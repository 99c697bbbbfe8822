-- "And the last of these is the one the desk brings": the structures that a user signed, and the one in its file.
use Rattle.std.specs.Prelude.{ℕ, ◌≤◌, List, [], ◌⊎◌, ◌≡◌}
use Rattle.refusal.specs.Answer.{accepted}
use Rattle.protocol.specs.Version.{own}
use Rattle.protocol.specs.MemoryFile.{held, again}
use Rattle.protocol.specs.History.{Call, Event, file, answer, Signed}

-- A client's file holds none, and its user signed nothing yet; or it holds a structure that its user signed, and no other has a larger own
-- count.
abbrev pub Brings : Type 0
Brings =
    (N : ℕ) (run : List Event) (a : ℕ) →
    ((held (file N run a) ≡ []) × ((y : List ℕ) → Signed N run a y → ⊥)) ⊎
    (Signed N run a (held (file N run a)) × ((y : List ℕ) → Signed N run a y → own y ≤ own (held (file N run a))))

-- What a check wants sent again was signed: "the same bytes".
abbrev pub SendsSigned : Type 0
SendsSigned = (N : ℕ) (run : List Event) (c : Call) (x : List ℕ) → answer N run c ≡ accepted (again x) → Signed N run c.user x
