-- Demand 3, first half: a fork is never joined.
use Rattle.std.specs.Prelude.{ℕ, ◌≤◌, ◌<◌, List, ◌≡◌}
use Rattle.refusal.specs.Answer.{accepted}
use Rattle.refusal.specs.Run.{Each}
use Rattle.protocol.specs.Version.{owner, count, own}
use Rattle.protocol.specs.List.{records, record_at}
use Rattle.protocol.specs.MemoryFile.{next}
use Rattle.protocol.specs.History.{Call, Making, whole, Event, checks, creates, answer, outcome, Signed, Gave}
use Rattle.protocol.specs.Meaning.{Marked}

-- The premise of who signed: "in a list that a call accepts, a record whose owner is honest is byte for byte one that this owner signed
-- earlier in the run." The calls that accept lists are the checks that give counts.
abbrev pub SignedRecords : ℕ → (ℕ → Type 0) → List Event → Type 0
SignedRecords N honest =
    Each
    (λ earlier e.
    (c : Call) → e ≡ checks c → (s : List ℕ) → answer N earlier c ≡ accepted (next s) →
    (i : ℕ) → i < records c.list → honest (owner (record_at c.list i)) →
    Signed N earlier (owner (record_at c.list i)) (record_at c.list i))

-- "The making step gets counts that an earlier check gave at the same desk": any earlier one that accepted, whatever came between. It is
-- asked of the accepted making steps of honest users alone, and of those only whose pending write came whole.
abbrev pub CheckedCounts : ℕ → (ℕ → Type 0) → List Event → Type 0
CheckedCounts N honest =
    Each
    (λ earlier e.
    (m : Making) → e ≡ creates m whole → (x : List ℕ) → outcome N earlier m ≡ accepted x → honest m.user →
    Gave N earlier m.user m.counts)

abbrev pub Premise : ℕ → (ℕ → Type 0) → List Event → Type 0
Premise N honest run = SignedRecords N honest run × CheckedCounts N honest run

-- The list's entry for a has an own count of at least n.
abbrev pub Shows : List ℕ → ℕ → ℕ → Type 0
Shows list a n = (i : ℕ) × (i < records list) × (owner (record_at list i) ≡ a) × (n ≤ own (record_at list i))

-- "If honest A signed x, honest B signed y, x counts fewer operations of B than y does and y fewer of A than x does, then no call accepts a
-- server's list whose entry for A is x or later and whose entry for B is y or later."
abbrev pub NeverJoined : ℕ → (ℕ → Type 0) → List Event → Type 0
NeverJoined N honest run =
    (a b : ℕ) (x y : List ℕ) → honest a → honest b → Signed N run a x → Signed N run b y →
    count x b < count y b → count y a < count x a →
    Each
    (λ earlier e.
    (c : Call) → e ≡ checks c → (s : List ℕ) → answer N earlier c ≡ accepted (next s) →
    Shows c.list a (own x) → Shows c.list b (own y) → ⊥)
    run

abbrev pub NoJoin : Type 1
NoJoin = (N : ℕ) (honest : ℕ → Type 0) (run : List Event) → Premise N honest run → NeverJoined N honest run

-- The order's own premise, of every list, accepted or not: "We take it that a record marked as an honest user's was signed by that user
-- earlier in the run."
abbrev pub MarkedRecords : ℕ → (ℕ → Type 0) → List Event → Type 0
MarkedRecords N honest =
    Each
    (λ earlier e.
    (c : Call) → e ≡ checks c →
    (i : ℕ) → i < records c.list → Marked c.marks i → honest (owner (record_at c.list i)) →
    Signed N earlier (owner (record_at c.list i)) (record_at c.list i))

abbrev pub MarkedPremise : ℕ → (ℕ → Type 0) → List Event → Type 0
MarkedPremise N honest run = MarkedRecords N honest run × CheckedCounts N honest run

-- It implies the premise, since a check accepts no list with another mark than 1; so under it too a fork is never joined.
abbrev pub MarkedSuffices : Type 1
MarkedSuffices =
    (N : ℕ) (honest : ℕ → Type 0) (run : List Event) → MarkedPremise N honest run →
    Premise N honest run × NeverJoined N honest run
