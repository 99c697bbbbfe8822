-- A run in which the server forks two honest users, event by event as in the marked examples P1 to P5, the last two checks both before
-- their making steps: the premise of demand 3 can be met, its fork does occur, and the list that would join it is refused.
use Rattle.std.specs.Prelude.{ℕ, ◌<◌, List, [], ◌∷◌, ◌++◌, ◌≡◌, replicate}
use Rattle.layout.specs.Bytes.{bytes4}
use Rattle.refusal.specs.Answer.{accepted, refused}
use Rattle.protocol.specs.Version.{size, count}
use Rattle.protocol.specs.List.{records}
use Rattle.protocol.specs.MemoryFile.{next}
use Rattle.protocol.specs.History.{Call, Making, whole, Event, checks, creates, answer, outcome, Signed}
use Rattle.protocol.specs.NoJoin.{Premise, MarkedPremise}

-- "N is 2; user 0 is A, 1 is B; counts in brackets; marks 1 unless said." The bytes of [a,b] of this owner, with a zero handle, and the
-- two_counts counts.
unfoldable pub counting : ℕ → ℕ → ℕ → List ℕ
counting owner a b = 1 ∷ owner ∷ (replicate 32 0 ++ (bytes4 a ++ (bytes4 b ++ replicate 56 0)))

unfoldable pub two_counts : ℕ → ℕ → List ℕ
two_counts a b = a ∷ b ∷ replicate 14 0

-- A check at the client of `user`, and a making step from [a,b] with this handle, with lengths as they are due.
unfoldable pub call_on : ℕ → List ℕ → Call
call_on user list = record { user = user; list = list; marks = replicate (records list) 1 }

unfoldable pub making_of : ℕ → ℕ → ℕ → List ℕ → Making
making_of user a b handle = record { user = user; counts = two_counts a b; handle = handle; room = size }

abbrev pub zeros : List ℕ
zeros = replicate 32 0

unfoldable pub p1 : Call
p1 = call_on 0 []

unfoldable pub m1 : Making
m1 = making_of 0 1 0 zeros

unfoldable pub p2 : Call
p2 = call_on 1 (counting 0 1 0)

unfoldable pub m2 : Making
m2 = making_of 1 1 1 zeros

unfoldable pub p3 : Call
p3 = call_on 0 (counting 0 1 0 ++ counting 1 1 1)

unfoldable pub m3 : Making
m3 = making_of 0 2 1 zeros

-- The server shows B what it showed A, as if A's operation were not under way.
unfoldable pub p4 : Call
p4 = call_on 1 (counting 0 1 0 ++ counting 1 1 1)

unfoldable pub m4 : Making
m4 = making_of 1 1 2 zeros

-- The server shows one of them both sides of the fork.
unfoldable pub p5 : ℕ → Call
p5 user = call_on user (counting 0 2 1 ++ counting 1 1 2)

-- A second touch of A's card: the same counts once more, with another handle.
unfoldable pub again : Making
again = making_of 0 2 1 (replicate 32 1)

-- P1 and P2; then both checks, A's first; then both making steps, B's first.
abbrev pub two_signed : List Event
two_signed = creates m2 whole ∷ checks p2 ∷ creates m1 whole ∷ checks p1 ∷ []

abbrev pub both_checked : List Event
both_checked = checks p4 ∷ checks p3 ∷ two_signed

abbrev pub forked_run : List Event
forked_run = creates m3 whole ∷ creates m4 whole ∷ both_checked

-- Everybody is honest, and both forms of the premise are met. A's last structure and B's are a fork; both were made from one list of two
-- entries, which both had accepted before. A second structure from A's counts is refused, and a check of both sides is, at either client.
pub record ForkedRun : Type 0 where
  pub premise : Premise 2 (λ v. Unit) forked_run
  pub marked_premise : MarkedPremise 2 (λ v. Unit) forked_run
  pub signed_by_a : Signed 2 forked_run 0 (counting 0 2 1)
  pub signed_by_b : Signed 2 forked_run 1 (counting 1 1 2)
  pub fewer_of_b : count (counting 0 2 1) 1 < count (counting 1 1 2) 1
  pub fewer_of_a : count (counting 1 1 2) 0 < count (counting 0 2 1) 0
  pub two_entries : records p3.list ≡ 2
  pub third_accepts : answer 2 two_signed p3 ≡ accepted (next (two_counts 2 1))
  pub fourth_accepts : answer 2 (checks p3 ∷ two_signed) p4 ≡ accepted (next (two_counts 1 2))
  pub b_makes : outcome 2 both_checked m4 ≡ accepted (counting 1 1 2)
  pub a_makes : outcome 2 (creates m4 whole ∷ both_checked) m3 ≡ accepted (counting 0 2 1)
  pub again_refused : outcome 2 forked_run again ≡ refused 16 0 0
  pub fifth_refused : (user : ℕ) → user < 2 → answer 2 forked_run (p5 user) ≡ refused 7 0 1
