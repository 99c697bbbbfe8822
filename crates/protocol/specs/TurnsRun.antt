-- The run that turns form: the honest half is about runs too, and its files are the clients'.
use Rattle.std.specs.Prelude.{ℕ, List, [], ◌∷◌, ◌≡◌, replicate}
use Rattle.refusal.specs.Answer.{Answer, accepted, refused}
use Rattle.protocol.specs.declared.Server.{Server}
use Rattle.protocol.specs.Version.{size}
use Rattle.protocol.specs.List.{records}
use Rattle.protocol.specs.History.{whole, Event, checks, creates, marks_sent, file}
use Rattle.protocol.specs.NoJoin.{CheckedCounts}
use Rattle.protocol.specs.Turns.{Turn, fetched, judged, turn, after}

-- A turn adds its check, "on exactly the records listed, each with mark 1", and none where the listing is refused.
abbrev pub with_check : Turn → Answer (List ℕ) → List Event → List Event
with_check t (accepted list) earlier = checks (record { user = t.user; list = list; marks = replicate (records list) 1 }) ∷ earlier
with_check t (refused n p q) earlier = earlier

-- Then its making step, with the counts of that check and a whole pending write, and none where the check gives none.
abbrev pub with_making : Turn → Answer (List ℕ) → List Event → List Event
with_making t (accepted counts) earlier =
    creates (record { user = t.user; counts = counts; handle = t.handle; room = size }) whole ∷ earlier
with_making t (refused n p q) earlier = earlier

-- And its sent write, where the commit is accepted.
abbrev pub with_sent : Turn → Answer Server → List Event → List Event
with_sent t (accepted s) earlier = marks_sent t.user t.sent_write ∷ earlier
with_sent t (refused n p q) earlier = earlier

unfoldable pub events_of : ℕ → List Turn → List Event
events_of N [] = []
events_of N (t ∷ earlier) =
    with_sent t (turn N (after N earlier) t)
    (with_making t (judged N (after N earlier) t) (with_check t (fetched (after N earlier) t) (events_of N earlier)))

-- Each client's file after the turns is its file after the run of their checks, making steps and sent writes, for all turns, fair or not.
abbrev pub TurnsRun : Type 0
TurnsRun = (N : ℕ) (turns : List Turn) (v : ℕ) → file N (events_of N turns) v ≡ (after N turns).file v

-- Each making step of it gets counts that an earlier check gave at the same client, that of its turn: the run meets this premise of the first
-- half, everybody being honest.
abbrev pub TurnsLinked : Type 0
TurnsLinked = (N : ℕ) (turns : List Turn) → CheckedCounts N (λ v. Unit) (events_of N turns)
