-- A run with cuts: A's machine dies between making and writing, and again between writing and sending.
use Rattle.std.specs.Prelude.{ℕ, List, [], ◌∷◌, ◌++◌, ◌≡◌, get_or, replicate}
use Rattle.refusal.specs.Answer.{accepted, refused}
use Rattle.protocol.specs.Version.{own, structure}
use Rattle.protocol.specs.MemoryFile.{file_size, file_of, next, again, over}
use Rattle.protocol.specs.History.{Call, Making, whole, absent, Event, checks, creates, marks_sent, Counted, answer, outcome, Signed}
use Rattle.protocol.specs.NoJoin.{Premise}
use Rattle.protocol.specs.ForkedRun.{counting, two_counts, call_on, making_of}

-- A (user 0) checks an empty list, and makes its first structure with one handle, whose write is absent; then with another, whose write comes
-- whole.
unfoldable pub empty : Call
empty = call_on 0 []

unfoldable pub lost_making : Making
lost_making = making_of 0 1 0 (replicate 32 1)

unfoldable pub kept_making : Making
kept_making = making_of 0 1 0 (replicate 32 2)

-- The two structures, both of own count 1.
unfoldable pub lost : List ℕ
lost = structure 0 (replicate 32 1) (λ v. get_or (two_counts 1 0) v 0)

unfoldable pub kept : List ℕ
kept = structure 0 (replicate 32 2) (λ v. get_or (two_counts 1 0) v 0)

-- A third touch of the card, from the old counts.
unfoldable pub late : Making
late = making_of 0 1 0 (replicate 32 3)

-- The structure is sent again, and B (user 1) makes its own on it.
unfoldable pub shown : Call
shown = call_on 1 kept

unfoldable pub of_b : Making
of_b = making_of 1 1 1 (replicate 32 0)

-- A, whose file is still pending, is shown both.
unfoldable pub both : Call
both = call_on 0 (kept ++ counting 1 1 1)

abbrev pub checked : List Event
checked = checks empty ∷ []

abbrev pub cut_once : List Event
cut_once = creates lost_making absent ∷ checked

abbrev pub cut_twice : List Event
cut_twice = creates kept_making whole ∷ cut_once

abbrev pub late_touch : List Event
late_touch = creates late whole ∷ checks empty ∷ cut_twice

abbrev pub on_b : List Event
on_b = creates of_b whole ∷ checks shown ∷ late_touch

abbrev pub cut_run : List Event
cut_run = marks_sent 0 whole ∷ checks both ∷ on_b

-- A run from a file that was moved over.
unfoldable pub old : List ℕ
old = counting 0 1 0

abbrev pub moved_run : List Event
moved_run = creates (making_of 0 2 0 (replicate 32 0)) whole ∷ []

-- Everybody is honest, and the premise of demand 3 is met.
pub record CutRun : Type 0 where
  pub premise : Premise 2 (λ v. Unit) cut_run
  pub first_check : answer 2 [] empty ≡ accepted (next (two_counts 1 0))
  -- Two different structures of one own count are made, and one of them is counted.
  pub lost_made : outcome 2 checked lost_making ≡ accepted lost
  pub kept_made : outcome 2 cut_once kept_making ≡ accepted kept
  pub differ : lost ≡ kept → ⊥
  pub one_count : own lost ≡ own kept
  pub kept_counts : Signed 2 cut_run 0 kept
  pub lost_does_not : Signed 2 cut_run 0 lost → ⊥
  -- A list without A is "send again" with just these bytes, and of the old counts nothing is made.
  pub sends_it_again : answer 2 cut_twice empty ≡ accepted (again kept)
  pub no_third : outcome 2 (checks empty ∷ cut_twice) late ≡ refused 16 0 0
  -- B accepts the list that shows it; and A, pending, both, as it does when its file is marked as sent.
  pub b_accepts : answer 2 late_touch shown ≡ accepted (next (two_counts 1 1))
  pub a_goes_on : answer 2 on_b both ≡ accepted (next (two_counts 2 1))
  pub as_if_sent : answer 2 cut_run both ≡ accepted (next (two_counts 2 1))
  -- Then the older list is 5.
  pub older_refused : answer 2 cut_run empty ≡ refused 5 0 0
  -- What was moved over is followed by the next count.
  pub moved_over : over 2 0 old file_size ≡ accepted (file_of old)
  pub moved_counts : Counted 2 (file_of old) moved_run 0 (counting 0 2 0)
