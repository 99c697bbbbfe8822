-- The files of turns are those of the run of their checks, making steps and sent writes: each is judged on the file that the run so far leaves,
-- a check writes nothing, and where there is no making step neither file changes.
use Prim.Native.Nat.{ℕ}
use mathlib.Core.Bool.{cond}
use mathlib.Core.List.{List, [], ◌∷◌}
use mathlib.Core.Logic.{inl, ⊎_elim}
use mathlib.Core.Path.{◌≡◌, refl, sym, ap, ◌∙◌}
use native.Mathlib.Omega.{arith}
use lib.Dec.{eqb}
use lib.ListN.{replicate}
use borrow.Author.Tests.{eqb-true}
use Rattle.search.proofs.Bool.{bool_cases}
use Rattle.refusal.specs.Answer.{Answer, accepted, refused, and_then}
use Rattle.protocol.specs.declared.Server.{Server}
use Rattle.protocol.specs.Version.{size}
use Rattle.protocol.specs.List.{records}
use Rattle.protocol.specs.MemoryFile.{Verdict, next, again}
use Rattle.protocol.specs.History.{Fate, whole, absent, Event, marks_sent, Making, written, after_write, after_event, file_from, file, Gave}
use Rattle.protocol.specs.NoJoin.{CheckedCounts}
use Rattle.protocol.specs.Turns.{Turn, World, start, fetched, checked_in, counts_in, judged, made_in, turn, after_commit, file_after, after}
use Rattle.protocol.specs.TurnsRun.{with_check, with_making, with_sent, events_of, TurnsRun, TurnsLinked}
use Rattle.protocol.proofs.SteadyTurns.{cond_same}

module _ (N : ℕ) (t : Turn) (events : List Event) where
  check_keeps : (a : Answer (List ℕ)) (v : ℕ) → file N (with_check t a events) v ≡ file N events v
  unfolding file_from
  check_keeps (accepted list) v = cond_same (eqb t.user v) (file N events v)
  check_keeps (refused n p q) v = refl

-- A sent write, whole or absent, is the run's event.
fate_leaves : (N u : ℕ) (s : Server) (k : Fate) (f : List ℕ) → after_event N f (marks_sent u k) ≡ after_commit N u (accepted s) k f
fate_leaves N u s whole f = refl
fate_leaves N u s absent f = refl

module _ (N : ℕ) (w : World) (t : Turn) (events : List Event) (so_far : (v : ℕ) → file N events v ≡ w.file v) where
  making_leaves :
      (a : Answer (List ℕ)) → judged N w t ≡ a →
      (v : ℕ) → file N (with_making t a events) v ≡ cond (eqb t.user v) (after_write (written (made_in N w t)) (w.file v)) (w.file v)
  unfolding file_from made_in
  making_leaves (accepted counts) e v =
      ⊎_elim (λ y. let u : t.user ≡ v = eqb-true t.user v y in rw (y, e, so_far v, u)) (λ n. rw n (so_far v)) (bool_cases (eqb t.user v))
  making_leaves (refused n p q) e v = rw e (so_far v ∙ sym (cond_same (eqb t.user v) (w.file v)))

-- Then the sent write.
module _ (N : ℕ) (t : Turn) (events : List Event) (pended before : ℕ → List ℕ) (so_far : (v : ℕ) → file N events v ≡ cond (eqb t.user v) (pended v) (before v)) where
  sent_leaves :
      (a : Answer Server) (v : ℕ) →
      file N (with_sent t a events) v ≡ cond (eqb t.user v) (after_commit N t.user a t.sent_write (pended v)) (before v)
  unfolding file_from
  sent_leaves (refused n p q) v = so_far v
  sent_leaves (accepted s) v =
      ⊎_elim (λ y. let h = rw y at (so_far v) in rw y (ap (λ f. after_event N f (marks_sent t.user t.sent_write)) h ∙ fate_leaves N t.user s t.sent_write (pended v))) (λ n. rw n (let h = rw n at (so_far v) in h)) (bool_cases (eqb t.user v))

pub turns_run : TurnsRun
unfolding after start events_of file_from file_after
turns_run N [] v = refl
turns_run N (t ∷ earlier) v =
    let w : World = after N earlier in
    let checked : List Event = with_check t (fetched w t) (events_of N earlier) in
    let before : (v : ℕ) → file N checked v ≡ w.file v = λ v. check_keeps N t (events_of N earlier) (fetched w t) v ∙ turns_run N earlier v in
    sent_leaves N t (with_making t (judged N w t) checked) (λ v. after_write (written (made_in N w t)) (w.file v)) w.file
    (making_leaves N w t checked before (judged N w t) refl) (turn N w t) v

-- Counts are read of a verdict that has them.
counts_given : (a : Answer Verdict) (counts : List ℕ) → and_then a counts_in ≡ accepted counts → a ≡ accepted (next counts)
counts_given (accepted (next c)) counts e = cc
counts_given (accepted (again x)) counts e = let z : ◌≡◌ {A = ℕ} 0 1 = cc in absurd (omega arith)
counts_given (refused n p q) counts e = let z : ◌≡◌ {A = ℕ} 0 1 = cc in absurd (omega arith)

-- A check is no making step, and the turn's gave the counts that its making step gets.
linked_check :
    (N : ℕ) (t : Turn) (a : Answer (List ℕ)) (events : List Event) → CheckedCounts N (λ v. Unit) events →
    CheckedCounts N (λ v. Unit) (with_check t a events)
linked_check N t (accepted list) events h = (λ m e x p q. let z : ◌≡◌ {A = ℕ} 0 1 = cc in absurd (omega arith), h)
linked_check N t (refused n p q) events h = h

module _ (N : ℕ) (w : World) (t : Turn) (events : List Event) (so_far : (v : ℕ) → file N events v ≡ w.file v) where
  gave_here :
      (a : Answer (List ℕ)) → fetched w t ≡ a → (counts : List ℕ) → judged N w t ≡ accepted counts →
      Gave N (with_check t a events) t.user counts
  unfolding judged checked_in
  gave_here (accepted list) e counts j =
      inl (
        record { user = t.user; list = list; marks = replicate (records list) 1 },
        refl,
        refl,
        rw (so_far t.user) (counts_given _ counts (rw e at j)),
      )
  gave_here (refused n p q) e counts j = let k = rw e at j in let z : ◌≡◌ {A = ℕ} 0 1 = cc in absurd (omega arith)

  linked_making :
      CheckedCounts N (λ v. Unit) events → (a : Answer (List ℕ)) → judged N w t ≡ a →
      CheckedCounts N (λ v. Unit) (with_making t a (with_check t (fetched w t) events))
  linked_making h (accepted counts) e = (
    λ m q x p o.
        let s : Making = record { user = t.user; counts = counts; handle = t.handle; room = size } in
        let same : s ≡ m = cc in rw (← same) (gave_here (fetched w t) refl counts e),
    linked_check N t (fetched w t) events h,
  )
  linked_making h (refused n p q) e = linked_check N t (fetched w t) events h

linked_sent :
    (N : ℕ) (t : Turn) (a : Answer Server) (events : List Event) → CheckedCounts N (λ v. Unit) events →
    CheckedCounts N (λ v. Unit) (with_sent t a events)
linked_sent N t (accepted s) events h = (λ m e x p q. let z : ◌≡◌ {A = ℕ} 0 1 = cc in absurd (omega arith), h)
linked_sent N t (refused n p q) events h = h

pub turns_linked : TurnsLinked
unfolding events_of
turns_linked N [] = tt
turns_linked N (t ∷ earlier) =
    let w : World = after N earlier in
    linked_sent N t (turn N w t) _
    (linked_making N w t (events_of N earlier) (turns_run N earlier) (turns_linked N earlier) (judged N w t) refl)
