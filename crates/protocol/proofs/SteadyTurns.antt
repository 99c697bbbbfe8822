-- Every world after fair turns is steady: the empty list is, an accepted turn keeps it so, and a refused turn changes nothing.
use Prim.Native.Nat.{ℕ, ◌+◌, ◌*◌, ◌≤◌, ◌<◌}
use mathlib.Core.Bool.{Bool, true, false, cond}
use mathlib.Core.List.{List, [], ◌∷◌, ◌++◌}
use mathlib.Core.Logic.{inl}
use mathlib.Core.Path.{◌≡◌, refl, sym, ap, ◌∙◌}
use native.Mathlib.Decide.{ℕ_discrete}
use native.Mathlib.Omega.{arith}
use lib.Dec.{eqb}
use lib.ListN.{length, drop}
use lib.Seq.{take_at}
use borrow.Author.Tests.{le-leb}
use Rattle.layout.proofs.Strings.{same_refl}
use Rattle.refusal.specs.Answer.{Answer, accepted, refused, and_then}
use Rattle.refusal.specs.Result.{left}
use Rattle.refusal.proofs.Order.{Passing, passing}
use Rattle.protocol.specs.declared.Server.{Server}
use Rattle.protocol.specs.Version.{size, count}
use Rattle.protocol.specs.List.{records}
use Rattle.protocol.specs.Check.{last_count, current}
use Rattle.protocol.specs.MemoryFile.{file_size, held as held_in, none, formed, pending_of, sent_of, sent, sends_again, again}
use Rattle.protocol.specs.Server.{empty, held, held_own, all_held, list_steps, listed, listing, replaced}
use Rattle.protocol.specs.History.{called, Fate, whole, absent}
use Rattle.protocol.specs.Meaning.{Users}
use Rattle.protocol.specs.MemoryMeaning.{is_sent, is_pending, Formed}
use Rattle.protocol.specs.Moved.{as_verdict}
use Rattle.protocol.specs.Turns.{Turn, World, start, fetched, checked_in, counts_in, judged, made_in, turn, after_commit, file_after, after, Fair}
use Rattle.protocol.specs.Steady.{Proper, Steady, SteadyTurns}
use Rattle.protocol.proofs.FileForm.{formed_means}
use Rattle.protocol.proofs.FileCalls.{not_again, check_of_file, create_of_file}
use Rattle.protocol.proofs.MemoryMeans.{sent_means}
use Rattle.protocol.proofs.Moved.{of_holds, moved_formed}
use Rattle.protocol.proofs.Held.{count_none, held_empty, empty_length, made_for}
use Rattle.protocol.proofs.HonestNext.{Ready, user_below, given_next, made_next, all_listed, entry_all, next_own, next_proper}
use Rattle.protocol.proofs.HonestCheck.{honest_call, checked_next, checked_last, created_next, committed_next}
use Rattle.protocol.proofs.HonestCommit.{now_or_still, steady_next}

pub cond_same : {A : Type 0} (b : Bool) (a : A) → cond b a a ≡ a
cond_same true a = refl
cond_same false a = refl

-- Counts that are read as a verdict, and back.
counts_read : (a : Answer (List ℕ)) → and_then (as_verdict a) counts_in ≡ a
counts_read (accepted counts) = refl
counts_read (refused n p q) = refl

-- A user's file of the structure x.
record Filed (N u : ℕ) (x g : List ℕ) : Type 0 where
  long : length g ≡ file_size
  formed : Formed N u g
  holds : held_in g ≡ x

module _ (N u : ℕ) (x : List ℕ) where
  pending_filed : Proper N u x → Filed N u x (pending_of x)
  unfolding held_in
  pending_filed p =
      record { long = omega (arith, p.whole); formed = (refl, is_pending refl (p.formed, p.owned)); holds = refl }

  sent_filed : Users N u → Proper N u x → Filed N u x (left (sent N u (pending_of x)) (pending_of x))
  unfolding held_in sent_of
  sent_filed users p =
      let f = pending_filed p in
      rw (((sent_means N u (pending_of x)).0.0 (sent_of (pending_of x))).1 ((users, f.long, f.formed, tt), refl))
      (record { long = omega (arith, p.whole); formed = (refl, is_sent refl (p.formed, p.owned)); holds = refl })

-- A turn in a steady state.
module _
    (N : ℕ)
    (w : World)
    (t : Turn)
    (r : Ready N w.server w.file t.user t.handle)
    (room : length (all_held w.server) ≤ length t.buffer)
  where
    -- The user fetches all records held.
    fits : Passing (list_steps w.server (length t.buffer))
    unfolding list_steps
    fits = (rw (le-leb (length (all_held w.server)) (length t.buffer) room), tt)

    number_listed : listed w.server (length t.buffer) ≡ accepted (records (all_held w.server))
    unfolding listed
    number_listed = passing (list_steps w.server (length t.buffer)) fits

    bytes_listed :
        listing w.server t.buffer ≡
        accepted (all_held w.server ++ drop (length (all_held w.server)) t.buffer)
    unfolding listing
    bytes_listed = passing (list_steps w.server (length t.buffer)) fits

    fetched_all : fetched w t ≡ accepted (all_held w.server)
    unfolding fetched
    fetched_all =
        rw (number_listed, bytes_listed)
        (ap accepted
        (take_at (all_held w.server) (drop (length (all_held w.server)) t.buffer) (size * records (all_held w.server))
        (sym (all_listed r).whole)))

    -- Its file is formed, and holds its entry, so that the check on it is the one on what is held.
    file_formed : formed N t.user (w.file t.user) ≡ true
    file_formed = (formed_means N t.user (w.file t.user)).1 (r.steady.filed t.user r.user).1

    shown : sends_again t.user (w.file t.user) (all_held w.server) ≡ false
    unfolding sends_again current
    shown =
        rw (r.steady.remembered t.user r.user, entry_all r t.user (user_below r), same_refl (held w.server t.user))

    checked_as : checked_in N w t ≡ as_verdict (called N (held w.server t.user) (honest_call r))
    unfolding checked_in
    checked_as =
        rw fetched_all
        (check_of_file N t.user (w.file t.user) (all_held w.server) (honest_call r).marks (r.steady.filed t.user r.user).0
        file_formed shown ∙
        rw (r.steady.remembered t.user r.user))

    pub never_again : (x : List ℕ) → checked_in N w t ≡ accepted (again x) → ⊥
    never_again x e = not_again (called N (held w.server t.user) (honest_call r)) x (sym checked_as ∙ e)

    judged_as : judged N w t ≡ called N (held w.server t.user) (honest_call r)
    unfolding judged
    judged_as = rw checked_as (counts_read (called N (held w.server t.user) (honest_call r)))

    pub turn_last : held_own w.server t.user ≡ last_count → (made_in N w t ≡ refused 6 0 0) × (turn N w t ≡ refused 6 0 0)
    unfolding turn made_in
    turn_last e = let j = judged_as ∙ checked_last r e in (rw j, rw j)

    signed_next : (held_own w.server t.user ≡ last_count → ⊥) → made_in N w t ≡ accepted (made_next r)
    unfolding made_in
    signed_next n =
        rw (judged_as ∙ checked_next r n)
        (create_of_file N t.user (w.file t.user) (given_next r) t.handle size (r.steady.filed t.user r.user).0 file_formed ∙
        rw (r.steady.remembered t.user r.user) (created_next r n))

    pub turn_next :
        (held_own w.server t.user ≡ last_count → ⊥) →
        (made_in N w t ≡ accepted (made_next r)) × (turn N w t ≡ accepted (replaced w.server (made_next r)))
    unfolding turn
    turn_next n = let j = signed_next n in (j, rw j (committed_next r))

    -- What the turn leaves of its user's file, pending or sent, holds the new structure.
    filed_next : (s : Server) (f : List ℕ) (k : Fate) → Filed N t.user (made_next r) (after_commit N t.user (accepted s) k (pending_of (made_next r)))
    filed_next s f whole = sent_filed N t.user (made_next r) (omega (arith, r.user), r.small, r.user) (next_proper r)
    filed_next s f absent = pending_filed N t.user (made_next r) (next_proper r)

    unchanged : Steady N w.server (λ v. cond (eqb t.user v) (w.file v) (w.file v))
    unchanged =
        record {
          users = r.steady.users;
          long = r.steady.long;
          filed = λ v l. rw (cond_same (eqb t.user v) (w.file v)) (r.steady.filed v l);
          remembered = λ v l. rw (cond_same (eqb t.user v) (w.file v)) (r.steady.remembered v l);
          kept = r.steady.kept;
          counted = r.steady.counted;
          ordered = r.steady.ordered;
        }

    steady_after :
        Steady N (left (turn N w t) w.server)
        (λ v. cond (eqb t.user v) (file_after N w t (w.file v)) (w.file v))
    unfolding file_after
    steady_after =
        elim (ℕ_discrete (held_own w.server t.user) last_count) [
          | yes e ↦ let a = turn_last e in rw (a.0, a.1) unchanged
          | no n ↦
              let a = turn_next n in
              let g : List ℕ = after_commit N t.user (turn N w t) t.sent_write (pending_of (made_next r)) in
              let f : Filed N t.user (made_next r) g = rw a.1 (filed_next (replaced w.server (made_next r)) g t.sent_write) in
              rw (a.0, a.1) (steady_next r _ (rw a.1 at f.long) (rw a.1 at f.formed) (rw a.1 at f.holds))
        ]

    -- A turn raises an own count by one at most.
    pub one_at_most : (v : ℕ) → held_own (left (turn N w t) w.server) v ≤ held_own w.server v + 1
    one_at_most =
        elim (ℕ_discrete (held_own w.server t.user) last_count) [
          | yes e ↦ rw (turn_last e).1 (λ v. omega arith)
          | no n ↦
              rw (turn_next n).1
              (now_or_still r (λ v x. count x v ≤ held_own w.server v + 1) (omega (arith, next_own r)) (λ v m. omega arith))
        ]

module _ (N : ℕ) (small : N ≤ 16) where
  steady_empty : Steady N (empty N) (λ v. none)
  unfolding empty
  steady_empty =
      record {
        users = refl;
        long = empty_length N;
        filed = λ v l. moved_formed N v [] (inl refl) (inl refl);
        remembered = λ v l. of_holds [] ∙ sym (held_empty N v (omega arith));
        kept = λ v l. inl (held_empty N v l);
        counted = λ v w l m. rw (held_empty N v l, count_none w) (omega arith);
        ordered = λ v w l m. rw (held_empty N v l, held_empty N w m) (inl (λ i k. omega arith));
      }

  -- A fair turn in a steady state is a user's turn in it.
  pub ready :
      (w : World) (t : Turn) → t.user < N → length t.handle ≡ 32 → Steady N w.server w.file →
      Ready N w.server w.file t.user t.handle
  ready w t l h st = record { small = small; user = l; handled = h; steady = st }

pub steady_turns : SteadyTurns
unfolding after start
steady_turns N some small [] f = rw (made_for N some small) (steady_empty N small)
steady_turns N some small (t ∷ earlier) f =
    let w : World = after N earlier in
    steady_after N w t (ready N small w t f.0.0 f.0.1 (steady_turns N some small earlier f.1)) f.0.2

pub fair_ready :
    (N : ℕ) → 1 ≤ N → N ≤ 16 → (t : Turn) (earlier : List Turn) → Fair N (t ∷ earlier) →
    Ready N (after N earlier).server (after N earlier).file t.user t.handle
fair_ready N some small t earlier f =
    ready N small (after N earlier) t f.0.0 f.0.1 (steady_turns N some small earlier f.1)
