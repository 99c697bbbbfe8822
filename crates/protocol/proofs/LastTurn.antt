-- The world in which one structure of the last count is held, and nothing else, is steady: no bytes count nothing, so they are at or before
-- it. Its user's turn then meets every condition but that the count is not the last; and turns reach it, since each adds one until then.
use Prim.Native.Nat.{ℕ, zero, suc, ◌+◌, ◌≤◌, ◌<◌}
use mathlib.Core.Bool.{cond}
use mathlib.Core.List.{List, []}
use mathlib.Core.Logic.{◌⊎◌, inl, inr}
use mathlib.Core.Path.{◌≡◌, refl, ◌∙◌}
use native.Mathlib.Omega.{arith}
use lib.Dec.{eqb}
use lib.ListN.{length, replicate, length-replicate}
use borrow.Author.Tests.{ne_eqb}
use Rattle.refusal.specs.Answer.{refused}
use Rattle.refusal.specs.Result.{left}
use Rattle.protocol.specs.declared.Server.{Server}
use Rattle.protocol.specs.Version.{size, count, structure}
use Rattle.protocol.specs.Check.{last_count}
use Rattle.protocol.specs.Server.{empty, held, held_own, all_held, replaced}
use Rattle.protocol.specs.MemoryFile.{file_size, held as held_in}
use Rattle.protocol.specs.History.{whole}
use Rattle.protocol.specs.Meaning.{AtOrBefore}
use Rattle.protocol.specs.MemoryMeaning.{Formed}
use Rattle.protocol.specs.Turns.{Turn, World, start, turn, after, Fair}
use Rattle.protocol.specs.TwoUsers.{turn_of}
use Rattle.protocol.specs.Steady.{Proper, Kept, Steady}
use Rattle.protocol.specs.LastTurn.{last_own, last_world, own_turn, LastTurn}
use Rattle.protocol.proofs.Version.{length_structure, count_structure}
use Rattle.protocol.proofs.Moved.{of_holds, moved_formed}
use Rattle.protocol.proofs.Held.{count_none, held_empty, empty_length, made_for, replaced_length, now_or_still}
use Rattle.protocol.proofs.HonestNext.{Ready, next_own}
use Rattle.protocol.proofs.HonestCommit as HonestCommit
use Rattle.protocol.proofs.SteadyTurns.{turn_last, turn_next, ready, steady_turns}
use Rattle.protocol.proofs.TwoUsers.{Roomy, has_room, roomy_fair, roomy_turn}

abbrev zeros : List ℕ
zeros = replicate 32 0

abbrev counted_as : ℕ → ℕ
counted_as v = cond (eqb v 0) last_count 0

last_length : length last_own ≡ size
unfolding last_own
last_length = length_structure 0 zeros counted_as (length-replicate {A = ℕ} 32 0)

last_count_is : (v : ℕ) → v < 16 → count last_own v ≡ counted_as v
unfolding last_own
last_count_is v l = count_structure 0 zeros counted_as (length-replicate {A = ℕ} 32 0) v l

last_other : (v : ℕ) → v < 16 → (v ≡ 0 → ⊥) → count last_own v ≡ 0
last_other v l n = last_count_is v l ∙ rw (ne_eqb v 0 n)

last_proper : Proper 2 0 last_own
unfolding last_own structure
last_proper =
    record {
      whole = last_length;
      owned = refl;
      formed = record {
        kind_one = refl;
        owner_below = omega arith;
        own_counted = λ e. omega (arith, last_count_is 0 (omega arith));
        others_zero = λ v a l. last_other v l (λ e. omega arith);
      };
    }

-- What holds of that structure at user 0, and of none at every other, holds of what is held.
module _ (P : ℕ → List ℕ → Type 0) (of-last : P 0 last_own) (of_none : (v : ℕ) → v < 16 → (v ≡ 0 → ⊥) → P v []) where
  of_held : (v : ℕ) → v < 16 → P v (held last_world.server v)
  unfolding last_world last_own structure
  of_held =
      now_or_still (empty 2) last_own (empty_length 2) last_length (omega arith) last_proper.formed.own_counted
      (λ v x. v < 16 → P v x) (λ l. of-last) (λ v n l. rw (held_empty 2 v l) (of_none v l n))

none_before : (x : List ℕ) → AtOrBefore [] x
none_before x v l = omega (arith, count_none v)

last_steady : Steady 2 last_world.server last_world.file
unfolding last_world replaced empty
last_steady =
    let s : Server = last_world.server in
    record {
      users = refl;
      long = replaced_length (empty 2) last_own (empty_length 2) last_length (omega (arith, last_proper.owned));
      filed = λ v l.
          of_held (λ v x. (length (last_world.file v) ≡ file_size) × Formed 2 v (last_world.file v))
          (moved_formed 2 0 last_own (inr last_length) (inr (last_proper.formed, last_proper.owned)))
          (λ v l n. rw (ne_eqb v 0 n) (moved_formed 2 v [] (inl refl) (inl refl))) v (omega arith);
      remembered = λ v l.
          of_held (λ v x. held_in (last_world.file v) ≡ x) (of_holds last_own) (λ v l n. rw (ne_eqb v 0 n) (of_holds [])) v (omega arith);
      kept = of_held (Kept 2) (inr last_proper) (λ v l n. inl refl);
      counted = λ v w l m.
          of_held (λ w y. count (held s v) w ≤ count y w)
          (of_held (λ v x. count x 0 ≤ count last_own 0) (omega arith) (λ v l n. omega (arith, count_none 0)) v l)
          (λ w m n. of_held (λ v x. count x w ≤ count [] w) (omega (arith, last_other w m n)) (λ v l n. omega arith) v l) w m;
      ordered = λ v w l m.
          of_held (λ w y. AtOrBefore (held s v) y ⊎ AtOrBefore y (held s v))
          (of_held (λ v x. AtOrBefore x last_own ⊎ AtOrBefore last_own x) (inl (λ i k. omega arith)) (λ v l n. inl (none_before last_own)) v l)
          (λ w m n. inr (none_before (held s v))) w m;
    }

-- User 0's turn in a steady world of two: refused at the last count, and one more of it before.
module _ (w : World) (st : Steady 2 w.server w.file) where
  user_0 : Ready 2 w.server w.file own_turn.user own_turn.handle
  user_0 = let f = roomy_turn 0 whole (omega arith) in ready 2 (omega arith) w own_turn f.0 f.1 st

  room : length (all_held w.server) ≤ length own_turn.buffer
  room = has_room user_0 own_turn.buffer (roomy_turn 0 whole (omega arith)).2

  refused_then : held_own w.server 0 ≡ last_count → turn 2 w own_turn ≡ refused 6 0 0
  unfolding turn_of
  refused_then e = (turn_last 2 w own_turn user_0 room e).1

  one_more : (held_own w.server 0 ≡ last_count → ⊥) → held_own (left (turn 2 w own_turn) w.server) 0 ≡ held_own w.server 0 + 1
  unfolding turn_of
  one_more n =
      rw (turn_next 2 w own_turn user_0 room n).1
      (HonestCommit.now_or_still user_0 (λ v x. v ≡ 0 → count x v ≡ held_own w.server 0 + 1) (λ e. next_own user_0) (λ v m e. absurd (m e)) 0
      refl)

-- n turns of user 0, of whom n operations are counted then.
abbrev turns : ℕ → List Turn
turns n = replicate n own_turn

all_roomy : (n : ℕ) → Roomy 2 (turns n)
all_roomy zero = tt
all_roomy (suc n) = (roomy_turn 0 whole (omega arith), all_roomy n)

all_fair : (n : ℕ) → Fair 2 (turns n)
all_fair n = roomy_fair 2 (omega arith) (omega arith) (turns n) (all_roomy n)

all_steady : (n : ℕ) → Steady 2 (after 2 (turns n)).server (after 2 (turns n)).file
all_steady n = steady_turns 2 (omega arith) (omega arith) (turns n) (all_fair n)

all_counted : (n : ℕ) → n ≤ last_count → held_own (after 2 (turns n)).server 0 ≡ n
unfolding after start
all_counted zero h = rw (made_for 2 (omega arith) (omega arith), held_empty 2 0 (omega arith)) (count_none 0)
all_counted (suc n) h =
    let e = all_counted n (omega arith) in omega (arith, one_more (after 2 (turns n)) (all_steady n) (λ z. omega arith))

pub last_turn : LastTurn
last_turn =
    record {
      steady = last_steady;
      refused_last =
          refused_then last_world last_steady
          (of_held (λ v x. v ≡ 0 → count x v ≡ last_count) (λ e. last_count_is 0 (omega arith)) (λ v m n e. absurd (n e)) 0 (omega arith) refl);
      fair = all_fair;
      reached = λ n e. refused_then (after 2 (turns n)) (all_steady n) (all_counted n (omega arith) ∙ e);
    }
