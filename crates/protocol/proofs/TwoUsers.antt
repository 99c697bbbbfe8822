-- The honest half is about turns that there are: with a buffer of 1,568 bytes no listing is refused, and no turn is while fewer than
-- 4,294,967,295 were taken, since each raises one own count by one at most. Two users who take turns are the example.
use Prim.Native.Nat.{ℕ, ◌≤◌, ◌<◌}
use mathlib.Core.List.{List, [], ◌∷◌}
use mathlib.Core.Path.{◌≡◌, ap}
use native.Mathlib.Omega.{arith}
use lib.ListN.{length, length-replicate}
use Rattle.refusal.specs.Answer.{Refused}
use Rattle.refusal.specs.Run.{Each}
use Rattle.protocol.specs.declared.Server.{Server}
use Rattle.protocol.specs.Version.{count}
use Rattle.protocol.specs.Check.{last_count}
use Rattle.protocol.specs.MemoryFile.{held}
use Rattle.protocol.specs.Server.{held_own, all_held}
use Rattle.protocol.specs.History.{Fate, whole, absent}
use Rattle.protocol.specs.Turns.{Turn, start, turn, after, Fair}
use Rattle.protocol.specs.TwoUsers.{turn_of, two_users, TwoUsers}
use Rattle.protocol.proofs.Held.{count_none, held_empty, made_for}
use Rattle.protocol.proofs.HonestNext.{Ready, all_listed}
use Rattle.protocol.proofs.SteadyTurns.{one_at_most, ready, steady_turns, fair_ready}
use Rattle.protocol.proofs.HonestTurns.{honest_turns}

-- Turns of users below N, each with a handle of 32 bytes and a buffer of 1,568.
abbrev pub Roomy : ℕ → List Turn → Type 0
Roomy N = Each (λ earlier t. (t.user < N) × (length t.handle ≡ 32) × (length t.buffer ≡ 1568))

-- Every one of these turns is accepted.
abbrev Accepted : ℕ → List Turn → Type 0
Accepted N = Each (λ earlier t. Refused (turn N (after N earlier) t) → ⊥)

-- Sixteen records have room in such a buffer.
pub has_room :
    {N u : ℕ} {s : Server} {file : ℕ → List ℕ} {handle : List ℕ} → Ready N s file u handle →
    (buffer : List ℕ) → length buffer ≡ 1568 → length (all_held s) ≤ length buffer
has_room r buffer e = let l = all_listed r in omega (arith, l.whole, l.few, r.small)

module _ (N : ℕ) (some : 1 ≤ N) (small : N ≤ 16) where
  pub roomy_fair : (turns : List Turn) → Roomy N turns → Fair N turns
  roomy_fair [] f = tt
  roomy_fair (t ∷ earlier) f =
      let fair : Fair N earlier = roomy_fair earlier f.1 in
      let r = ready N small (after N earlier) t f.0.0 f.0.1 (steady_turns N some small earlier fair) in
      ((f.0.0, f.0.1, has_room r t.buffer f.0.2), fair)

  own_at_most : (turns : List Turn) → Fair N turns → (v : ℕ) → v < 16 → held_own (after N turns).server v ≤ length turns
  unfolding after start
  own_at_most [] f v l = rw (made_for N some small, held_empty N v l, count_none v) (omega arith)
  own_at_most (t ∷ earlier) f v l =
      omega (
        arith,
        one_at_most N (after N earlier) t (fair_ready N some small t earlier f) f.0.2 v,
        own_at_most earlier f.1 v l,
      )

  all_accepted : (turns : List Turn) → Fair N turns → length turns ≤ last_count → Accepted N turns
  all_accepted [] f h = tt
  all_accepted (t ∷ earlier) f h = (
    λ r.
        let last : count (held ((after N earlier).file t.user)) t.user ≡ last_count =
        (honest_turns N some small (t ∷ earlier) f).0.0.0 r
        in
        let e = ap (λ (x : List ℕ). count x t.user) ((fair_ready N some small t earlier f).steady.remembered t.user f.0.0) in
        omega (arith, own_at_most earlier f.1 t.user (omega (arith, f.0.0))),
    all_accepted earlier f.1 (omega arith),
  )

pub roomy_turn :
    (u : ℕ) (k : Fate) → u < 2 → ((turn_of u k).user < 2) × (length (turn_of u k).handle ≡ 32) × (length (turn_of u k).buffer ≡ 1568)
unfolding turn_of
roomy_turn u k l = (l, length-replicate {A = ℕ} 32 0, length-replicate {A = ℕ} 1568 0)

two_users_fair : Fair 2 two_users
two_users_fair =
    roomy_fair 2 (omega arith) (omega arith) two_users (
      roomy_turn 1 whole (omega arith),
      (roomy_turn 0 absent (omega arith), (roomy_turn 1 whole (omega arith), (roomy_turn 0 absent (omega arith), tt))),
    )

pub two_users_hold : TwoUsers
two_users_hold =
    record {
      fair = two_users_fair;
      all_accepted = all_accepted 2 (omega arith) (omega arith) two_users two_users_fair (omega arith);
    }
