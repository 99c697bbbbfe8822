-- Demand 3, honest half: in every list of turns a turn is refused exactly when its user's own count is the last one. The world before it is
-- steady, and in a steady world a turn passes every test but that one.
use Prim.Native.Nat.{ℕ, ◌≤◌}
use mathlib.Core.List.{List, [], ◌∷◌}
use mathlib.Core.Logic.{◌↔◌}
use mathlib.Core.Path.{◌≡◌, sym, ap, ◌∙◌}
use native.Mathlib.Decide.{ℕ_discrete}
use lib.ListN.{length}
use Rattle.refusal.specs.Answer.{Refused}
use Rattle.protocol.specs.Version.{count}
use Rattle.protocol.specs.Check.{last_count}
use Rattle.protocol.specs.MemoryFile.{held}
use Rattle.protocol.specs.Server.{held_own, all_held}
use Rattle.protocol.specs.Turns.{Turn, World, turn, after, HonestTurns}
use Rattle.protocol.proofs.HonestNext.{Ready}
use Rattle.protocol.proofs.SteadyTurns.{never_again, turn_last, turn_next, fair_ready}

refused_exactly :
    (N : ℕ) (w : World) (t : Turn) → Ready N w.server w.file t.user t.handle →
    length (all_held w.server) ≤ length t.buffer → Refused (turn N w t) ↔ (count (held (w.file t.user)) t.user ≡ last_count)
refused_exactly N w t r room =
    let own : count (held (w.file t.user)) t.user ≡ held_own w.server t.user =
    ap (λ (x : List ℕ). count x t.user) (r.steady.remembered t.user r.user)
    in (
      λ f.
          elim (ℕ_discrete (held_own w.server t.user) last_count) [
            | yes e ↦ own ∙ e
            | no n ↦ absurd (rw (turn_next N w t r room n).1 at f)
          ],
      λ e. rw (turn_last N w t r room (sym own ∙ e)).1 tt,
    )

pub honest_turns : HonestTurns
honest_turns N some small [] f = tt
honest_turns N some small (t ∷ earlier) f =
    let w : World = after N earlier in
    let r = fair_ready N some small t earlier f in (
      (refused_exactly N w t r f.0.2, never_again N w t r f.0.2),
      honest_turns N some small earlier f.1,
    )
