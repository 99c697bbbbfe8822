-- Each record's own count goes to its owner's place, and at last the user's own next one.
-- The invariant: at each user's place stands the own count of its first record among those passed.
use Prim.Native.Nat.{ℕ, ◌<◌}
use mathlib.Core.Path.{◌≡◌}
use lib.ListN.{length, get_or}
use Rattle.client.proofs.Tally.{own_from}
use Rattle.client.proofs.next.counts.Given as goal

abbrev pub invariant-loop-i : goal.invariant-loop-i
invariant-loop-i l = (length l.counts ≡ 16) × ((v : ℕ) → v < 16 → get_or l.counts v 0 ≡ own_from l.list l.i v)
