-- A commit's test 7 by what the code compares: what is held, and the fields that were read from the new record.
use Prim.Native.Nat.{ℕ, ◌<◌}
use mathlib.Core.Bool.{Bool, ◌&&◌, ◌||◌}
use mathlib.Core.List.{List}
use mathlib.Core.Path.{◌≡◌}
use lib.Dec.{eqb}
use lib.ListN.{length, get_or}
use Rattle.protocol.specs.Version.{count, counts_strictly_before}
use Rattle.protocol.specs.Server.{held, follows}
use Rattle.protocol.specs.declared.Server.{Server}
use Rattle.version.specs.Version.{fields, count_in}
use Rattle.version.specs.declared.Version.{Version}
use Rattle.version.proofs.Laws.{count_fields, before_read}

module _ (s : Server) (x : List ℕ) (v : ℕ) (user : v < 16) (h : List ℕ) (e : h ≡ held s v) (new : Version) (n : new ≡ fields x) where
  pub follows_read :
      (b : Bool) → b ≡ (eqb (length h) 0 || counts_strictly_before (count h) (count_in new.counts)) →
      follows s x v ≡ (b && (eqb v new.owner || eqb (get_or new.counts v 0) (count h v)))
  unfolding follows fields
  follows_read b q = rw (q, e, n, before_read (count (held s v)) x, count_fields x v user)
