-- Each turn tests one more user's counts, both ways.
-- The invariant: what the two tests say of the users passed.
use mathlib.Core.Path.{◌≡◌}
use lib.Dec.{leb}
use Rattle.search.specs.Search.{every}
use Rattle.version.specs.Version.{count_in}
use Rattle.version.proofs.compare.Given as goal

abbrev pub invariant-loop-v : goal.invariant-loop-v
invariant-loop-v l = record {
  below : l.at_most ≡ every (λ v. leb (count_in l.x v) (count_in l.y v)) 0 l.v;
  above : l.at_least ≡ every (λ v. leb (count_in l.y v) (count_in l.x v)) 0 l.v;
}
