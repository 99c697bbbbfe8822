-- Request j), of runs: "Prove, for the runs of demand 3 and honest owners, that x is at or before y exactly if y's count for x's owner is at
-- least x's own count." So what an honest user signed that counts another's n-th operation has all that the other had when making it.
use Rattle.std.specs.Prelude.{ℕ, ◌≤◌, List, ◌↔◌}
use Rattle.protocol.specs.Version.{owner, count, own}
use Rattle.protocol.specs.History.{Event, Signed}
use Rattle.protocol.specs.Meaning.{AtOrBefore}
use Rattle.protocol.specs.NoJoin.{Premise}

-- "y's count for x's owner is at least x's own count."
abbrev pub CountedIn : List ℕ → List ℕ → Type 0
CountedIn x y = own x ≤ count y (owner x)

-- The premise is that of `NoJoin`, which the order's own implies (`MarkedSuffices`). x and y are any two structures that honest users signed in
-- the run, of one user or of two, whichever came first.
abbrev pub OneNumber : Type 1
OneNumber =
    (N : ℕ) (honest : ℕ → Type 0) (run : List Event) → Premise N honest run →
    (a b : ℕ) (x y : List ℕ) → honest a → honest b → Signed N run a x → Signed N run b y →
    AtOrBefore x y ↔ CountedIn x y
