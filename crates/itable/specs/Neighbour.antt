-- The request's case, made small: "A leaf held numbers belonging under its neighbour, and lookup called them absent." The root's slots have the
-- numbers 0 and 1. The leaf below the first holds the files 0 and 2, the leaf below the second the file 1. So 2 leads to the second leaf, which
-- denies it; and the first leaf is now refused, although every hash is right.
use Rattle.std.specs.Prelude.{ℕ, cond, List, [], ◌∷◌, ◌++◌, ◌≡◌, eqb, replicate}
use Rattle.refusal.specs.Answer.{accepted, refused}
use Rattle.sha256.specs.Sha256.{sha256}
use Rattle.itable.specs.Table.{Level, files, block}
use Rattle.itable.specs.Lookup.{absent, lookup}

abbrev pub leaf : List ℕ
leaf = block 3 (files (0 ∷ 2 ∷ []) (replicate 64 0)) 0

abbrev pub neighbour : List ℕ
neighbour = block 3 (files (1 ∷ []) (replicate 32 0)) 0

abbrev pub over : Level
over = record { count = 2; number = λ j. j; value = λ j. cond (eqb j 0) (sha256 leaf) (sha256 neighbour) }

abbrev pub root : List ℕ
root = block 4 over 0

abbrev pub NeighbourRefused : Type 0
NeighbourRefused =
    (lookup (sha256 root) 2 (root ++ neighbour) ≡ accepted absent) × (lookup (sha256 root) 0 (root ++ leaf) ≡ refused 3 1 0)
