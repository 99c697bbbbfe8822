-- Byte strings, as tests: whether two are equal, and whether what a layout leaves unused is zero.
use Rattle.std.specs.Prelude.{ℕ, Bool, true, false, List, [], ◌∷◌, eqb, get_or}
use Rattle.search.specs.Search.{every}

-- Whether two byte strings are equal.
unfoldable pub same : List ℕ → List ℕ → Bool
same [] [] = true
same [] (y ∷ ys) = false
same (x ∷ xs) [] = false
same (x ∷ xs) (y ∷ ys) = elim (eqb x y) [ true ↦ same xs ys | false ↦ false ]

-- Whether the n bytes from a place on are zero.
unfoldable pub zeros : List ℕ → ℕ → ℕ → Bool
zeros b at n = every (λ x. eqb (get_or b x 0) 0) at n
