-- "Where N is 0 or above 16 the second line is `refuse 1 0 0`."
use Rattle.std.specs.Prelude.{ℕ, ◌<◌, true, List, [], ◌∷◌, ◌++◌, ◌⊎◌, ◌≡◌}
use Rattle.input.specs.Form.{users, user, formed}
use Rattle.report.specs.Printed.{desk_line, printed}

-- `refuse 1 0 0`, and the line's end.
abbrev pub refuse100 : List ℕ
refuse100 = 114 ∷ 101 ∷ 102 ∷ 117 ∷ 115 ∷ 101 ∷ 32 ∷ 49 ∷ 32 ∷ 48 ∷ 32 ∷ 48 ∷ 10 ∷ []

abbrev pub UsersPrinted : Type 0
UsersPrinted =
    (input : List ℕ) → formed input ≡ true → (users input ≡ 0) ⊎ (16 < users input) →
    printed input ≡ desk_line (user input) (users input) ++ refuse100
