-- "Where N is 0 or above 16 the second line is `refuse 1 0 0`."
use Rattle.std.specs.Prelude.{ℕ, ◌<◌, true, List, ◌⊎◌, ◌≡◌}
use Rattle.refusal.specs.Answer.{refused}
use Rattle.input.specs.Form.{users, formed}
use Rattle.input.specs.Report.{answer, judgement}

-- An input of the stated form whose N is 0 or above 16 is refused with 1, whatever else it holds.
abbrev pub UsersRefused : Type 0
UsersRefused =
    (input : List ℕ) → formed input ≡ true → (users input ≡ 0) ⊎ (16 < users input) → judgement input ≡ answer (refused 1 0 0)
