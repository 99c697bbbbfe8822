-- The desk program tells the check's answer and nothing else, as it did when one call did both: the making step refuses nothing that the
-- check gave it, and the counts of its structure are just those.
use Rattle.std.specs.Prelude.{true, List, ◌≡◌, ℕ}
use Rattle.protocol.specs.Check.{check}
use Rattle.input.specs.Form.{users, user, memory, list, marks, formed}
use Rattle.input.specs.Report.{answer, judgement}

abbrev pub CheckTold : Type 0
CheckTold =
    (input : List ℕ) → formed input ≡ true →
    judgement input ≡ answer (check (users input) (user input) (memory input) (list input) (marks input))
