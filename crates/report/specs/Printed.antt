-- What the desk program prints of its input: the bytes of its lines, in ASCII.
use Rattle.std.specs.Prelude.{ℕ, List, [], ◌∷◌, ◌++◌, take}
use Rattle.refusal.specs.Answer.{Answer, accepted, refused}
use Rattle.input.specs.Form.{users, user}
use Rattle.input.specs.Report.{Judgement, other_form, answer, judgement}
use Rattle.report.specs.Decimal.{decimal}

-- A number, a space before it.
abbrev pub spaced : ℕ → List ℕ
spaced n = 32 ∷ decimal n

-- Numbers, a space before each.
unfoldable pub all_spaced : List ℕ → List ℕ
all_spaced [] = []
all_spaced (n ∷ ns) = spaced n ++ all_spaced ns

-- The end of a line.
abbrev pub newline : List ℕ
newline = 10 ∷ []

-- "Input of another form, or over 1,717 bytes, prints the line `input` only."
abbrev pub input_line : List ℕ
input_line = 105 ∷ 110 ∷ 112 ∷ 117 ∷ 116 ∷ 10 ∷ []

-- "Otherwise it prints two lines: `desk`, u, `of`, N;"
abbrev pub desk : List ℕ
desk = 100 ∷ 101 ∷ 115 ∷ 107 ∷ []

abbrev pub of : List ℕ
of = 32 ∷ 111 ∷ 102 ∷ []

unfoldable pub desk_line : ℕ → ℕ → List ℕ
desk_line u N = desk ++ spaced u ++ of ++ spaced N ++ newline

-- "and `accept` with the new counts of users 0 to N-1," of the sixteen that the judgement has; where N is above 16 nothing is accepted.
abbrev pub accept : List ℕ
accept = 97 ∷ 99 ∷ 99 ∷ 101 ∷ 112 ∷ 116 ∷ []

unfoldable pub accept_line : ℕ → List ℕ → List ℕ
accept_line N counts = accept ++ all_spaced (take N counts) ++ newline

-- "or `refuse` with number and both places."
abbrev pub refuse : List ℕ
refuse = 114 ∷ 101 ∷ 102 ∷ 117 ∷ 115 ∷ 101 ∷ []

unfoldable pub refuse_line : ℕ → ℕ → ℕ → List ℕ
refuse_line n p q = refuse ++ spaced n ++ spaced p ++ spaced q ++ newline

abbrev pub answer_line : ℕ → Answer (List ℕ) → List ℕ
answer_line N (accepted counts) = accept_line N counts
answer_line N (refused n p q) = refuse_line n p q

-- The lines of a judgement.
abbrev pub lines : ℕ → ℕ → Judgement → List ℕ
lines N u other_form = input_line
lines N u (answer a) = desk_line u N ++ answer_line N a

-- The program's whole output.
unfoldable pub printed : List ℕ → List ℕ
printed input = lines (users input) (user input) (judgement input)
