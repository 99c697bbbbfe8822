-- A place that may be missing.
use Rattle.std.specs.Prelude.{ℕ, ◌+◌, Option, None, Some}

-- One more than the place; 0 if there is none.
abbrev pub one_more : Option ℕ → ℕ
one_more None = 0
one_more (Some j) = j + 1
