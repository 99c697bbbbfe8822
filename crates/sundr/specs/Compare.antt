-- The comparison of sixteen counts with sixteen others, for C.
use Rattle.std.specs.Prelude.{ℕ, List}
use Rattle.refusal.specs.Answer.{Answer, accepted}
use Rattle.protocol.specs.Version.{Standing, equal, before, after, apart, standing}
use Rattle.version.specs.Version.{count_in}

-- "without refusals": always accepted.
abbrev pub compared : List ℕ → List ℕ → Answer Standing
compared x y = accepted (standing (count_in x) (count_in y))

-- The number that tells which of the four it is.
abbrev pub standing_number : Standing → ℕ
standing_number equal = 0
standing_number before = 1
standing_number after = 2
standing_number apart = 3
