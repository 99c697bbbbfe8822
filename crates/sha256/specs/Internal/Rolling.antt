-- What the functions of several rounds leave, from the contracts of one: the array, which is a circular queue of words,
-- and the working variables.
use Rattle.std.specs.Prelude.{ℕ, zero, suc, ◌+◌, ◌%◌, cond, List, nat_lt, slice_index}
use Rattle.sha256.specs.declared.State.{State}
use Rattle.sha256.specs.Sha256.{K, round_of}
use Rattle.sha256.specs.WordsTaken.{rolled}

-- The queue w after round t: rolled on where a word is left that is not in it, and else as it was.
unfoldable pub after_round : List ℕ → ℕ → List ℕ
after_round w t = cond (nat_lt t 48) (rolled w t) w

-- The queue w after n rounds from round t on.
unfoldable pub queue_after : List ℕ → ℕ → ℕ → List ℕ
queue_after w t zero = w
queue_after w t (suc n) = after_round (queue_after w t n) (t + n)

-- The working variables s after n rounds from round t on, each with the word at its place: q n is the queue before
-- round t + n.
unfoldable pub rounds_over : (ℕ → List ℕ) → State → ℕ → ℕ → State
rounds_over q s t zero = s
rounds_over q s t (suc n) = round_of (rounds_over q s t n) (slice_index K (t + n)) (slice_index (q n) ((t + n) % 16))
