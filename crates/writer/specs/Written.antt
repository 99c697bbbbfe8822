-- What the writer answers and leaves.
use Rattle.std.specs.Prelude.{ℕ, List, ◌≡◌, length, Result}
use Rattle.refusal.specs.Refusal.{said}
use Rattle.refusal.specs.Result.{left}
use Rattle.refusal.specs.declared.Refusal.{Refusal}
use Rattle.itable.specs.Write.{blocks_given, writing}

-- The call answers r to these i-numbers and handles, the number of blocks or a refusal, and the buffer that was `before` is `after`.
pub record Writes (numbers handles before after : List ℕ) (r : Result ℕ Refusal) : Type 0 where
  pub answers : said r ≡ blocks_given numbers handles (length before)
  pub leaves : after ≡ left (writing numbers handles before) before
