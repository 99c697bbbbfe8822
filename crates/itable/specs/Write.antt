-- The writer of an i-table, into a lent buffer.
use Rattle.std.specs.Prelude.{ℕ, ◌-◌, ◌*◌, Bool, ◌||◌, List, [], ◌∷◌, ◌++◌, leb, ltb, eqb, length, get_or, drop}
use Rattle.refusal.specs.Answer.{Answer, accepted}
use Rattle.refusal.specs.Order.{Step, unless, unless_each, in_order}
use Rattle.itable.specs.Block.{size}
use Rattle.itable.specs.Table.{files, blocks, written}

-- The i-number at place i is above the one before.
unfoldable pub number_above : List ℕ → ℕ → Bool
number_above nums i = eqb i 0 || ltb (get_or nums (i - 1) 0) (get_or nums i 0)

-- "Order: 2, 11, 12." `room` is the buffer's length.
unfoldable pub write_steps : List ℕ → List ℕ → ℕ → List Step
write_steps nums handles room =
    unless (leb (length nums) 4096) 2 0 0 ∷
    unless (eqb (length handles) (32 * length nums)) 2 0 0 ∷
    unless_each (number_above nums) (length nums) 11 ∷ unless (leb (size * blocks (length nums)) room) 12 0 0 ∷ []

-- "The number of blocks is given."
unfoldable pub blocks_given : List ℕ → List ℕ → ℕ → Answer ℕ
blocks_given nums handles room = in_order (write_steps nums handles room) (accepted (blocks (length nums)))

-- "Each block is written at its own place in the lent buffer; bytes after the last are kept." The bytes of the buffer.
unfoldable pub writing : List ℕ → List ℕ → List ℕ → Answer (List ℕ)
writing nums handles buffer =
    in_order (write_steps nums handles (length buffer))
    (accepted (written (files nums handles) ++ drop (size * blocks (length nums)) buffer))
