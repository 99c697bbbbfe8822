-- The output written to a lent buffer, in the manner of the server's listing: to its front, the bytes after it are kept, and its number of
-- bytes is given. "12: the buffer is shorter than what is to be written" is the only refusal.
use Rattle.std.specs.Prelude.{ℕ, List, [], ◌∷◌, ◌++◌, leb, length, drop}
use Rattle.refusal.specs.Answer.{Answer, accepted}
use Rattle.refusal.specs.Order.{Step, unless, in_order}
use Rattle.report.specs.Printed.{printed}

unfoldable pub print_steps : List ℕ → ℕ → List Step
print_steps input room = unless (leb (length (printed input)) room) 12 0 0 ∷ []

-- The number given, for a buffer of this length, and the bytes of the buffer.
unfoldable pub printed_given : List ℕ → ℕ → Answer ℕ
printed_given input room = in_order (print_steps input room) (accepted (length (printed input)))

unfoldable pub printing : List ℕ → List ℕ → Answer (List ℕ)
printing input buffer =
    in_order (print_steps input (length buffer)) (accepted (printed input ++ drop (length (printed input)) buffer))
