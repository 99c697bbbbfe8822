-- The first two tests of the check's order are those of N, so one of them refuses before anything else is looked at.
use Prim.Native.Nat.{ℕ, ◌<◌}
use mathlib.Core.List.{List}
use mathlib.Core.Logic.{◌⊎◌, ⊎_elim}
use mathlib.Core.Path.{◌≡◌}
use native.Mathlib.Omega.{arith}
use borrow.Author.Tests.{le-leb, lt-leb}
use Rattle.refusal.specs.Answer.{refused}
use Rattle.refusal.specs.Order.{in_order}
use Rattle.protocol.specs.Check.{size_steps, check}
use Rattle.input.specs.Report.{answered, judgement}
use Rattle.input.specs.UsersRefused.{UsersRefused}

check_users : (N u : ℕ) (mem list marks : List ℕ) → (N ≡ 0) ⊎ (16 < N) → check N u mem list marks ≡ refused 1 0 0
unfolding check size_steps in_order
check_users N u mem list marks h =
    ⊎_elim (λ z. rw (lt-leb 1 N (omega arith))) (λ l. rw (le-leb 1 N (omega arith), lt-leb N 16 l)) h

pub users_refused : UsersRefused
unfolding judgement answered
users_refused input f h = rw (f, check_users _ _ _ _ _ h)
