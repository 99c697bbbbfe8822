-- A pending file and the sent one of the same structure are formed alike and hold the same; where the list shows it, neither is sent again.
use mathlib.Core.Bool.{false}
use mathlib.Core.List.{List}
use mathlib.Core.Path.{◌≡◌, refl}
use native.Mathlib.Omega.{arith}
use Prim.Native.Nat.{ℕ}
use Rattle.layout.proofs.Strings.{same_refl}
use Rattle.protocol.specs.List.{entry}
use Rattle.protocol.specs.Check.{current}
use Rattle.protocol.specs.MemoryFile.{held, formed, pending_of, given_steps, sends_again, check_file, create_file}
use Rattle.protocol.specs.PendingAsSent.{sent_file, PendingAsSent}
use Rattle.protocol.proofs.Moved.{sends_nothing}

module _ (N u : ℕ) (x list : List ℕ) where
  held_pending : held (pending_of x) ≡ x
  unfolding held
  held_pending = refl

  held_sent : held (sent_file x) ≡ x
  unfolding held
  held_sent = refl

  given_alike : given_steps N u (pending_of x) ≡ given_steps N u (sent_file x)
  unfolding given_steps formed
  given_alike = refl

  shown : entry list u ≡ x → sends_again u (pending_of x) list ≡ false
  unfolding sends_again current
  shown e = rw (held_pending, e, same_refl x)

pub pending_as_sent : PendingAsSent
unfolding check_file create_file
pending_as_sent =
    record {
      checks = λ N u x list marks e.
          rw (
            shown N u x list e,
            sends_nothing u (sent_file x) list (λ z. omega arith),
            held_pending N u x list,
            held_sent N u x list,
            given_alike N u x list,
          );
      creates = λ N u x counts handle room. rw (held_pending N u x x, held_sent N u x x, given_alike N u x x);
    }
