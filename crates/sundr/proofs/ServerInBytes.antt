-- A server's list and its bytes are one thing in two forms: each is read back from the other.
use Prim.Native.Nat.{ℕ}
use mathlib.Core.List.{List, [], ◌∷◌}
use mathlib.Core.Path.{◌≡◌, refl}
use native.Mathlib.Omega.{arith}
use lib.ListN.{length}
use Rattle.sundr.specs.Server.{server_in, bytes_of, ServerInBytes}

written_back : (b : List ℕ) → length b ≡ 1569 → bytes_of (server_in b) ≡ b
unfolding server_in bytes_of
written_back [] h = absurd (omega arith)
written_back (x ∷ b) h = refl

pub server_in_bytes : ServerInBytes
unfolding server_in bytes_of
server_in_bytes = record { read_back = λ s. refl; written_back = written_back }
