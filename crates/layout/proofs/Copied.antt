-- Bytes copied over others: over all of a place that is no longer than they are, and into the part from a place on.
use Prim.Native.Nat.{ℕ, ◌+◌, ◌≤◌}
use mathlib.Core.List.{List, ◌++◌, append-nil}
use mathlib.Core.Path.{◌≡◌}
use native.Mathlib.Omega.{arith}
use lib.ListN.{length, take, drop, length-drop, drop_of_length-le}
use lib.Seq.{take-length, take_all, drop-drop}

pub copied_over : (s d : List ℕ) → length d ≤ length s → take (length s) s ++ drop (length s) d ≡ s
copied_over s d h = rw (take-length s, drop_of_length-le d {i = length s} h) (append-nil s)

-- A copy into the part from a place to the end, put back into the whole.
pub copied :
    (xs out part : List ℕ) (at room : ℕ) → at + length xs ≤ length out → length out ≤ at + room →
    part ≡ take (length xs) xs ++ drop (length xs) (take room (drop at out)) →
    take at out ++ (part ++ drop room (drop at out)) ≡ take at out ++ (xs ++ drop (at + length xs) out)
copied xs out part at room h r e =
    let l : length (drop at out) ≤ room = simp length-drop (omega arith) in
    rw (drop_of_length-le (drop at out) {i = room} l, e, take_all room (drop at out) l, take-length xs, drop-drop (length xs) at out, append-nil)
