-- "The sum of all held own counts equals the number of commits accepted since the keeper was made."
use Rattle.std.specs.Prelude.{ℕ, zero, suc, ◌+◌, List, [], ◌∷◌, ◌≡◌}
use Rattle.refusal.specs.Result.{left}
use Rattle.refusal.specs.Run.{state_after, one}
use Rattle.protocol.specs.declared.Server.{Server}
use Rattle.protocol.specs.Server.{made, held_own, commit}

-- A call of the server's list: a listing into some buffer, or a commit of some record with some mark.
pub data ServerCall : Type 0 where
  list : List ℕ → ServerCall
  commit_of : List ℕ → ℕ → ServerCall

-- What a call leaves of the server's list. A listing leaves it as it is.
abbrev pub leaves : Server → ServerCall → Server
leaves s (list buffer) = s
leaves s (commit_of x mark) = left (commit s x mark) s

-- The server's list after calls, newest first, since it was made for N.
abbrev pub server_after : ℕ → List ServerCall → Server
server_after N = state_after leaves (made N)

-- The number of commits accepted.
unfoldable pub accepted_commits : ℕ → List ServerCall → ℕ
accepted_commits N [] = 0
accepted_commits N (list buffer ∷ earlier) = accepted_commits N earlier
accepted_commits N (commit_of x mark ∷ earlier) = one (commit (server_after N earlier) x mark) + accepted_commits N earlier

-- The sum of the own counts held of the k users from v on.
unfoldable pub own_sum : Server → ℕ → ℕ → ℕ
own_sum s v zero = 0
own_sum s v (suc k) = held_own s v + own_sum s (suc v) k

abbrev pub CommitsCounted : Type 0
CommitsCounted = (N : ℕ) (calls : List ServerCall) → own_sum (server_after N calls) 0 16 ≡ accepted_commits N calls
