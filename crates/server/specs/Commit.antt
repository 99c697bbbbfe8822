-- A commit to the records of a server's list, where they are lent by themselves, as bytes.
use Rattle.std.specs.Prelude.{ℕ, List, [], ◌∷◌, eqb, length}
use Rattle.refusal.specs.Answer.{Answer, accepted, and_then}
use Rattle.refusal.specs.Order.{unless, in_order}
use Rattle.protocol.specs.Server.{commit}

-- "A length is not the stated one: fixed sizes": 2 where they are not of sixteen records, before all that the commit itself refuses. The
-- records that the commit leaves.
unfoldable pub commit_into : ℕ → List ℕ → List ℕ → ℕ → Answer (List ℕ)
commit_into N records x mark =
    in_order (unless (eqb (length records) 1568) 2 0 0 ∷ [])
    (and_then (commit (record { users = N; records = records }) x mark) (λ s. accepted s.records))
