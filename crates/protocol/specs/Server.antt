-- The server's list (the keeper): making, listing and commit, for every value of it, also one that no call made.
use Rattle.std.specs.Prelude.{ℕ, zero, suc, ◌+◌, ◌*◌, Bool, cond, ◌&&◌, ◌||◌, List, [], ◌∷◌, ◌++◌, leb, eqb, length, take, drop, replicate}
use Rattle.layout.specs.Bytes.{part}
use Rattle.refusal.specs.Answer.{Answer, accepted}
use Rattle.refusal.specs.Result.{left}
use Rattle.refusal.specs.Order.{Step, unless, unless_each, in_order}
use Rattle.protocol.specs.declared.Server.{Server}
use Rattle.protocol.specs.Version.{size, owner, count, own, well_formed, strictly_before}
use Rattle.protocol.specs.List.{records}

-- "It is made for one N and is empty; where N is refused with 1, the keeper handed back is the empty one for one user."
unfoldable pub empty : ℕ → Server
empty N = record { users = N; records = replicate 1568 0 }

unfoldable pub make_steps : ℕ → List Step
make_steps N = unless (leb 1 N) 1 0 0 ∷ unless (leb N 16) 1 0 0 ∷ []

unfoldable pub make : ℕ → Answer Server
make N = in_order (make_steps N) (accepted (empty N))

-- The server's list that making hands back.
unfoldable pub made : ℕ → Server
made N = left (make N) (empty 1)

-- The place of user v's record, and the record held of user v: none where its own count is 0.
abbrev pub slot : Server → ℕ → List ℕ
slot s v = part size s.records v

unfoldable pub held : Server → ℕ → List ℕ
held s v = cond (eqb (count (slot s v) v) 0) [] (slot s v)

-- The own count held of user v, 0 if none is.
abbrev pub held_own : Server → ℕ → ℕ
held_own s v = count (held s v) v

-- The records held of the k users from v on, owners ascending.
unfoldable pub held_from : Server → ℕ → ℕ → List ℕ
held_from s v zero = []
held_from s v (suc k) = held s v ++ held_from s (suc v) k

abbrev pub all_held : Server → List ℕ
all_held s = held_from s 0 16

-- "Listing writes the held records, owners ascending, to the front of a lent buffer, keeps the bytes after them, and gives their number;
-- its only refusal is 12." The number given, for a buffer of this length, and the bytes of the buffer.
unfoldable pub list_steps : Server → ℕ → List Step
list_steps s room = unless (leb (length (all_held s)) room) 12 0 0 ∷ []

unfoldable pub listed : Server → ℕ → Answer ℕ
listed s room = in_order (list_steps s room) (accepted (records (all_held s)))

unfoldable pub listing : Server → List ℕ → Answer (List ℕ)
listing s buffer = in_order (list_steps s (length buffer)) (accepted (all_held s ++ drop (length (all_held s)) buffer))

-- A commit's test 7 at user v: what is held of v is strictly before the new record, and the new record counts as many operations of
-- another user as are held of that user.
unfoldable pub follows : Server → List ℕ → ℕ → Bool
follows s x v =
    (eqb (length (held s v)) 0 || strictly_before (held s v) x) && (eqb v (owner x) || eqb (count x v) (held_own s v))

-- "The record replaces its owner's."
unfoldable pub replaced : Server → List ℕ → Server
replaced s x =
    record {
      users = s.users;
      records = take (size * owner x) s.records ++ (x ++ drop (size * owner x + size) s.records);
    }

-- "Order for a commit: 2, 3, 4, 5, 7."
unfoldable pub commit_steps : Server → List ℕ → ℕ → List Step
commit_steps s x mark =
    unless (eqb (length x) size) 2 0 0 ∷
    unless (well_formed s.users x) 3 0 0 ∷
    unless (eqb mark 1) 4 0 0 ∷
    unless (eqb (own x) (held_own s (owner x) + 1)) 5 0 0 ∷ unless_each (follows s x) 16 7 ∷ []

unfoldable pub commit : Server → List ℕ → ℕ → Answer Server
commit s x mark = in_order (commit_steps s x mark) (accepted (replaced s x))
