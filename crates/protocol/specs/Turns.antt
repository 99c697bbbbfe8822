-- Demand 3, honest half: all users are honest and take turns through a server's list that starts empty.
use Rattle.std.specs.Prelude.{ℕ, ◌≤◌, ◌<◌, ◌*◌, cond, List, [], ◌∷◌, ◌↔◌, ◌≡◌, eqb, length, take, replicate}
use Rattle.refusal.specs.Answer.{Answer, accepted, refused, and_then, Refused}
use Rattle.refusal.specs.Result.{left}
use Rattle.refusal.specs.Run.{Each}
use Rattle.protocol.specs.declared.Server.{Server}
use Rattle.protocol.specs.Version.{size, count}
use Rattle.protocol.specs.List.{records}
use Rattle.protocol.specs.Check.{last_count}
use Rattle.protocol.specs.MemoryFile.{Verdict, next, again, held, none, sent, check_file, create_file}
use Rattle.protocol.specs.Server.{made, all_held, listed, listing, commit}
use Rattle.protocol.specs.History.{Fate, whole, absent, written, after_write}

-- A turn of a user: its handle, the buffer that it lends to the listing, and whether its file is marked as sent at the end.
pub record Turn : Type 0 where
  pub user : ℕ
  pub handle : List ℕ
  pub buffer : List ℕ
  pub sent_write : Fate

-- The server's list and each client's memory file.
pub record World : Type 0 where
  pub server : Server
  pub file : ℕ → List ℕ

-- "The keeper starts as made for N", and every file as none.
unfoldable pub start : ℕ → World
start N = record { server = made N; file = λ v. none }

-- A turn "is the keeper's listing, a desk call on exactly the records listed, each with mark 1, and a commit of the answer with mark 1." The
-- desk call is two: the check of these records, and the making step with the counts of "a check of the same turn", this one. Its pending
-- write comes whole: "the honest half is for runs without a cut."
unfoldable pub fetched : World → Turn → Answer (List ℕ)
fetched w t =
    and_then (listed w.server (length t.buffer))
    (λ n. accepted (take (size * n) (left (listing w.server t.buffer) t.buffer)))

unfoldable pub checked_in : ℕ → World → Turn → Answer Verdict
checked_in N w t =
    and_then (fetched w t)
    (λ list. check_file N t.user (w.file t.user) list (replicate (records list) 1))

-- The counts of a verdict. "Send again" accepts no list, and a turn that is answered so ends there, as at 5.
abbrev pub counts_in : Verdict → Answer (List ℕ)
counts_in (next counts) = accepted counts
counts_in (again x) = refused 5 0 0

unfoldable pub judged : ℕ → World → Turn → Answer (List ℕ)
judged N w t = and_then (checked_in N w t) counts_in

unfoldable pub made_in : ℕ → World → Turn → Answer (List ℕ)
made_in N w t = and_then (judged N w t) (λ counts. create_file N t.user (w.file t.user) counts t.handle size)

-- "A turn is refused if one of its calls is, and ends there."
unfoldable pub turn : ℕ → World → Turn → Answer Server
turn N w t = and_then (made_in N w t) (λ x. commit w.server x 1)

-- The sent write, where the commit is accepted: "it becomes sent when the keeper has accepted it".
abbrev pub after_commit : ℕ → ℕ → Answer Server → Fate → List ℕ → List ℕ
after_commit N u (accepted s) whole f = left (sent N u f) f
after_commit N u (accepted s) absent f = f
after_commit N u (refused n p q) w f = f

-- The user's file after its turn, where it was f: what the making step made is pending, and then sent or not.
unfoldable pub file_after : ℕ → World → Turn → List ℕ → List ℕ
file_after N w t f = after_commit N t.user (turn N w t) t.sent_write (after_write (written (made_in N w t)) f)

-- The server's list is what the commit leaves.
unfoldable pub after : ℕ → List Turn → World
after N [] = start N
after N (t ∷ earlier) =
    record {
      server = left (turn N (after N earlier) t) (after N earlier).server;
      file = λ v. cond (eqb t.user v) (file_after N (after N earlier) t ((after N earlier).file v)) ((after N earlier).file v);
    }

-- "A turn is that of any user below N. The handle is any; no length is one that 2 or 12 refuses."
abbrev pub Fair : ℕ → List Turn → Type 0
Fair N =
    Each
    (λ earlier t.
    (t.user < N) × (length t.handle ≡ 32) × (length (all_held (after N earlier).server) ≤ length t.buffer))

-- "Then in every list of turns a turn is refused exactly when its user's own count already is 4,294,967,295." Its user's own count is the
-- one that its file holds before the turn, 0 for none. And no check answers "send again".
abbrev pub HonestTurns : Type 0
HonestTurns =
    (N : ℕ) → 1 ≤ N → N ≤ 16 → (turns : List Turn) → Fair N turns →
    Each
    (λ earlier t.
    (Refused (turn N (after N earlier) t) ↔ (count (held ((after N earlier).file t.user)) t.user ≡ last_count)) ×
    ((x : List ℕ) → checked_in N (after N earlier) t ≡ accepted (again x) → ⊥))
    turns
