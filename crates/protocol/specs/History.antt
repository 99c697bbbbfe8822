-- Runs: any list of checks, making steps and sent writes, all with one number of users N. A run is written newest first, so that what follows
-- an event in the list is what came earlier in the run.
use Rattle.std.specs.Prelude.{ℕ, cond, List, [], ◌∷◌, ◌⊎◌, ◌≡◌, eqb}
use Rattle.refusal.specs.Answer.{Answer, accepted, refused}
use Rattle.refusal.specs.Result.{left}
use Rattle.protocol.specs.Check.{check}
use Rattle.protocol.specs.Create.{create}
use Rattle.protocol.specs.MemoryFile.{Verdict, next, none, pending_of, sent, check_file, create_file}

-- A check at the client of `user` (a desk call). Lists, marks and their lengths may be anything.
pub record Call : Type 0 where
  pub user : ℕ
  pub list : List ℕ
  pub marks : List ℕ

-- What it answers where the client remembers `mem`.
abbrev pub called : ℕ → List ℕ → Call → Answer (List ℕ)
called N mem c = check N c.user mem c.list c.marks

-- And where its memory file is f.
abbrev pub called_on : ℕ → List ℕ → Call → Answer Verdict
called_on N f c = check_file N c.user f c.list c.marks

-- A making step at the client of `user`. Counts, handles and lengths may be anything.
pub record Making : Type 0 where
  pub user : ℕ
  pub counts : List ℕ
  pub handle : List ℕ
  pub room : ℕ

abbrev pub created : ℕ → List ℕ → Making → Answer (List ℕ)
created N mem m = create N m.user mem m.counts m.handle m.room

abbrev pub created_on : ℕ → List ℕ → Making → Answer (List ℕ)
created_on N f m = create_file N m.user f m.counts m.handle m.room

-- "One write is whole or absent": whether a cut came before it.
pub data Fate : Type 0 where
  whole : Fate
  absent : Fate

-- What happens in a run, any number of each in any order, "refused ones included": a check; a making step, with its pending write "before the
-- next call and before anything leaves the desk", so that nothing comes between the two; and a user's sent write, of the file as it stands.
pub data Event : Type 0 where
  checks : Call → Event
  creates : Making → Fate → Event
  marks_sent : ℕ → Fate → Event

abbrev pub user_of : Event → ℕ
user_of (checks c) = c.user
user_of (creates m w) = m.user
user_of (marks_sent u w) = u

-- What an event writes into its client's file as pending: a structure, or nothing.
pub data Write : Type 0 where
  nothing : Write
  writes : List ℕ → Write

-- What a making step's answer writes: an accepted one alone, its structure.
abbrev pub written : Answer (List ℕ) → Write
written (accepted x) = writes x
written (refused n p q) = nothing

-- A check "gives the new counts and writes nothing", an absent write is none, and a sent write writes no structure.
abbrev pub write_of : ℕ → List ℕ → Event → Write
write_of N f (checks c) = nothing
write_of N f (creates m whole) = written (created_on N f m)
write_of N f (creates m absent) = nothing
write_of N f (marks_sent u w) = nothing

-- The file after a pending write, which is what `pend` gives of the structure.
abbrev pub after_write : Write → List ℕ → List ℕ
after_write nothing before = before
after_write (writes x) before = pending_of x

-- The client's file after an event, where it was f.
abbrev pub after_event : ℕ → List ℕ → Event → List ℕ
after_event N f (checks c) = f
after_event N f (creates m whole) = after_write (written (created_on N f m)) f
after_event N f (creates m absent) = f
after_event N f (marks_sent u whole) = left (sent N u f) f
after_event N f (marks_sent u absent) = f

-- The file of client a after a run, where it was `start` at first. It "is handed to each call at that desk", and "only its pending and sent
-- writes change" it.
unfoldable pub file_from : ℕ → List ℕ → List Event → ℕ → List ℕ
file_from N start [] a = start
file_from N start (e ∷ earlier) a =
    cond (eqb (user_of e) a) (after_event N (file_from N start earlier a) e) (file_from N start earlier a)

-- What the event e writes that comes after `earlier`.
abbrev pub writing_from : ℕ → List ℕ → List Event → Event → Write
writing_from N start earlier e = write_of N (file_from N start earlier (user_of e)) e

-- "Counting the structures whose pending write came whole": x is one that user a made in the run.
abbrev pub Counted : ℕ → List ℕ → List Event → ℕ → List ℕ → Type 0
Counted N start [] a x = ⊥
Counted N start (e ∷ earlier) a x = ((user_of e ≡ a) × (writing_from N start earlier e ≡ writes x)) ⊎ Counted N start earlier a x

-- The runs of demand 3 start "as none" at every client.
abbrev pub file : ℕ → List Event → ℕ → List ℕ
file N = file_from N none

-- The answer of the check c that comes after `earlier`, and of the making step m.
abbrev pub answer : ℕ → List Event → Call → Answer Verdict
answer N earlier c = called_on N (file N earlier c.user) c

abbrev pub outcome : ℕ → List Event → Making → Answer (List ℕ)
outcome N earlier m = created_on N (file N earlier m.user) m

-- User a signed x in the run: "demand 3 counts as signed exactly those whose pending write came whole, and the last of these is the one the
-- desk brings."
abbrev pub Signed : ℕ → List Event → ℕ → List ℕ → Type 0
Signed N = Counted N none

-- A check of user a in the run accepted, and gave these counts.
abbrev pub Gave : ℕ → List Event → ℕ → List ℕ → Type 0
Gave N [] a counts = ⊥
Gave N (e ∷ earlier) a counts =
    ((c : Call) × (e ≡ checks c) × (c.user ≡ a) × (answer N earlier c ≡ accepted (next counts))) ⊎ Gave N earlier a counts
