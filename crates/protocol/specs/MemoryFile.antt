-- The memory file (02, i): "kind 7 in 100 bytes: a state byte (0 sent, 1 pending, 2 none with zeros after it), then the structure, which is
-- the remembered one for the check and the making step". What a file is, its own four calls, and the check and the making step on it.
use Rattle.std.specs.Prelude.{ℕ, ◌+◌, Bool, not, cond, ◌&&◌, ◌||◌, List, [], ◌∷◌, ◌++◌, leb, ltb, eqb, length, get_or, take, drop, replicate}
use Rattle.layout.specs.Strings.{zeros}
use Rattle.refusal.specs.Answer.{Answer, accepted, and_then}
use Rattle.refusal.specs.Order.{Step, unless, in_order}
use Rattle.protocol.specs.Version.{size, owner, count, structure, well_formed}
use Rattle.protocol.specs.List.{entry}
use Rattle.protocol.specs.Check.{remembers, current, next_counts, size_steps, form_steps, order_steps}
use Rattle.protocol.specs.Create.{length_steps, count_steps}

abbrev pub file_size : ℕ
file_size = 100

-- Its first byte, its state, and what is behind them.
abbrev pub file_kind : List ℕ → ℕ
file_kind f = get_or f 0 0

abbrev pub state : List ℕ → ℕ
state f = get_or f 1 0

abbrev pub behind : List ℕ → List ℕ
behind f = drop 2 f

-- The structure that the file remembers: no bytes in state 2.
unfoldable pub held : List ℕ → List ℕ
held f = cond (eqb (state f) 2) [] (behind f)

-- A structure is well formed, and u's own.
abbrev pub own_formed : ℕ → ℕ → List ℕ → Bool
own_formed N u x = well_formed N x && eqb (owner x) u

-- A file of user u is so formed: in state 2 all behind it is zero, and in state 0 or 1 it is u's structure.
unfoldable pub formed : ℕ → ℕ → List ℕ → Bool
formed N u f =
    eqb (file_kind f) 7 && cond (eqb (state f) 2) (zeros f 2 size) (leb (state f) 1 && own_formed N u (behind f))

-- The file of what a client remembered before there were files, none or one structure; it judges nothing.
unfoldable pub file_of : List ℕ → List ℕ
file_of [] = 7 ∷ 2 ∷ replicate size 0
file_of (b ∷ old) = 7 ∷ 0 ∷ b ∷ old

-- A client's first file, in state none.
abbrev pub none : List ℕ
none = file_of []

-- The file of a structure that may have been sent or not.
abbrev pub pending_of : List ℕ → List ℕ
pending_of x = 7 ∷ 1 ∷ x

-- "A call that sets a pending file's state byte to 0 and changes nothing else."
unfoldable pub sent_of : List ℕ → List ℕ
sent_of f = cond (eqb (state f) 1) (take 1 f ++ (0 ∷ behind f)) f

-- The order of the four calls: 1 for the users, 2 for the lengths, 3 with place 16 for the form of what is given.
unfoldable pub file_steps : ℕ → ℕ → Bool → Bool → List Step
file_steps N u long good =
    unless (leb 1 N) 1 0 0 ∷
    unless (leb N 16) 1 0 0 ∷ unless (ltb u N) 1 0 0 ∷ unless long 2 0 0 ∷ unless good 3 16 0 ∷ []

-- "Old files move over": what was remembered, 98 bytes or none, into a file. `room` is the answer's buffer, here and below.
unfoldable pub over : ℕ → ℕ → List ℕ → ℕ → Answer (List ℕ)
over N u old room =
    in_order (file_steps N u ((eqb (length old) 0 || eqb (length old) size) && eqb room file_size) (remembers N u old))
    (accepted (file_of old))

-- "And back if not pending"; "17, moving back while pending, after 1, 2 and 3."
unfoldable pub back : ℕ → ℕ → List ℕ → ℕ → Answer (List ℕ)
back N u f room =
    in_order (file_steps N u (eqb (length f) file_size && eqb room size) (formed N u f))
    (in_order (unless (not (eqb (state f) 1)) 17 0 0 ∷ []) (accepted (held f)))

-- In a lent buffer: to its front, and the bytes after it stay, all of them where there is none.
unfoldable pub back_into : ℕ → ℕ → List ℕ → List ℕ → Answer (List ℕ)
back_into N u f buffer = and_then (back N u f (length buffer)) (λ old. accepted (old ++ drop (length old) buffer))

-- "It becomes sent when the keeper has accepted it." A file that is not pending is accepted as it is.
unfoldable pub sent : ℕ → ℕ → List ℕ → Answer (List ℕ)
sent N u f = in_order (file_steps N u (eqb (length f) file_size) (formed N u f)) (accepted (sent_of f))

-- "It is written as pending before the next call and before anything leaves the desk": the file of a structure that was made.
unfoldable pub pend : ℕ → ℕ → List ℕ → ℕ → Answer (List ℕ)
pend N u x room =
    in_order (file_steps N u (eqb (length x) size && eqb room file_size) (own_formed N u x)) (accepted (pending_of x))

-- What a check or a making step asks of a file: its length, and its form.
unfoldable pub given_steps : ℕ → ℕ → List ℕ → List Step
given_steps N u f = unless (eqb (length f) file_size) 2 0 0 ∷ unless (formed N u f) 3 16 0 ∷ []

-- "A list that shows the structure before it by own count, or no entry where the own count is 1, gets the answer 'send again'": while pending,
-- the list's entry is not what is held, and counts one operation of u less. No entry counts none.
unfoldable pub sends_again : ℕ → List ℕ → List ℕ → Bool
sends_again u f list =
    not (current u (held f) list) && (eqb (state f) 1 && eqb (count (entry list u) u + 1) (count (held f) u))

-- What a check says that is not refused: the new counts, or "send again" with the bytes. The first alone accepts the list.
pub data Verdict : Type 0 where
  next : List ℕ → Verdict
  again : List ℕ → Verdict

-- The check on a file. All steps are those of `check`, without a memory up to 2, and on what the file holds from then on, where the memory's
-- own test of form passes; the file's length and form are asked in their places, and "'send again' stands at 5's place in the order."
unfoldable pub check_file : ℕ → ℕ → List ℕ → List ℕ → List ℕ → Answer Verdict
check_file N u f list marks =
    in_order (size_steps N u [] list marks)
    (in_order (given_steps N u f)
    (in_order (form_steps N u (held f) list marks)
    (cond (sends_again u f list)
    (accepted (again (held f)))
    (in_order (order_steps u (held f) list) (accepted (next (next_counts u (held f) list)))))))

-- The making step on a file, in the same way. It makes no difference between sent and pending.
unfoldable pub create_file : ℕ → ℕ → List ℕ → List ℕ → List ℕ → ℕ → Answer (List ℕ)
create_file N u f counts handle room =
    in_order (length_steps N u [] counts handle room)
    (in_order (given_steps N u f)
    (in_order (count_steps N u (held f) counts) (accepted (structure u handle (λ v. get_or counts v 0)))))
