-- The check, for C: its counts go into a lent array of numbers, the bytes of "send again" into a lent buffer, and its answer is one of three.
use Rattle.std.specs.Prelude.{ℕ, ◌&&◌, List, [], ◌∷◌, leb, ltb, eqb}
use Rattle.refusal.specs.Answer.{Answer, accepted, refused}
use Rattle.refusal.specs.Order.{Step, unless, in_order}
use Rattle.refusal.specs.Word.{word}
use Rattle.protocol.specs.Version.{size}
use Rattle.protocol.specs.MemoryFile.{Verdict, next, again, check_file}

-- "A length is not the stated one: fixed sizes": 2 also where there is not room for just sixteen numbers and just one structure, after 1 as
-- ever.
unfoldable pub room_steps : ℕ → ℕ → ℕ → ℕ → List Step
room_steps N u countsRoom againRoom =
    unless (leb 1 N) 1 0 0 ∷
    unless (leb N 16) 1 0 0 ∷ unless (ltb u N) 1 0 0 ∷ unless (eqb countsRoom 16 && eqb againRoom size) 2 0 0 ∷ []

unfoldable pub check_into : ℕ → ℕ → List ℕ → List ℕ → List ℕ → ℕ → ℕ → Answer Verdict
check_into N u f list marks countsRoom againRoom = in_order (room_steps N u countsRoom againRoom) (check_file N u f list marks)

-- The number of "send again" in bits 0 to 7: no refusal's, and not 0, "for it is not an acceptance".
abbrev pub send_again : ℕ
send_again = 255

abbrev pub verdict_word : Answer Verdict → ℕ
verdict_word (accepted (next counts)) = word 0 0 0
verdict_word (accepted (again x)) = word send_again 0 0
verdict_word (refused n p q) = word n p q

-- The array after the check, and the buffer: each is written by one of the three answers alone.
abbrev pub counts_left : Answer Verdict → List ℕ → List ℕ
counts_left (accepted (next counts)) before = counts
counts_left (accepted (again x)) before = before
counts_left (refused n p q) before = before

abbrev pub again_left : Answer Verdict → List ℕ → List ℕ
again_left (accepted (next counts)) before = before
again_left (accepted (again x)) before = x
again_left (refused n p q) before = before
