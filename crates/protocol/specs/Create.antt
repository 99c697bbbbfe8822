-- The making step (02, h): the client's next structure, from the counts that a check gave, the remembered structure and the new i-handle.
-- It judges no list and no order: whose counts these are and how they stand is the check's to say.
use Rattle.std.specs.Prelude.{ℕ, ◌+◌, ◌-◌, not, ◌||◌, List, [], ◌∷◌, leb, ltb, eqb, length, get_or}
use Rattle.search.specs.Search.{every}
use Rattle.refusal.specs.Answer.{Answer, accepted}
use Rattle.refusal.specs.Order.{Step, unless, in_order}
use Rattle.protocol.specs.Version.{size, count, structure}
use Rattle.protocol.specs.Check.{last_count, remembers}

-- "The making step gives 1, 2,": for the users, and for the lengths of the remembered structure, the counts, the handle and the answer's
-- buffer, which is `room`.
unfoldable pub length_steps : ℕ → ℕ → List ℕ → List ℕ → List ℕ → ℕ → List Step
length_steps N u mem counts handle room =
    unless (leb 1 N) 1 0 0 ∷
    unless (leb N 16) 1 0 0 ∷
    unless (ltb u N) 1 0 0 ∷
    unless (eqb (length mem) 0 || eqb (length mem) size) 2 0 0 ∷
    unless (eqb (length counts) 16) 2 0 0 ∷ unless (eqb (length handle) 32) 2 0 0 ∷ unless (eqb room size) 2 0 0 ∷ []

-- "3 (place 16 for the remembered structure, then place 0 for counts of users N to 15 that are not zero), then 6, then 16 if the own count
-- is not one more than remembered, or than 0 if there is none."
unfoldable pub count_steps : ℕ → ℕ → List ℕ → List ℕ → List Step
count_steps N u mem counts =
    unless (remembers N u mem) 3 16 0 ∷
    unless (every (λ v. eqb (get_or counts v 0) 0) N (16 - N)) 3 0 0 ∷
    unless (not (eqb (count mem u) last_count)) 6 0 0 ∷ unless (eqb (get_or counts u 0) (count mem u + 1)) 16 0 0 ∷ []

-- Accepted: "the 98 bytes", of owner u, with this handle and these counts.
unfoldable pub create : ℕ → ℕ → List ℕ → List ℕ → List ℕ → ℕ → Answer (List ℕ)
create N u mem counts handle room =
    in_order (length_steps N u mem counts handle room)
    (in_order (count_steps N u mem counts) (accepted (structure u handle (λ v. get_or counts v 0))))
