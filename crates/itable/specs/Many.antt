-- Many lookups in one call, 02's request f): "Ask for up to 64 i-numbers of one table in one call, with the paths end to end and each path's block
-- count." Question q asks for one i-number, along its own path.
use Rattle.std.specs.Prelude.{ℕ, zero, suc, ◌+◌, ◌*◌, List, [], ◌∷◌, ◌++◌, leb, eqb, length, get_or, take, drop, replicate}
use Rattle.refusal.specs.Answer.{Answer, accepted, refused, and_then}
use Rattle.refusal.specs.Order.{Step, unless, in_order}
use Rattle.itable.specs.Block.{size}
use Rattle.itable.specs.Lookup.{Entry, found, absent, lookup}

-- The sum of these counts.
unfoldable pub total : List ℕ → ℕ
total [] = 0
total (n ∷ ns) = n + total ns

-- Question q's path: as many blocks as its count says, after those of the questions before it.
abbrev pub path_at : List ℕ → List ℕ → ℕ → List ℕ
path_at counts paths q = take (size * get_or counts q 0) (drop (size * total (take q counts)) paths)

-- The single lookup of question q.
abbrev pub single : List ℕ → List ℕ → List ℕ → List ℕ → ℕ → Answer Entry
single handle numbers counts paths q = lookup handle (get_or numbers q 0) (path_at counts paths q)

-- "The first that would be refused refuses the call with its number, the places being the question's index and then the place within its path."
abbrev pub at_question : {A : Type 0} → ℕ → Answer A → Answer A
at_question q (accepted a) = accepted a
at_question q (refused n p r) = refused n q p

-- "An answer is 33 bytes, a 1 and the handle, or all zero for absent."
abbrev pub entry_size : ℕ
entry_size = 33

abbrev pub entry_bytes : Entry → List ℕ
entry_bytes (found handle) = 1 ∷ handle
entry_bytes absent = replicate entry_size 0

-- "The answers, in the order asked, are those of the single lookups": of the k questions from q on, where `ask` is what each lookup says.
unfoldable pub answers_from : (ℕ → Answer Entry) → ℕ → ℕ → Answer (List ℕ)
answers_from ask q zero = accepted []
answers_from ask q (suc k) =
    and_then (at_question q (ask q)) (λ e. and_then (answers_from ask (suc q) k) (λ later. accepted (entry_bytes e ++ later)))

-- "2 comes first for the whole call, with a handle not of 32 bytes, question and count lists of unlike length, over 64 questions, paths that don't
-- fill the bytes exactly, or an answer buffer of another length."
unfoldable pub many_steps : List ℕ → List ℕ → List ℕ → List ℕ → ℕ → List Step
many_steps handle numbers counts paths room =
    unless (eqb (length handle) 32) 2 0 0 ∷
    unless (eqb (length numbers) (length counts)) 2 0 0 ∷
    unless (leb (length numbers) 64) 2 0 0 ∷
    unless (eqb (size * total counts) (length paths)) 2 0 0 ∷
    unless (eqb room (entry_size * length numbers)) 2 0 0 ∷ []

-- The answers to all questions, which fill the buffer of `room` bytes.
unfoldable pub many : List ℕ → List ℕ → List ℕ → List ℕ → ℕ → Answer (List ℕ)
many handle numbers counts paths room =
    in_order (many_steps handle numbers counts paths room)
    (answers_from (single handle numbers counts paths) 0 (length numbers))
