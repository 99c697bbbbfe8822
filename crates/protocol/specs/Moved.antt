-- What was remembered before there were files, and its file: both calls answer the one as the other.
use Rattle.std.specs.Prelude.{ℕ, List, ◌⊎◌, ◌≡◌, length}
use Rattle.refusal.specs.Answer.{Answer, accepted, and_then}
use Rattle.protocol.specs.Version.{size}
use Rattle.protocol.specs.Check.{check}
use Rattle.protocol.specs.Create.{create}
use Rattle.protocol.specs.MemoryFile.{Verdict, next, file_of, check_file, create_file}

-- The answer of a check that gives counts, as a verdict. It is never "send again".
abbrev pub as_verdict : Answer (List ℕ) → Answer Verdict
as_verdict a = and_then a (λ counts. accepted (next counts))

-- For every memory of 0 or 98 bytes, good or bad, and whatever else is given.
pub record Moved : Type 0 where
  pub check_moved :
      (N u : ℕ) (old list marks : List ℕ) → (length old ≡ 0) ⊎ (length old ≡ size) →
      check_file N u (file_of old) list marks ≡ as_verdict (check N u old list marks)
  pub create_moved :
      (N u : ℕ) (old counts handle : List ℕ) (room : ℕ) → (length old ≡ 0) ⊎ (length old ≡ size) →
      create_file N u (file_of old) counts handle room ≡ create N u old counts handle room
