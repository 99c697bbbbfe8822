-- "While pending, a list that shows that structure is judged as if it were sent"; and to the making step sent and pending are the same.
use Rattle.std.specs.Prelude.{ℕ, List, ◌∷◌, ◌≡◌}
use Rattle.protocol.specs.List.{entry}
use Rattle.protocol.specs.MemoryFile.{pending_of, check_file, create_file}

-- The file of a structure that was sent.
abbrev pub sent_file : List ℕ → List ℕ
sent_file x = 7 ∷ 0 ∷ x

pub record PendingAsSent : Type 0 where
  pub checks :
      (N u : ℕ) (x list marks : List ℕ) → entry list u ≡ x →
      check_file N u (pending_of x) list marks ≡ check_file N u (sent_file x) list marks
  pub creates :
      (N u : ℕ) (x counts handle : List ℕ) (room : ℕ) →
      create_file N u (pending_of x) counts handle room ≡ create_file N u (sent_file x) counts handle room
