-- The calls one after the other: what a check on a file gave, the making step on it takes, and what that makes, the pending write takes.
use Rattle.std.specs.Prelude.{ℕ, List, ◌≡◌, length, get_or}
use Rattle.refusal.specs.Answer.{accepted}
use Rattle.protocol.specs.Version.{size, structure}
use Rattle.protocol.specs.MemoryFile.{file_size, pending_of, next, pend, check_file, create_file}

pub record PendsMade : Type 0 where
  pub creates :
      (N u : ℕ) (f list marks c handle : List ℕ) → check_file N u f list marks ≡ accepted (next c) → length handle ≡ 32 →
      create_file N u f c handle size ≡ accepted (structure u handle (λ v. get_or c v 0))
  -- Whatever counts it got.
  pub pends :
      (N u : ℕ) (f counts handle : List ℕ) (room : ℕ) (x : List ℕ) → create_file N u f counts handle room ≡ accepted x →
      pend N u x file_size ≡ accepted (pending_of x)
