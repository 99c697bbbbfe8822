-- "Old files move over, and back if not pending; neither round trip loses anything."
use Rattle.std.specs.Prelude.{ℕ, List, ◌⊎◌, ◌↔◌, ◌≡◌, length}
use Rattle.refusal.specs.Answer.{accepted}
use Rattle.protocol.specs.Version.{size}
use Rattle.protocol.specs.MemoryFile.{file_size, over, back}
use Rattle.protocol.specs.Meaning.{Users, Remembered}
use Rattle.protocol.specs.MemoryMeaning.{Formed, NotPending}

pub record RoundTrips : Type 0 where
  pub over_back : (N u : ℕ) (old f : List ℕ) → over N u old file_size ≡ accepted f → back N u f size ≡ accepted old
  pub back_over : (N u : ℕ) (f old : List ℕ) → back N u f size ≡ accepted old → over N u old file_size ≡ accepted f
  -- Moved over is just what a check remembers: none, or a well formed structure of the user.
  pub over_takes :
      (N u : ℕ) (old : List ℕ) →
      ((f : List ℕ) × (over N u old file_size ≡ accepted f)) ↔
      (Users N u × ((length old ≡ 0) ⊎ (length old ≡ size)) × Remembered N u old)
  -- Moved back is just a file that is so formed, and not pending.
  pub back_takes :
      (N u : ℕ) (f : List ℕ) →
      ((old : List ℕ) × (back N u f size ≡ accepted old)) ↔ (Users N u × (length f ≡ file_size) × Formed N u f × NotPending f)
