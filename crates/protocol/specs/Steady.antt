-- What every world after fair turns meets, so that its user's next structure comes after everything held.
use Rattle.std.specs.Prelude.{ℕ, ◌≤◌, ◌<◌, List, [], ◌⊎◌, ◌≡◌, length}
use Rattle.protocol.specs.declared.Server.{Server}
use Rattle.protocol.specs.Version.{size, owner, count}
use Rattle.protocol.specs.Server.{held, held_own}
use Rattle.protocol.specs.MemoryFile.{file_size, held as held_in}
use Rattle.protocol.specs.Meaning.{WellFormed, AtOrBefore}
use Rattle.protocol.specs.MemoryMeaning.{Formed}
use Rattle.protocol.specs.Turns.{Turn, after, Fair}

-- User v's own structure, well formed for N.
pub record Proper (N v : ℕ) (x : List ℕ) : Type 0 where
  pub whole : length x ≡ size
  pub owned : owner x ≡ v
  pub formed : WellFormed N x

-- None, or user v's own.
abbrev pub Kept : ℕ → ℕ → List ℕ → Type 0
Kept N v x = (x ≡ []) ⊎ Proper N v x

-- Of a server's list for N and the files: each user's file is so formed, and holds what is held of that user, sent or pending, which is none
-- or its own structure; nothing held counts more operations of a user than that user's own; and of any two held one is at or before the other.
pub record Steady (N : ℕ) (s : Server) (file : ℕ → List ℕ) : Type 0 where
  pub users : s.users ≡ N
  pub long : length s.records ≡ 1568
  pub filed : (v : ℕ) → v < N → (length (file v) ≡ file_size) × Formed N v (file v)
  pub remembered : (v : ℕ) → v < N → held_in (file v) ≡ held s v
  pub kept : (v : ℕ) → v < 16 → Kept N v (held s v)
  pub counted : (v w : ℕ) → v < 16 → w < 16 → count (held s v) w ≤ held_own s w
  pub ordered : (v w : ℕ) → v < 16 → w < 16 → AtOrBefore (held s v) (held s w) ⊎ AtOrBefore (held s w) (held s v)

abbrev pub SteadyTurns : Type 0
SteadyTurns =
    (N : ℕ) → 1 ≤ N → N ≤ 16 → (turns : List Turn) → Fair N turns → Steady N (after N turns).server (after N turns).file
