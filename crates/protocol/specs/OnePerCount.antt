-- "Counting the structures whose pending write came whole, and nothing else ever leaves, after a cut at any moment the desk never makes two
-- different structures with one own count".
use Rattle.std.specs.Prelude.{ℕ, ◌<◌, List, ◌⊎◌, ◌≡◌}
use Rattle.refusal.specs.Answer.{accepted}
use Rattle.protocol.specs.Version.{own}
use Rattle.protocol.specs.MemoryFile.{file_size, held, none, over}
use Rattle.protocol.specs.History.{Event, Counted}

-- "From a file that is none or moved over and that only its pending and sent writes change."
abbrev pub Begins : ℕ → ℕ → List ℕ → Type 0
Begins N u f = (f ≡ none) ⊎ ((old : List ℕ) × (over N u old file_size ≡ accepted f))

-- For all lists of events, whatever counts the making steps get; and each one counted comes after what the file held at first.
abbrev pub OnePerCount : Type 0
OnePerCount =
    (N u : ℕ) (f : List ℕ) → Begins N u f → (run : List Event) →
    ((x y : List ℕ) → Counted N f run u x → Counted N f run u y → own x ≡ own y → x ≡ y) ×
    ((x : List ℕ) → Counted N f run u x → own (held f) < own x)
