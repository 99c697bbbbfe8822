-- What a server's list lists, whatever calls came since it was made: "Listing writes the held records, owners ascending".
use Rattle.std.specs.Prelude.{ℕ, ◌*◌, ◌<◌, List, [], ◌≡◌, length}
use Rattle.protocol.specs.declared.Server.{Server}
use Rattle.protocol.specs.Version.{size}
use Rattle.protocol.specs.List.{records, entry}
use Rattle.protocol.specs.Server.{all_held}
use Rattle.protocol.specs.Meaning.{WellPlaced}
use Rattle.protocol.specs.CommitMeaning.{Holds, HoldsNone}
use Rattle.protocol.specs.Commits.{ServerCall, server_after}

-- The listing is whole records, each well formed and its owner above the one before; its entry for a user is what is held of that user, and
-- there is none where none is held.
pub record ListsHeld (s : Server) : Type 0 where
  pub whole : size * records (all_held s) ≡ length (all_held s)
  pub placed : (i : ℕ) → i < records (all_held s) → WellPlaced s.users (all_held s) i
  pub entries : (v : ℕ) → v < 16 → (y : List ℕ) → Holds s v y → entry (all_held s) v ≡ y
  pub no_others : (v : ℕ) → v < 16 → HoldsNone s v → entry (all_held s) v ≡ []

abbrev pub ListingsAscend : Type 0
ListingsAscend = (N : ℕ) (calls : List ServerCall) → ListsHeld (server_after N calls)
