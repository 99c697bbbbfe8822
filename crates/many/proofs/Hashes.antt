-- A block that is byte for byte a known one has the known hash.
use Prim.Native.Nat.{ℕ, ◌+◌, ◌*◌, ◌≤◌}
use mathlib.Core.Bool.{true}
use mathlib.Core.List.{List}
use mathlib.Core.Path.{◌≡◌}
use native.Mathlib.Omega.{arith}
use lib.ListN.{length}
use Rattle.layout.specs.Bytes.{part}
use Rattle.layout.specs.Strings.{same}
use Rattle.layout.proofs.Parts.{length_of_part}
use Rattle.layout.proofs.Strings.{same_true}
use Rattle.sha256.specs.Sha256.{sha256}
use Rattle.sha256.specs.Hash.{is_hash}
use Rattle.sha256.proofs.Laws.{is_hash_means}
use Rattle.itable.specs.Block.{size}
use Rattle.std.specs.Prelude.{Some}
use Rattle.many.specs.Internal.Known.{Knows}
use Rattle.many.specs.declared.Known.{Known}

module _ (paths : List ℕ) (i : ℕ) (h : size * i + size ≤ length paths) where
  -- Block i is within the limit of the hash.
  pub block_hash : (hash : List ℕ) → is_hash (part size paths i) hash ≡ same (sha256 (part size paths i)) hash
  block_hash hash = is_hash_means (part size paths i) hash (omega (arith, length_of_part size paths i h))

  pub known_hash :
      (k : Known) → Knows paths (Some k) → same (part size paths k.at) (part size paths i) ≡ true → (hash : List ℕ) →
      same k.hash hash ≡ is_hash (part size paths i) hash
  known_hash k f e hash = rw (block_hash hash, ← same_true (part size paths k.at) (part size paths i) e, f.1)
