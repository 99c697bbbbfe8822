-- What is known of blocks from one question to the next: hashes, and nothing that was judged by them.
use Rattle.std.specs.Prelude.{ℕ, ◌+◌, ◌*◌, ◌≤◌, ◌<◌, List, ◌≡◌, length, get_or, Option, None, Some}
use Rattle.layout.specs.Bytes.{part}
use Rattle.sha256.specs.Sha256.{sha256}
use Rattle.itable.specs.Block.{size}
use Rattle.many.specs.declared.Known.{Known}

-- The paths have a block of this index, and its hash is this one; or nothing is known.
abbrev pub Knows : List ℕ → Option Known → Type 0
Knows paths None = Unit
Knows paths (Some k) = (size * k.at + size ≤ length paths) × (sha256 (part size paths k.at) ≡ k.hash)

-- So it is at each depth of a path.
abbrev pub AllKnown : List ℕ → List (Option Known) → Type 0
AllKnown paths known = (d : ℕ) → d < 3 → Knows paths (get_or known d None)
