-- The calls: SHA-256 of 0 to 65,536 bytes, into a lent buffer of 32, and compared with a wanted hash.
use Rattle.std.specs.Prelude.{ℕ, Bool, ◌&&◌, List, [], ◌∷◌, length, ◌==◌, nat_le}
use Rattle.layout.specs.Strings.{same}
use Rattle.refusal.specs.Answer.{Answer, accepted}
use Rattle.refusal.specs.Order.{in_order, unless}
use Rattle.sha256.specs.Sha256.{sha256}

-- The answer for the message m and a buffer of n bytes: 2 for over 65,536 bytes, and for a buffer that is not of 32.
unfoldable pub hash : List ℕ → ℕ → Answer (List ℕ)
hash m n = in_order (unless (nat_le (length m) 65536) 2 0 0 ∷ unless (n == 32) 2 0 0 ∷ []) (accepted (sha256 m))

-- Whether a message of at most 65,536 bytes has this hash.
unfoldable pub is_hash : List ℕ → List ℕ → Bool
is_hash m wanted = nat_le (length m) 65536 && same (sha256 m) wanted
