-- A server's list in lent bytes, for callers that lend it as such: the number of users, then the sixteen records, 1,569 bytes in all.
use Rattle.std.specs.Prelude.{ℕ, List, [], ◌∷◌, ◌≡◌, eqb, length, get_or, drop}
use Rattle.refusal.specs.Answer.{Answer, accepted, and_then}
use Rattle.refusal.specs.Order.{Step, unless, in_order}
use Rattle.protocol.specs.Server.{make, listed, listing}
use Rattle.protocol.specs.declared.Server.{Server}

-- The list that the bytes are, and the bytes that a list is.
unfoldable pub server_in : List ℕ → Server
server_in b = record { users = get_or b 0 0; records = drop 1 b }

unfoldable pub bytes_of : Server → List ℕ
bytes_of s = s.users ∷ s.records

-- The list in C is one thing in its two forms: every list is read back from its bytes, and every 1,569 bytes are those of the list in them.
pub record ServerInBytes : Type 0 where
  pub read_back : (s : Server) → server_in (bytes_of s) ≡ s
  pub written_back : (b : List ℕ) → length b ≡ 1569 → bytes_of (server_in b) ≡ b

-- "A length is not the stated one: fixed sizes": 2, before all that the call on the list itself refuses.
unfoldable pub size_steps : List ℕ → List Step
size_steps b = unless (eqb (length b) 1569) 2 0 0 ∷ []

-- The bytes of the list that is made.
unfoldable pub make_at : ℕ → List ℕ → Answer (List ℕ)
make_at N b = in_order (size_steps b) (and_then (make N) (λ s. accepted (bytes_of s)))

-- The number of records that the list in b holds, for a buffer of this length, and the bytes of the buffer.
unfoldable pub listed_at : List ℕ → ℕ → Answer ℕ
listed_at b room = in_order (size_steps b) (listed (server_in b) room)

unfoldable pub listing_at : List ℕ → List ℕ → Answer (List ℕ)
listing_at b buffer = in_order (size_steps b) (listing (server_in b) buffer)
