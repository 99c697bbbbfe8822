-- A lookup whose result goes into a lent buffer.
use Rattle.std.specs.Prelude.{ℕ, List, [], ◌∷◌, eqb, length}
use Rattle.refusal.specs.Answer.{Answer, accepted, and_then}
use Rattle.refusal.specs.Order.{unless, in_order}
use Rattle.itable.specs.Lookup.{Entry, found, absent, lookup}

-- "A length is not the stated one: fixed sizes": 2 also where the buffer is not of a handle's 32 bytes.
unfoldable pub looked_up : List ℕ → ℕ → List ℕ → ℕ → Answer Entry
looked_up handle i path room = in_order (unless (eqb room 32) 2 0 0 ∷ []) (lookup handle i path)

-- "A leaf gives the handle, or absent": 1 where the file is found, and 0 where it is absent.
abbrev pub is_found : Entry → ℕ
is_found (found handle) = 1
is_found absent = 0

-- The buffer afterwards: the file's handle; as it was where the file is absent.
abbrev pub entry_or : List ℕ → Entry → List ℕ
entry_or before (found handle) = handle
entry_or before absent = before

unfoldable pub lookup_into : List ℕ → ℕ → List ℕ → List ℕ → Answer (List ℕ)
lookup_into handle i path buffer = and_then (looked_up handle i path (length buffer)) (λ e. accepted (entry_or buffer e))
