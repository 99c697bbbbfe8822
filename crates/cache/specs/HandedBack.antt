-- "Without copying": what is handed back is one of the lent slices itself, and not only equal to it. A reference to a slice (`Bor`) is where it
-- points, `ref_ptr`, and the elements there, `now`.
use Rattle.std.specs.Prelude.{ℕ, List, [], ◌≡◌}
use Rattle.std.specs.Borrow.{Bor}
use Rattle.refusal.specs.Answer.{Answer, accepted, refused}
use Rattle.cache.specs.Choose.{Choice, chosen}

-- r is handed back: it is the chosen slice, pointer and all; where the call is refused it is empty, and begins where the reply begins.
abbrev pub HandedBack : Answer Choice → Bor (List ℕ) → Bor (List ℕ) → Bor (List ℕ) → Type 0
HandedBack (accepted c) reply cached r = r ≡ chosen c reply cached
HandedBack (refused n p q) reply cached r = (r.now ≡ []) × (r.ref_ptr ≡ reply.ref_ptr)
