-- Bytes that a hash names, and their form.
use Rattle.std.specs.Prelude.{ℕ, Bool, List, [], ◌∷◌, eqb, length}
use Rattle.layout.specs.Strings.{same}
use Rattle.refusal.specs.Order.{Step, unless}
use Rattle.sha256.specs.Sha256.{sha256}

-- 2, then 8, of the bytes that stand at a place of the refusals: they are of this size, and have this hash. The inode is place 0, the file block 1, the
-- indirect block 2.
unfoldable pub named_steps : ℕ → List ℕ → ℕ → List ℕ → List Step
named_steps size hash place b = unless (eqb (length b) size) 2 place 0 ∷ unless (same (sha256 b) hash) 8 place 0 ∷ []

-- The same of an inode of this size, whose hash is the handle, which has to be one.
unfoldable pub handle_steps : ℕ → List ℕ → List ℕ → List Step
handle_steps size handle inode = unless (eqb (length handle) 32) 2 0 0 ∷ named_steps size handle 0 inode

-- 3, of what stands at a place.
unfoldable pub form_steps : Bool → ℕ → List Step
form_steps formed place = unless formed 3 place 0 ∷ []
