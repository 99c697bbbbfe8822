-- A count of 0 or above 3 is refused as that question's own 2: its path has as many blocks as the count says, and a lookup takes one to three.
use Prim.Native.Nat.{ℕ, ◌*◌, ◌<◌}
use mathlib.Core.List.{List}
use mathlib.Core.Logic.{◌⊎◌, ⊎_elim}
use mathlib.Core.Path.{◌≡◌, ◌∙◌}
use native.Mathlib.Omega.{arith}
use lib.ListN.{length, get_or}
use Rattle.refusal.specs.Answer.{refused}
use Rattle.itable.specs.Block.{size}
use Rattle.itable.specs.Lookup.{lookup}
use Rattle.itable.specs.LookupMeaning.{lengths}
use Rattle.itable.specs.Many.{path_at, single}
use Rattle.itable.specs.ManyMeaning.{CountRefused}
use Rattle.itable.proofs.LookupMeans.{lookup_means}
use Rattle.itable.proofs.Many.{path_at_long, first_refused}
use Rattle.itable.proofs.ManySizes.{sized}

-- A path of no block, or of more than three, is refused.
pub no_path : (handle : List ℕ) (i : ℕ) (path : List ℕ) (n : ℕ) → length path ≡ size * n → (n ≡ 0) ⊎ (3 < n) → lookup handle i path ≡ refused 2 0 0
no_path handle i path n long c =
    ((lookup_means handle i path).1 2 0 0).1 (lengths (λ w. ⊎_elim (λ z. omega (arith, w.some)) (λ m. omega (arith, w.few)) c))

pub count_refused : CountRefused
count_refused handle numbers counts paths room q s l before c =
    sized handle numbers counts paths room s ∙
    first_refused (single handle numbers counts paths) (length numbers) q before l
    (no_path handle (get_or numbers q 0) (path_at counts paths q) (get_or counts q 0) (path_at_long counts paths q s.filled) c)
