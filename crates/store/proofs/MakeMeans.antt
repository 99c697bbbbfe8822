-- Making means what Meaning says: its one test decides the length, and bytes of one length that are all zero are those of a made store.
use Prim.Native.Nat.{ℕ}
use mathlib.Core.List.{List, [], ◌∷◌}
use mathlib.Core.Path.{◌≡◌, sym, ◌∙◌}
use native.Mathlib.Omega.{arith}
use lib.Dec.{eqb}
use lib.ListN.{length}
use lib.Seq.{ext_get_or}
use borrow.Author.Tests.{eqb-true, eq-eqb}
use Rattle.refusal.proofs.Means.{Means, Unless, concludes, test_means, exactly}
use Rattle.store.specs.Place.{store_size, made}
use Rattle.store.specs.Calls.{store_step, make}
use Rattle.store.specs.Meaning.{Zero, MakeMeans}
use Rattle.store.proofs.Places.{made_length, made_byte}

made_zero : Zero made
made_zero = record { long = made_length; zero_bytes = λ i l. made_byte i }

only_made : (t : List ℕ) → Zero t → t ≡ made
only_made t z =
    ext_get_or 0 t made (z.long ∙ sym made_length) (λ i l. z.zero_bytes i (omega (arith, z.long)) ∙ sym (made_byte i))

make_stages : (s : List ℕ) → Means (make s) made (length s ≡ store_size) (Unless (length s ≡ store_size) 2 0 0)
unfolding make
make_stages s =
    concludes (store_step s ∷ [])
    (test_means (eqb (length s) store_size) 2 0 0 (eqb-true (length s) store_size, eq-eqb (length s) store_size)) made

pub make_means : MakeMeans
make_means s = exactly (make_stages s) Zero (λ w. made_zero) (λ t w. only_made t) (λ n p q w. w) (λ n p q w. w)
