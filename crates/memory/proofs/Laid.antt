-- A file as it is written: kind and state, and a structure or zeros behind them.
use Prim.Native.Nat.{ℕ}
use mathlib.Core.List.{List, [], ◌∷◌, ◌++◌, append-nil}
use mathlib.Core.Logic.{◌⊎◌, ⊎_elim}
use mathlib.Core.Path.{◌≡◌, refl, ap, ◌∙◌}
use native.Mathlib.Omega.{arith}
use borrow.Rule.Slice.PartMut.{put_mid}
use lib.ListN.{length, take, drop, set, replicate, length-take, drop_of_length-le}
use Rattle.layout.proofs.Copied.{copied_over}
use Rattle.protocol.specs.Version.{size}
use Rattle.protocol.specs.MemoryFile.{file_of}

-- The kind k and the state s, and the structure x copied behind them.
pub laid :
    (k s : ℕ) (x p o : List ℕ) → length o ≡ 100 → length x ≡ 98 →
    p ≡ take (length x) x ++ drop (length x) (take 98 (drop 2 (set (set o 0 k) 1 s))) →
    put_mid 2 98 (set (set o 0 k) 1 s) p ≡ k ∷ s ∷ x
laid k s x p [] l m e = absurd (omega arith)
laid k s x p (a ∷ []) l m e = absurd (omega arith)
laid k s x p (a ∷ b ∷ o) l m e =
    let w : p ≡ x = e ∙ copied_over x (take 98 o) (simp length-take (omega arith)) in
    rw (w, drop_of_length-le o {i = 98} (omega arith)) (ap (λ (y : List ℕ). k ∷ s ∷ y) (append-nil x))

-- What was remembered before, as a file: none, and one structure.
pub none_laid :
    (old : List ℕ) → (length old ≡ 98 → ⊥) → (length old ≡ 0) ⊎ (length old ≡ size) →
    set (set (replicate 100 0) 0 7) 1 2 ≡ file_of old
unfolding file_of
none_laid [] n w = refl
none_laid (b ∷ old) n w = absurd (⊎_elim (λ z. omega arith) n w)

pub one_laid : (old : List ℕ) → length old ≡ 98 → 7 ∷ 0 ∷ old ≡ file_of old
unfolding file_of
one_laid [] l = absurd (omega arith)
one_laid (b ∷ old) l = refl
