-- Paths that are made of blocks: which blocks they have, and that their lengths pass.
use Prim.Native.Nat.{ℕ, suc, ◌+◌, ◌*◌, ◌≤◌, ◌<◌}
use mathlib.Core.List.{List, [], ◌∷◌, ◌++◌, append_assoc}
use mathlib.Core.Path.{◌≡◌, refl, sym, ◌∙◌}
use native.Mathlib.Nat.{add-zero}
use native.Mathlib.Omega.{arith}
use lib.ListN.{length, length-append}
use borrow.Author.Tests.{le-leb, eq-eqb}
use Rattle.layout.specs.Bytes.{part, parts}
use Rattle.layout.proofs.Parts.{part_front, part_behind_all, length_of_part}
use Rattle.refusal.specs.Order.{in_order}
use Rattle.itable.specs.Block.{size, to_root}
use Rattle.itable.specs.Lookup.{consult, lookup, path_steps}
use Rattle.itable.specs.Answers.{AllBelow, path_of}

-- From block d on the path has the blocks of these indices.
abbrev pub Reads : List ℕ → List ℕ → ℕ → List ℕ → Type 0
Reads bytes path d [] = Unit
Reads bytes path d (w ∷ ws) = (part size path d ≡ part size bytes w) × Reads bytes path (suc d) ws

module _ (bytes : List ℕ) (n : ℕ) (h : size * n ≤ length bytes) where
  whole : (w : ℕ) → w < n → length (part size bytes w) ≡ size
  whole w l = length_of_part size bytes w (omega arith)

  pub path_length : (ws : List ℕ) → AllBelow n ws → length (path_of bytes ws) ≡ size * length ws
  unfolding path_of
  path_length [] b = refl
  path_length (w ∷ ws) b = simp (length-append, whole w b.0, path_length ws b.1) (omega arith)

  pub path_reads :
      (ws : List ℕ) → AllBelow n ws → (pre : List ℕ) (d : ℕ) → length pre ≡ size * d →
      Reads bytes (pre ++ path_of bytes ws) d ws
  unfolding path_of
  path_reads [] b pre d l = tt
  path_reads (w ∷ ws) b pre d l =
      let e : part size (pre ++ (part size bytes w ++ path_of bytes ws)) (d + 0) ≡ part size bytes w =
      part_behind_all size pre (part size bytes w ++ path_of bytes ws) d 0 l ∙
      part_front size (part size bytes w) (path_of bytes ws) (whole w b.0) in (
        rw add-zero at e,
        rw append_assoc at
            (path_reads ws b.1 (pre ++ part size bytes w) (suc d) (simp (length-append, l, whole w b.0) (omega arith))),
      )

-- A handle of 32 bytes and a path of one to three blocks are consulted.
pub lookup_consults :
    (handle : List ℕ) (i : ℕ) (path : List ℕ) (m : ℕ) → length handle ≡ 32 → length path ≡ size * m → 1 ≤ m → m ≤ 3 →
    lookup handle i path ≡ consult path i m 0 (to_root handle)
unfolding lookup path_steps in_order
lookup_consults handle i path m h l lo hi =
    let q : parts size path ≡ m = omega arith in
    rw (q, eq-eqb (length handle) 32 h, eq-eqb (size * m) (length path) (sym l), le-leb 1 m lo, le-leb m 3 hi)
