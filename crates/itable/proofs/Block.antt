-- Laws of the blocks over a level: each has 642 bytes, and its slots hold the level's entries.
use Prim.Native.Nat.{ℕ, zero, suc, ◌+◌, ◌-◌, ◌*◌, ◌≤◌, ◌<◌}
use mathlib.Core.List.{List, ◌++◌, append_assoc}
use mathlib.Core.Path.{◌≡◌, refl, ◌∙◌}
use native.Mathlib.Nat.{sub-zero, add-zero}
use native.Mathlib.Omega.{arith}
use lib.ListN.{length, take, drop, replicate, length-append, length-replicate}
use lib.Seq.{drop-drop, drop_at, take_at}
use Rattle.layout.specs.Bytes.{bytes8}
use Rattle.layout.proofs.Values.{values_part}
use Rattle.layout.proofs.Eight.{eight_bytes8, length_bytes8, eight_drop}
use Rattle.sha256.specs.Sha256.{sha256}
use Rattle.sha256.proofs.Laws.{sha256_length}
use Rattle.itable.specs.Block.{kind, used, number, value}
use Rattle.itable.specs.declared.Link.{Link}
use Rattle.itable.specs.Table.{Level, used_in, slots, block, above}

-- The value of a slot within the bytes is the 32 bytes there.
value_part : (b : List ℕ) (j : ℕ) → 42 + 40 * j ≤ length b → value b j ≡ take 32 (drop (10 + 40 * j) b)
value_part b j h = values_part b (10 + 40 * j) 32 (omega arith)

-- What leads to block k of kind κ over L, where it is not the root and its numbers have this bound.
abbrev pub to_block : ℕ → Level → ℕ → ℕ → Link
to_block κ L bound k = record { due = κ; first = L.number (16 * k); bound = bound; hash = sha256 (block κ L k) }

-- Every value of a level has 32 bytes.
abbrev pub Sized : Level → Type 0
Sized L = (j : ℕ) → j < L.count → length (L.value j) ≡ 32

pub above_sized : (κ : ℕ) (L : Level) → Sized (above κ L)
unfolding above
above_sized κ L = λ j h. sha256_length (block κ L j)

module _ (L : Level) (s : Sized L) where
  pub length_slots : (a u : ℕ) → a + u ≤ L.count → length (slots L a u) ≡ 40 * u
  unfolding slots
  length_slots a zero h = refl
  length_slots a (suc u) h =
      simp (length-append, length_bytes8, s a (omega arith), length_slots (suc a) u (omega arith)) (omega arith)

  slots_next : (a u : ℕ) (z : List ℕ) → a < L.count → drop 40 (slots L a (suc u) ++ z) ≡ slots L (suc a) u ++ z
  unfolding slots
  slots_next a u z h =
      let e : length (bytes8 (L.number a) ++ L.value a) ≡ 40 = simp (length-append, length_bytes8, s a h) in
      rw (
        ← (append_assoc (bytes8 (L.number a)) (L.value a) (slots L (suc a) u)),
        append_assoc (bytes8 (L.number a) ++ L.value a) (slots L (suc a) u) z,
      )
      (drop_at (bytes8 (L.number a) ++ L.value a) (slots L (suc a) u ++ z) 40 e)

  -- The slots from j on.
  drop_slots :
      (j a u : ℕ) (z : List ℕ) → j ≤ u → a + u ≤ L.count → drop (40 * j) (slots L a u ++ z) ≡ slots L (a + j) (u - j) ++ z
  drop_slots zero a u z h l = rw (sub-zero, add-zero)
  drop_slots (suc j) a zero z h l = absurd (omega arith)
  drop_slots (suc j) a (suc u) z h l =
      let e : 40 * suc j ≡ 40 + 40 * j = omega arith in
      let f : a + suc j ≡ suc a + j = omega arith in
      let g : suc u - suc j ≡ u - j = omega arith in
      rw (e, f, g, ← (drop-drop (40 * j) 40 (slots L a (suc u) ++ z)), slots_next a u z (omega arith))
      (drop_slots j (suc a) u z (omega arith) (omega arith))

  module _ (κ k : ℕ) (h : 16 * k ≤ L.count) where
    abbrev rest : List ℕ
    rest = replicate (640 - 40 * used_in L.count k) 0

    pub length_block : length (block κ L k) ≡ 642
    unfolding block
    length_block =
        simp (length-append, length_slots (16 * k) (used_in L.count k) (omega arith), length-replicate) (omega arith)

    pub block_from :
        (j : ℕ) → j ≤ used_in L.count k →
        drop (2 + 40 * j) (block κ L k) ≡ slots L (16 * k + j) (used_in L.count k - j) ++ rest
    unfolding block
    block_from j l =
        rw (← (drop-drop (40 * j) 2 (block κ L k)))
        (drop_slots j (16 * k) (used_in L.count k) rest l (omega arith))

    -- The entry in slot j, and what follows it.
    block_slot :
        (j : ℕ) → j < used_in L.count k → (r : List ℕ) ×
        (drop (2 + 40 * j) (block κ L k) ≡ bytes8 (L.number (16 * k + j)) ++ (L.value (16 * k + j) ++ r))
    unfolding slots
    block_slot j l =
        let e : used_in L.count k - j ≡ suc (used_in L.count k - suc j) = omega arith in (
          slots L (suc (16 * k + j)) (used_in L.count k - suc j) ++ rest,
          block_from j (omega arith) ∙
              rw (e, append_assoc (bytes8 (L.number (16 * k + j))), append_assoc (L.value (16 * k + j))),
        )

    pub number_block : (j : ℕ) → j < used_in L.count k → number (block κ L k) j ≡ L.number (16 * k + j)
    number_block j l = rw (eight_drop (block κ L k) (2 + 40 * j), (block_slot j l).1) (eight_bytes8 _ _)

    pub value_block : (j : ℕ) → j < used_in L.count k → value (block κ L k) j ≡ L.value (16 * k + j)
    value_block j l =
        let e : 10 + 40 * j ≡ 2 + 40 * j + 8 = omega arith in
        rw (
          value_part (block κ L k) j (omega (arith, length_block)),
          e,
          ← (drop-drop 8 (2 + 40 * j) (block κ L k)),
          (block_slot j l).1,
          drop_at (bytes8 (L.number (16 * k + j))) (L.value (16 * k + j) ++ (block_slot j l).0) 8 (length_bytes8 _),
        )
        (take_at (L.value (16 * k + j)) _ 32 (s (16 * k + j) (omega arith)))

pub kind_block : (κ : ℕ) (L : Level) (k : ℕ) → kind (block κ L k) ≡ κ
unfolding block
kind_block κ L k = refl

pub used_block : (κ : ℕ) (L : Level) (k : ℕ) → used (block κ L k) ≡ used_in L.count k
unfolding block
used_block κ L k = refl
