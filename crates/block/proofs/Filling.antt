-- A block as it is filled: kind and number of slots, one slot more, and the zeros after the last.
use Prim.Native.Nat.{ℕ, zero, suc, ◌+◌, ◌-◌, ◌*◌, ◌≤◌, ◌<◌, min}
use mathlib.Core.Bool.{true, false, ◌&&◌}
use mathlib.Core.List.{List, [], ◌∷◌, ◌++◌, append_assoc, append-nil}
use mathlib.Core.Path.{◌≡◌, refl, sym, ap, ◌∙◌}
use native.Mathlib.Nat.{add-zero}
use native.Mathlib.Omega.{arith}
use lib.Dec.{leb, eqb}
use lib.ListN.{length, get_or, take, drop, set, replicate, length-set, length-append, length-take, length-drop, drop_of_length-le}
use lib.Seq.{take_at, take-length}
use borrow.Author.Tests.{eq-eqb, le-leb, leb-true, eqb-true}
use borrow.Rule.Slice.PartMut.{put_mid}
use Rattle.search.proofs.Bool.{both_true}
use Rattle.layout.specs.Bytes.{bytes8, part}
use Rattle.layout.proofs.Eight.{length_bytes8}
use Rattle.layout.proofs.Parts.{length_of_part}
use Rattle.itable.specs.Block.{size}
use Rattle.itable.specs.Table.{Level, slots, block, files}
use Rattle.block.specs.Filled.{fits, filled}
use Rattle.block.proofs.Lent.{mid_length, mid_next}

-- A slot of 40 bytes: the number's eight, then the value.
module _ (x : ℕ) (v o b : List ℕ) (lv : length v ≡ 32) (lo : length o ≡ 40) (eb : b ≡ bytes8 x) where
  pub slot_is :
      (p w : List ℕ) → p ≡ take (length b) b ++ drop (length b) o → w ≡ take (length v) v ++ drop (length v) (take 32 (drop 8 p)) →
      put_mid 8 32 p w ≡ bytes8 x ++ v
  slot_is p w ep ew =
      let lb : length b ≡ 8 = ap length eb ∙ length_bytes8 x in
      let q : p ≡ b ++ drop 8 o = ep ∙ rw (take-length b, lb) in
      let t : take 8 p ≡ b = ap (take 8) q ∙ take_at b (drop 8 o) 8 lb in
      let lp : length p ≡ 40 = ap length q ∙ simp (length-append, length-drop) (omega arith) in
      let z : drop (length v) (take 32 (drop 8 p)) ≡ [] =
      drop_of_length-le (take 32 (drop 8 p)) {i = length v} (simp (length-take, length-drop) (omega arith)) in
      let y : drop 32 (drop 8 p) ≡ [] = drop_of_length-le (drop 8 p) {i = 32} (simp length-drop (omega arith)) in
      let f : w ≡ v = ew ∙ rw (z, append-nil, take-length v) in
      rw (t, f, y, append-nil, eb)

pub slots_last : (L : Level) (a u : ℕ) → slots L a (u + 1) ≡ slots L a u ++ (bytes8 (L.number (a + u)) ++ L.value (a + u))
unfolding slots
slots_last L a zero = rw (add-zero a, append-nil)
slots_last L a (suc u) =
    let e : suc u + 1 ≡ suc (u + 1) = omega arith in
    let f : suc a + u ≡ a + suc u = omega arith in
    rw (e, slots, slots_last L (suc a) u, f, append_assoc (bytes8 (L.number a)), append_assoc (L.value a))

-- A block as it is filled with the entries of a list of numbers and 32 bytes for each.
filled_head : (κ u : ℕ) (o : List ℕ) → 2 ≤ length o → take 2 (set (set o 0 κ) 1 u) ≡ κ ∷ u ∷ []
filled_head κ u [] h = absurd (omega arith)
filled_head κ u (x ∷ []) h = absurd (omega arith)
filled_head κ u (x ∷ y ∷ o) h = refl

module _ (κ : ℕ) (nums values : List ℕ) (few : length nums ≤ 16) (handled : length values ≡ 32 * length nums) where
  pub fill_none :
      (o : List ℕ) → length o ≡ 642 →
      (length (set (set o 0 κ) 1 (length nums)) ≡ 642) × (take 2 (set (set o 0 κ) 1 (length nums)) ≡ κ ∷ length nums ∷ slots (files nums values) 0 0)
  unfolding slots
  fill_none o l = (simp length-set l, filled_head κ (length nums) o (omega arith))

  pub fill_next :
      (o s : List ℕ) (j : ℕ) → length o ≡ 642 → j < length nums → take (2 + 40 * j) o ≡ κ ∷ length nums ∷ slots (files nums values) 0 j →
      s ≡ bytes8 (get_or nums j 0) ++ take (32 * j + 32 - 32 * j) (drop (32 * j) values) →
      (length (put_mid (2 + 40 * j) (2 + 40 * j + 40 - (2 + 40 * j)) o s) ≡ 642) ×
      (take (2 + 40 * (j + 1)) (put_mid (2 + 40 * j) (2 + 40 * j + 40 - (2 + 40 * j)) o s) ≡
      κ ∷ length nums ∷ slots (files nums values) 0 (j + 1))
  unfolding files
  fill_next o s j l h e es =
      let n : 32 * j + 32 - 32 * j ≡ 32 = omega arith in
      let f : s ≡ bytes8 (get_or nums j 0) ++ part 32 values j = rw n at es in
      let ls : length s ≡ 40 =
      ap length f ∙ simp (length-append, length_bytes8, length_of_part 32 values j (omega arith)) in
      let a : 2 + 40 * (j + 1) ≡ 2 + 40 * j + 40 = omega arith in
      let z : 0 + j ≡ j = omega arith in (
        mid_length (2 + 40 * j) 40 o s ls (omega arith) ∙ l,
        rw (a, mid_next (2 + 40 * j) 40 o s ls (omega arith), e, f, slots_last (files nums values) 0 j, z),
      )

  pub fill_all :
      (o p : List ℕ) → length o ≡ 642 → take (2 + 40 * length nums) o ≡ κ ∷ length nums ∷ slots (files nums values) 0 (length nums) →
      p ≡ take (2 + 40 * length nums) o ++ replicate (length o - (2 + 40 * length nums)) 0 → p ≡ block κ (files nums values) 0
  unfolding block files
  fill_all o p l e ep =
      let a : min 16 (length nums - 0) ≡ length nums = omega arith in
      let b : length o - (2 + 40 * length nums) ≡ 640 - 40 * length nums = omega arith in ep ∙ rw (a, b, e)

-- The lengths of a block.
module _ (numbers values bytes : ℕ) where
  module _ (few : numbers ≤ 16) where
    pub last_length : values ≡ 32 * numbers → eqb bytes size ≡ fits numbers values bytes
    unfolding fits
    last_length h = rw (le-leb numbers 16 few, eq-eqb values (32 * numbers) h)

  pub fitting : fits numbers values bytes ≡ true → (numbers ≤ 16) × (values ≡ 32 * numbers) × (bytes ≡ size)
  unfolding fits
  fitting e =
      let p = both_true (leb numbers 16) (eqb values (32 * numbers) && eqb bytes size) e in
      let q = both_true (eqb values (32 * numbers)) (eqb bytes size) p.1 in
      (leb-true numbers 16 p.0, eqb-true values (32 * numbers) q.0, eqb-true bytes size q.1)

-- What is left of the bytes, by the test.
module _ (κ : ℕ) (nums values o : List ℕ) where
  pub unfilled : fits (length nums) (length values) (length o) ≡ false → o ≡ filled κ nums values o
  unfolding filled
  unfilled e = rw e

  pub filled_by : fits (length nums) (length values) (length o) ≡ true → block κ (files nums values) 0 ≡ filled κ nums values o
  unfolding filled
  filled_by e = rw e

  -- What a caller has that keeps to the lengths.
  pub is_filled :
      length nums ≤ 16 → length values ≡ 32 * length nums → length o ≡ size → filled κ nums values o ≡ block κ (files nums values) 0
  is_filled few handled long =
      sym (filled_by (sym (last_length (length nums) (length values) (length o) few handled) ∙ eq-eqb (length o) size long))
