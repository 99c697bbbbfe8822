-- Rows of blocks in a buffer that they fill: one block more, and each block over what it was filled with.
use Prim.Native.Nat.{ℕ, ◌+◌, ◌-◌, ◌*◌, ◌≤◌, ◌<◌}
use mathlib.Core.List.{List, ◌++◌, append_assoc, append-nil}
use mathlib.Core.Path.{◌≡◌, sym, ap, ◌∙◌}
use native.Mathlib.Nat.{zero-add}
use native.Mathlib.Omega.{arith}
use lib.ListN.{length, take, drop, length-drop}
use lib.Seq.{take_at, drop-append-add, drop-drop, get_or-take, get_or-drop, length-take-le}
use borrow.Rule.Slice.PartMut.{put_mid}
use Rattle.std.proofs.lemmas.List.{drop_all}
use Rattle.layout.specs.Bytes.{part, parts}
use Rattle.layout.proofs.Parts.{length_of_part, part_part}
use Rattle.sha256.proofs.Laws.{sha256_length}
use Rattle.itable.specs.Block.{size}
use Rattle.itable.specs.Table.{Level, wide, used_in, block, row, files}
use Rattle.itable.proofs.Block.{Sized}
use Rattle.itable.proofs.Rows.{length_row}
use Rattle.block.specs.Filled.{filled}
use Rattle.block.proofs.Lent.{mid}
use Rattle.block.proofs.Filling.{is_filled}
use Rattle.writer.specs.Internal.Children.{children, ReadBack}
use Rattle.writer.proofs.Blocks.{block_cong, row_last}

-- A row that stands in the buffer o up to block k, which is lent and filled.
pub row_next :
    (κ : ℕ) (L : Level) → Sized L → (o out b : List ℕ) (k : ℕ) → k < wide L.count → 642 * (k + 1) ≤ length o →
    out ≡ row κ L 0 k ++ drop (642 * k) o → b ≡ block κ L k →
    put_mid (642 * k) (642 * k + 642 - 642 * k) out b ≡ row κ L 0 (k + 1) ++ drop (642 * (k + 1)) o
row_next κ L s o out b k h room e eb =
    let p : ℕ = 642 * k in
    let lr : length (row κ L 0 k) ≡ p = length_row κ L s 0 k (omega arith) in
    let t : take p out ≡ row κ L 0 k = ap (take p) e ∙ take_at (row κ L 0 k) (drop p o) p lr in
    let n : p + 642 ≡ length (row κ L 0 k) + 642 = omega arith in
    let q : p + 642 ≡ 642 * (k + 1) = omega arith in
    let d : drop (p + 642) out ≡ drop (642 * (k + 1)) o =
    ap (drop (p + 642)) e ∙ (rw (n, drop-append-add (row κ L 0 k) (drop p o) 642) (drop-drop 642 p o ∙ ap (λ m. drop m o) q)) in
    let z : block κ L k ≡ block κ L (0 + k) = ap (block κ L) (sym (zero-add k)) in
    rw (mid p 642 out b, t, d, eb, row_last κ L 0 k, ← z, append_assoc (row κ L 0 k) (block κ L k))

-- Nothing of the buffer is left behind a row that fills it.
pub filled_up : (xs o : List ℕ) (n : ℕ) → length o ≤ n → xs ++ drop n o ≡ xs
filled_up xs o n h = rw (drop_all n o h) (append-nil xs)

-- The block of 642 bytes from p on, lent.
pub lent_length : (o : List ℕ) (p : ℕ) → p + 642 ≤ length o → length (take (p + 642 - p) (drop p o)) ≡ 642
lent_length o p h =
    let a : p + 642 - p ≡ 642 = omega arith in rw a (length-take-le 642 (drop p o) (simp length-drop (omega arith)))

pub files_sized : (nums handles : List ℕ) → length handles ≡ 32 * length nums → Sized (files nums handles)
unfolding files
files_sized nums handles h = λ j l. length_of_part 32 handles j (omega arith)

pub children_sized : (o : List ℕ) (n : ℕ) → Sized (children o 0 n)
unfolding children
children_sized o n = λ j l. sha256_length (part size o (0 + j))

-- The leaf over the files from 16 k on, as it is filled.
pub leaf_is :
    (nums handles lent : List ℕ) (k u : ℕ) → length handles ≡ 32 * length nums → 16 * k ≤ length nums → u ≡ used_in (length nums) k →
    length lent ≡ 642 →
    filled 3 (take (16 * k + u - 16 * k) (drop (16 * k) nums)) (take (512 * k + 32 * u - 512 * k) (drop (512 * k) handles)) lent ≡
    block 3 (files nums handles) k
unfolding files
leaf_is nums handles lent k u handled h eu long =
    let a : 16 * k + u - 16 * k ≡ u = omega arith in
    let b : 512 * k + 32 * u - 512 * k ≡ 32 * u = omega arith in
    let d : 512 * k ≡ 32 * (16 * k) = omega arith in
    let ns : List ℕ = take u (drop (16 * k) nums) in
    let hs : List ℕ = take (32 * u) (drop (32 * (16 * k)) handles) in
    let n : length ns ≡ u = length-take-le u (drop (16 * k) nums) (simp length-drop (omega arith)) in
    let v : length hs ≡ 32 * u = length-take-le (32 * u) (drop (32 * (16 * k)) handles) (simp length-drop (omega arith)) in
    rw (a, b, d)
    (is_filled 3 ns hs lent (omega arith) (omega arith) long ∙
    block_cong 3 (files ns hs) (files nums handles) 0 k
    (rw n (omega arith))
    (λ j l.
    let m : j < u = omega arith in (
      rw (zero-add j, get_or-take u (drop (16 * k) nums) j 0 m, get_or-drop (16 * k) nums j 0),
      rw (zero-add j) (part_part 32 handles (16 * k) u j m),
    )))

-- The u blocks from 16 k on, lent.
abbrev lent_blocks : List ℕ → ℕ → ℕ → List ℕ
lent_blocks below k u = take (642 * (16 * k) + 642 * u - 642 * (16 * k)) (drop (642 * (16 * k)) below)

pub lent_parts : (below : List ℕ) (k u : ℕ) → 642 * (16 * k + u) ≤ length below → parts size (lent_blocks below k u) ≡ u
lent_parts below k u h =
    let a : 642 * (16 * k) + 642 * u - 642 * (16 * k) ≡ 642 * u = omega arith in
    let l : length (take (642 * u) (drop (642 * (16 * k)) below)) ≡ 642 * u =
    length-take-le (642 * u) (drop (642 * (16 * k)) below) (simp length-drop (omega arith)) in
    rw (a, l) (omega arith)

-- The inner block over these, which were read back, as it is filled.
pub inner_is :
    (κ n k u : ℕ) (below nums hashes lent : List ℕ) → 642 * n ≤ length below → 16 * k ≤ n → u ≡ used_in n k → length nums ≡ 16 →
    length hashes ≡ 512 → length lent ≡ 642 → (let b = lent_blocks below k u in ReadBack b (parts size b) nums hashes) →
    filled κ (take u nums) (take (32 * u) hashes) lent ≡ block κ (children below 0 n) k
unfolding files children
inner_is κ n k u below nums hashes lent whole h eu ln lh long read =
    let R = rw (lent_parts below k u (omega arith)) at read in
    let a : 642 * (16 * k) + 642 * u - 642 * (16 * k) ≡ 642 * u = omega arith in
    let ns : List ℕ = take u nums in
    let hs : List ℕ = take (32 * u) hashes in
    let m : length ns ≡ u = length-take-le u nums (omega arith) in
    let v : length hs ≡ 32 * u = length-take-le (32 * u) hashes (omega arith) in
    let same : (j : ℕ) → j < u → part size (take (642 * u) (drop (642 * (16 * k)) below)) j ≡ part size below (0 + (16 * k + j)) =
    λ j l. part_part size below (16 * k) u j l ∙ ap (part size below) (sym (zero-add (16 * k + j))) in
    is_filled κ ns hs lent (omega arith) (omega arith) long ∙
    block_cong κ (files ns hs) (children below 0 n) 0 k
    (rw m (omega arith))
    (λ j l.
    let t : j < u = omega arith in (
      rw (zero-add j, get_or-take u nums j 0 t) (R.first j t ∙ rw (a, same j t)),
      rw (zero-add j) (part_part 32 hashes 0 u j t ∙ (ap (part 32 hashes) (zero-add j) ∙ (R.hash j t ∙ rw (a, same j t)))),
    ))
