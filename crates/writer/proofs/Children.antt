-- Blocks of the buffer read back: one more of them, and the blocks over what was read.
use Prim.Native.Nat.{ℕ, ◌+◌, ◌-◌, ◌*◌, ◌≤◌, ◌<◌}
use mathlib.Core.List.{List}
use mathlib.Core.Logic.{⊎_elim}
use mathlib.Core.Path.{◌≡◌, ap, ◌∙◌}
use native.Mathlib.Nat.{eq-or-lt_of_le}
use native.Mathlib.Omega.{arith}
use lib.ListN.{length, take, drop, set}
use lib.Seq.{get_or-set_same, get_or-set_other, length-take-le}
use borrow.Rule.Slice.PartMut.{put_mid}
use Rattle.std.specs.Prelude.{Result}
use Rattle.layout.specs.Bytes.{part}
use Rattle.layout.proofs.Parts.{length_of_part, part_kept, part_at}
use Rattle.refusal.specs.Result.{Gives}
use Rattle.refusal.specs.declared.Refusal.{Refusal}
use Rattle.sha256.specs.Sha256.{sha256}
use Rattle.sha256.specs.Hash.{hash}
use Rattle.sha256.proofs.Laws.{hash_left, sha256_length}
use Rattle.itable.specs.Block.{size, number}
use Rattle.writer.specs.Internal.Children.{ReadBack}
use Rattle.block.proofs.Lent.{mid}

module _
    (blocks nums hashes : List ℕ) (j : ℕ) (few : j < 16) (there : 642 * j + 642 ≤ length blocks) (ln : length nums ≡ 16)
    (lh : length hashes ≡ 512)
  where
    pub read_next :
        ReadBack blocks j nums hashes → (x : ℕ) → x ≡ number (take (642 * j + 642 - 642 * j) (drop (642 * j) blocks)) 0 → (d : List ℕ) (r : Result Unit Refusal) →
        Gives
        (hash (take (642 * j + 642 - 642 * j) (drop (642 * j) blocks)) (length (take (32 * j + 32 - 32 * j) (drop (32 * j) hashes))))
        (take (32 * j + 32 - 32 * j) (drop (32 * j) hashes)) d r →
        ReadBack blocks (j + 1) (set nums j x) (put_mid (32 * j) (32 * j + 32 - 32 * j) hashes d)
    read_next R x ex d r g =
        let a : 642 * j + 642 - 642 * j ≡ 642 = omega arith in
        let b : 32 * j + 32 - 32 * j ≡ 32 = omega arith in
        let ed : d ≡ sha256 (part size blocks j) =
        hash_left (part size blocks j) (part 32 hashes j) d r (omega (arith, length_of_part size blocks j (omega arith)))
        (length_of_part 32 hashes j (omega arith)) (rw (a, b) at g) in
        let ld : length d ≡ 32 = ap length ed ∙ sha256_length _ in
        let lt : length (take (32 * j) hashes) ≡ 32 * j = length-take-le (32 * j) hashes (omega arith) in
        record {
          first = λ m l.
              ⊎_elim
              (λ e. rw (e, get_or-set_same nums j x 0 (omega arith), ex, a))
              (λ q. rw (get_or-set_other nums j m x 0 (λ e. omega arith)) (R.first m q)) (eq-or-lt_of_le {n = m} {m = j} (omega arith));
          hash = λ m l.
              rw (mid (32 * j) 32 hashes d)
              (⊎_elim (λ e. rw e (part_at 32 (take (32 * j) hashes) d _ j lt ld ∙ ed))
              (λ q. part_kept 32 hashes _ (32 * j) m (omega arith) (omega arith) ∙ R.hash m q)
              (eq-or-lt_of_le {n = m} {m = j} (omega arith)));
        }
