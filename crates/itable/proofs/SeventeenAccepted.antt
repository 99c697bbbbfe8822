-- The seventeenth block of a file, the first that an indirect block names. One indirect block alone can name it as the last, since each of its bytes
-- is fixed; and an inode can name that one unless its hash is zero, which would say that there is none.
use Prim.Native.Nat.{ℕ, zero, suc, ◌+◌, ◌-◌, ◌*◌, ◌≤◌, ◌<◌}
use mathlib.Core.Bool.{true}
use mathlib.Core.List.{List, [], ◌∷◌, ◌++◌, append_assoc}
use mathlib.Core.Path.{◌≡◌, refl, sym, ap, ◌∙◌}
use native.Mathlib.Decide.{dec_lt}
use native.Mathlib.Omega.{arith}
use lib.ListN.{length, get_or, take, drop, replicate, length-append, length-replicate, get_or-replicate, get_or-eq_default}
use lib.Seq.{take_at, drop_at, take_all, get_or-take, get_or-drop}
use Rattle.layout.specs.Bytes.{bytes4}
use Rattle.layout.proofs.Bytes.{four_bytes4, length_bytes4, four_behind}
use Rattle.layout.specs.Strings.{zeros}
use Rattle.layout.proofs.Zeros.{zeros_read, zeros_behind, zeros_mean}
use Rattle.sha256.specs.Sha256.{sha256}
use Rattle.sha256.proofs.Laws.{sha256_length}
use Rattle.itable.specs.Inode.{file_blocks, hash_at, rest_zero, file_length}
use Rattle.itable.specs.InodeMeaning.{BlockSize}
use Rattle.itable.specs.LargeInode.{large_size, indirect_size}
use Rattle.itable.specs.LargeMeaning.{LargeFormed, IndirectSize, IndirectFormed, LargeNamed, ToBlock, LargeConditions}
use Rattle.itable.specs.LargeFiles.{indirect_of, SeventeenAccepted}
use Rattle.itable.proofs.FileBlocks.{rest_means}
use Rattle.itable.proofs.LargeCheckMeans.{large_check_means}

-- The bytes of hash k, one by one.
hash_byte : (b : List ℕ) (at k j : ℕ) → j < 32 → get_or (hash_at b at k) j 0 ≡ get_or b (at + 32 * k + j) 0
hash_byte b at k j h = get_or-take 32 (drop (at + 32 * k) b) j 0 h ∙ get_or-drop (at + 32 * k) b j 0

module _ (block : List ℕ) (some : 1 ≤ length block) (most : length block ≤ 8192) where
  abbrev hash : List ℕ
  hash = sha256 block

  -- Past the one hash zeros are read, whether they are there or not.
  past_hash : (i : ℕ) → 32 ≤ i → get_or hash i 0 ≡ 0
  past_hash i h = get_or-eq_default hash 0 {n = i} (omega (arith, sha256_length block))

  -- Any indirect block that names this block and none behind it.
  module _
      (b : List ℕ) (long : length b ≡ indirect_size) (twelve : get_or b 0 0 ≡ 12) (named : hash ≡ hash_at b 1 0)
      (rest : (j : ℕ) → j < 4064 → get_or b (33 + j) 0 ≡ 0) where
    each_byte : (i : ℕ) → i < length b → get_or b i 0 ≡ get_or (12 ∷ hash) i 0
    each_byte zero h = twelve
    each_byte (suc i) h =
        elim (dec_lt i 32) [
          | yes l ↦
              let e : 1 + 32 * 0 + i ≡ suc i = omega arith in
              sym (ap (λ s. get_or s i 0) named ∙ (hash_byte b 1 0 i l ∙ ap (λ x. get_or b x 0) e))
          | no g ↦
              let e : suc i ≡ 33 + (i - 32) = omega arith in
              ap (λ x. get_or b x 0) e ∙ (rest (i - 32) (omega arith) ∙ sym (past_hash i (omega arith)))
        ]

    only_indirect : b ≡ indirect_of block
    only_indirect = zeros_behind b (12 ∷ hash) 4064 (omega (arith, sha256_length block)) each_byte

  -- Were its hash zero, the inode would say that sixteen blocks suffice.
  not_zero :
      (handle inode b : List ℕ) → file_length inode ≡ 131072 + length block → LargeConditions handle inode 16 b block →
      sha256 (indirect_of block) ≡ replicate 32 0 → ⊥
  unfolding rest_zero
  not_zero handle inode b e c z =
      let t = c.0.0 in
      let formed : LargeFormed inode = t.0.0.0.0.1 in
      let q : IndirectFormed inode 16 b = t.1 in
      let one : file_blocks (file_length inode - 131072) ≡ 1 = omega arith in
      let rest : zeros b 33 4064 ≡ true = rw one at ((rest_means b 1 128 (file_length inode - 131072)).1 (q.rest_is_zero (omega arith))) in
      let is : b ≡ indirect_of block =
      only_indirect b (t.0.0.1.whole (omega arith)) (q.kind_twelve (omega arith)) (c.1.by_indirect (omega arith))
      ((zeros_mean b 33 4064).0 rest) in
      let zero-hash : hash_at inode 5 16 ≡ replicate 32 0 = sym (t.0.1 (omega arith)) ∙ (ap sha256 is ∙ z) in
      let few : file_length inode ≤ 131072 =
      formed.zero_exactly_when.0
      (λ j h. sym (hash_byte inode 5 16 j h) ∙ (ap (λ s. get_or s j 0) zero-hash ∙ get_or-replicate {A = ℕ} 32 j 0 0 h)) in
      omega arith

  -- The inode that names it, by a hash s that is not zero. Any sixteen hashes do for the blocks before, as none of these is read.
  module _ (s : List ℕ) (l : length s ≡ 32) (used : s ≡ replicate 32 0 → ⊥) where
    abbrev len : ℕ
    len = 131072 + length block

    abbrev front : List ℕ
    front = 11 ∷ (bytes4 len ++ replicate 512 0)

    abbrev inode : List ℕ
    inode = front ++ s

    front_length : length front ≡ 517
    front_length = ap suc (length-append (bytes4 len) (replicate 512 0) ∙ simp (length_bytes4, length-replicate))

    inode_length : length inode ≡ large_size
    inode_length = length-append front s ∙ omega (arith, front_length)

    says_length : file_length inode ≡ len
    says_length =
        four_behind (11 ∷ []) ((bytes4 len ++ replicate 512 0) ++ s) 0 ∙
        rw (append_assoc (bytes4 len) (replicate 512 0) s) (four_bytes4 len (replicate 512 0 ++ s))

    last_hash : hash_at inode 5 16 ≡ s
    last_hash = ap (take 32) (drop_at front s 517 front_length) ∙ take_all 32 s (omega arith)

    large_formed_holds : LargeFormed inode
    large_formed_holds =
        record {
          kind_eleven = refl;
          at_most = omega (arith, says_length);
          rest_is_zero = λ k j a b c. absurd (omega (arith, says_length));
          zero_exactly_when = (
            λ f.
                absurd
                (used (zeros_behind s [] 32 l (λ i h.
                sym (ap (λ x. get_or x i 0) last_hash) ∙ (hash_byte inode 5 16 i (omega arith) ∙ f i (omega arith))))),
            λ h. absurd (omega (arith, says_length)),
          );
        }

    -- What such an inode says of the block, where s is the indirect block's hash.
    conditions : sha256 (indirect_of block) ≡ s → LargeConditions (sha256 inode) inode 16 (indirect_of block) block
    conditions named =
        let indirect_length : length (indirect_of block) ≡ indirect_size =
        ap suc (length-append hash (replicate 4064 0) ∙ simp (sha256_length block, length-replicate)) in
        let to_block_stage : ToBlock (sha256 inode) inode 16 = ((((sha256_length inode, inode_length), refl), large_formed_holds), omega (arith, says_length)) in
        let size : IndirectSize 16 (indirect_of block) = record { direct = λ h. absurd (omega arith); whole = λ h. indirect_length } in
        let formed : IndirectFormed inode 16 (indirect_of block) =
        record {
          kind_twelve = λ h. refl;
          rest_is_zero = λ h k j a b c.
              let e : 1 + 32 * k + j ≡ suc (32 * k + j) = omega arith in
              ap (λ x. get_or (indirect_of block) x 0) e ∙
              (zeros_read hash 4064 (32 * k + j) ∙ past_hash (32 * k + j) (omega (arith, says_length)));
        } in
        let block_size : BlockSize inode 16 block =
        record { whole = λ h. omega (arith, says_length); rest = λ h. omega (arith, says_length) } in
        let block-named : LargeNamed inode 16 (indirect_of block) block =
        record {
          by_inode = λ h. absurd (omega arith);
          by_indirect = λ h. sym (take_at hash (replicate 4064 0) 32 (sha256_length block));
        } in
        (((((to_block_stage, size), λ h. named ∙ sym last_hash), formed), block_size), block-named)

pub seventeen_accepted : SeventeenAccepted
seventeen_accepted block some most = (
  λ w. not_zero block some most w.0 w.1 w.2 w.3 (((large_check_means w.0 w.1 16 w.2 block).0 _).0 w.4).0,
  λ used.
      let s : List ℕ = sha256 (indirect_of block) in
      let l : length s ≡ 32 = sha256_length (indirect_of block) in
      let i : List ℕ = inode block some most s l used in
      let c = conditions block some most s l used refl in (
        sha256 i,
        i,
        indirect_of block,
        says_length block some most s l used,
        ((large_check_means (sha256 i) i 16 (indirect_of block) block).0 (record { offset = 131072; size = length block })).1 (c, refl, refl),
      ),
)
