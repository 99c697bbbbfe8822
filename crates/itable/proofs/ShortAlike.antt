-- A large inode that has the length and hashes of an inode of kind 6, and zeros behind them, is answered as that one is: behind the kind both are
-- read alike, at every place, since past the end of the 517 bytes zeros are read.
use Prim.Native.Nat.{ℕ, zero, suc, ◌+◌, ◌*◌, ◌≤◌, ◌<◌}
use mathlib.Core.Bool.{Bool, beq, true, false, cond, ◌&&◌, and-true, and-false}
use mathlib.Core.List.{List, [], ◌∷◌}
use mathlib.Core.Path.{◌≡◌, refl, sym, ap, ◌∙◌}
use native.Mathlib.Decide.{dec_lt}
use native.Mathlib.Omega.{arith}
use lib.Dec.{ltb, eqb}
use lib.ListN.{length, get_or, drop, replicate, length-append, length-drop, length-replicate, get_or-eq_default}
use lib.Seq.{get_or-drop}
use borrow.Author.Tests.{lt-ltb, le-ltb}
use Rattle.layout.specs.Bytes.{four}
use Rattle.layout.specs.Strings.{zeros}
use Rattle.search.proofs.Search.{every_cong}
use Rattle.layout.proofs.Strings.{same_refl}
use Rattle.layout.proofs.Values.{values_cong, values_part}
use Rattle.layout.proofs.Zeros.{zeros_read, zeros_mean}
use Rattle.refusal.specs.Answer.{Answer, accepted}
use Rattle.refusal.specs.Order.{unless, in_order}
use Rattle.refusal.proofs.Means.{in_append}
use Rattle.sha256.specs.Sha256.{sha256}
use Rattle.sha256.proofs.Laws.{sha256_length}
use Rattle.itable.specs.Inode.{file_blocks, hash_at, rest_zero, holds, inode_size, file_length, well_formed, Span}
use Rattle.itable.specs.Inode.{inode_steps, index_steps, block_steps, block_check}
use Rattle.itable.specs.LargeInode.{large_size, large_formed, large_hash, large_inode_steps, direct_steps, indirect_steps, large_steps, large_check}
use Rattle.itable.specs.LargeFiles.{enlarged, ShortAlike}
use Rattle.itable.proofs.FileBlocks.{holds_means}
use Rattle.itable.proofs.BlockCheckMeans.{formed_means}

-- Where the indirect block's hash is zero, a large inode's form asks what that of kind 6 does: a file over 131,072 bytes is refused by both.
short_formed : (len : ℕ) (rest h : Bool) → holds 16 len ≡ h → (holds 144 len && rest && beq h true) ≡ (h && rest)
short_formed len rest true e =
    let more : len ≤ 8192 * 144 = omega (arith, (holds_means 16 len).0 e) in
    rw ((holds_means 144 len).1 more) (and-true rest)
short_formed len rest false e = and-false (holds 144 len && rest)

-- Under a test, answers that agree where it is passed.
alike_under :
    {A : Type 0} (b : Bool) (n p q : ℕ) (x y : Answer A) → (b ≡ true → x ≡ y) →
    in_order (unless b n p q ∷ []) x ≡ in_order (unless b n p q ∷ []) y
unfolding in_order
alike_under true n p q x y e = e refl
alike_under false n p q x y e = refl

-- A short and a large inode that are read alike behind their kinds.
module _
    (inode large : List ℕ) (l : length inode ≡ inode_size) (m : length large ≡ large_size) (six : get_or inode 0 0 ≡ 6) (eleven : get_or large 0 0 ≡ 11)
    (alike : (x : ℕ) → 1 ≤ x → get_or large x 0 ≡ get_or inode x 0) where
  abbrev len : ℕ
  len = file_length inode

  length_alike : file_length large ≡ len
  unfolding four
  length_alike = rw (alike 1 (omega arith), alike 2 (omega arith), alike 3 (omega arith), alike 4 (omega arith))

  rest_alike : (n : ℕ) → rest_zero large 5 16 n ≡ rest_zero inode 5 16 n
  unfolding rest_zero zeros
  rest_alike n = every_cong _ _ _ _ (λ x a b. ap (λ y. eqb y 0) (alike x (omega arith)))

  hash_alike : (k : ℕ) → k < 16 → hash_at large 5 k ≡ hash_at inode 5 k
  hash_alike k h =
      sym (values_part large (5 + 32 * k) 32 (omega arith)) ∙
      (values_cong _ _ 0 32 (λ j a b. alike (5 + 32 * k + j) (omega arith)) ∙ values_part inode (5 + 32 * k) 32 (omega arith))

  none_behind : zeros large 517 32 ≡ true
  none_behind =
      (zeros_mean large 517 32).1 (λ j h. alike (517 + j) (omega arith) ∙ get_or-eq_default inode 0 {n = 517 + j} (omega arith))

  formed_alike : large_formed large ≡ well_formed inode
  unfolding large_formed well_formed
  formed_alike =
      rw (eleven, six, length_alike, rest_alike (file_blocks len), none_behind)
      (short_formed len (rest_zero inode 5 16 (file_blocks len)) (holds 16 len) refl)

  -- Each is of its length, and named by its hash: its form alone is judged.
  large_form : {A : Type 0} (x : Answer A) → in_order (large_inode_steps (sha256 large) large) x ≡ in_order (unless (well_formed inode) 3 0 0 ∷ []) x
  unfolding large_inode_steps in_order
  large_form x = rw (sha256_length large, m, same_refl (sha256 large), formed_alike)

  short_form : {A : Type 0} (x : Answer A) → in_order (inode_steps (sha256 inode) inode) x ≡ in_order (unless (well_formed inode) 3 0 0 ∷ []) x
  unfolding inode_steps in_order
  short_form x = rw (sha256_length inode, l, same_refl (sha256 inode))

  module _ (k : ℕ) (block : List ℕ) where
    abbrev read : Answer Span
    read = accepted (record { offset = 8192 * k; size = length block })

    abbrev short_rest : Answer Span
    short_rest = in_order (index_steps len k) (in_order (block_steps len k (hash_at inode 5 k) block) read)

    abbrev large_rest : Answer Span
    large_rest =
        in_order (index_steps len k)
        (in_order (cond (ltb k 16) (direct_steps []) (indirect_steps large [])) (in_order (block_steps len k (large_hash large k []) block) read))

    -- A file that sixteen hashes suffice for has no block that is not read directly.
    rest_answers : well_formed inode ≡ true → large_rest ≡ short_rest
    unfolding index_steps direct_steps in_order
    rest_answers f =
        elim (dec_lt k 16) [
          | yes h ↦ rw (lt-ltb k 16 h, hash_alike k h)
          | no h ↦ rw (le-ltb k (file_blocks len) (omega (arith, ((formed_means inode).0 f).at_most)))
        ]

    large_answers : large_check (sha256 large) large k [] block ≡ in_order (large_inode_steps (sha256 large) large) large_rest
    unfolding large_check large_steps
    large_answers =
        rw (
          in_append (large_inode_steps (sha256 large) large) _ read,
          length_alike,
          in_append (index_steps len k) _ read,
          in_append (cond (ltb k 16) (direct_steps []) (indirect_steps large [])) _ read,
        )

    answers_alike : large_check (sha256 large) large k [] block ≡ block_check (sha256 inode) inode k block
    unfolding block_check
    answers_alike =
        large_answers ∙
        (large_form large_rest ∙
        (alike_under (well_formed inode) 3 0 0 large_rest short_rest rest_answers ∙ sym (short_form short_rest)))

-- The enlarged inode is such a one.
read_alike : (inode : List ℕ) (x : ℕ) → 1 ≤ x → get_or (enlarged inode) x 0 ≡ get_or inode x 0
read_alike inode zero h = absurd (omega arith)
read_alike inode (suc i) h =
    let e : 1 + i ≡ suc i = omega arith in
    zeros_read (drop 1 inode) 32 i ∙ (get_or-drop 1 inode i 0 ∙ ap (λ x. get_or inode x 0) e)

enlarged_length : (inode : List ℕ) → length inode ≡ inode_size → length (enlarged inode) ≡ large_size
enlarged_length inode l =
    ap suc (length-append (drop 1 inode) (replicate 32 0) ∙ simp (length-drop, length-replicate) (omega arith))

pub short_alike : ShortAlike
short_alike inode l six k block =
    answers_alike inode (enlarged inode) l (enlarged_length inode l) six refl (read_alike inode) k block
