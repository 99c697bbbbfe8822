-- The answers about an i-table and a file's blocks are read back: each position is that of one of 4,096 files, 64 questions or 3 blocks, and no result is
-- larger than a file.
use Prim.Native.Nat.{ℕ, ◌+◌, ◌*◌, ◌^◌, ◌≤◌, ◌<◌}
use mathlib.Core.List.{List, [], ◌∷◌}
use mathlib.Core.Path.{◌≡◌, refl}
use native.Mathlib.Decide.{dec_le}
use native.Mathlib.Omega.{arith}
use lib.Dec.{leb, eqb}
use lib.ListN.{length, get_or}
use borrow.Author.Tests.{lt-leb}
use Rattle.layout.specs.Bytes.{parts}
use Rattle.refusal.specs.Answer.{accepted}
use Rattle.refusal.specs.Order.{unless, in_order}
use Rattle.itable.specs.Block as block
use Rattle.itable.specs.declared.Link.{Link}
use Rattle.itable.specs.Table.{blocks}
use Rattle.itable.specs.Write.{number_above, write_steps, blocks_given}
use Rattle.itable.specs.Lookup.{Entry, found, absent, lookup}
use Rattle.itable.specs.LookupMeaning.{Fails, missing, wrong_hash, malformed, left_over, later, Why, lengths, along}
use Rattle.itable.specs.Many.{path_at, many}
use Rattle.itable.specs.ManyMeaning.{WhyMany, lengths as unfit, question}
use Rattle.itable.specs.Inode.{Span, file_length, block_check}
use Rattle.itable.specs.InodeMeaning as files
use Rattle.itable.specs.LargeInode.{large_check}
use Rattle.itable.specs.LargeMeaning as large
use Rattle.itable.proofs.AtMostBlocks.{at_most_blocks}
use Rattle.itable.proofs.LookupMeans.{lookup_means}
use Rattle.itable.proofs.ManyMeans.{many_means}
use Rattle.itable.proofs.BlockCheckMeans.{block_check_means}
use Rattle.itable.proofs.LargeCheckMeans.{large_check_means}
use Rattle.sundr.specs.Lookup.{looked_up, is_found}
use Rattle.sundr.specs.Read.{IsRead, IsReadPlain}
use Rattle.sundr.proofs.Fits.{Fits, small, small_fits, each_fits, result_read, refusal_read, answer_read, in_order_read}

pub write_read : (nums handles : List ℕ) (room : ℕ) → IsRead (λ n. n) (λ n. 0) (blocks_given nums handles room)
unfolding blocks_given write_steps in_order
write_read nums handles room =
    elim (dec_le (length nums) 4096) [
      | yes h ↦
          in_order_read (λ n. n) (λ n. 0) (write_steps nums handles room) (accepted (blocks (length nums))) (
            small_fits (leb (length nums) 4096) 2 0 refl,
            (
              small_fits (eqb (length handles) (32 * length nums)) 2 0 refl,
              (
                each_fits (number_above nums) (length nums) 11 (omega arith) (omega arith) (omega arith),
                (small_fits (leb (block.size * blocks (length nums)) room) 12 0 refl, tt),
              ),
            ),
          )
          (λ t. result_read (λ n. n) (λ n. 0) (blocks (length nums)) (omega (arith, at_most_blocks (length nums) h)) (omega arith))
      | no h ↦ rw (lt-leb (length nums) 4096 (omega arith)) (refusal_read (λ n. n) (λ n. 0) 2 0 0 (small 2 0 refl))
    ]

-- A lookup is refused with the number of a block of its path, of which there are three at most, or with how many it read.
module _ (handle : List ℕ) (i : ℕ) (path : List ℕ) where
  fails_fits : parts block.size path ≤ 3 → (d : ℕ) (k : Link) (n p : ℕ) → Fails path i d k n p → Fits n p 0
  fails_fits few d k n p (missing e) = (omega arith, omega arith, omega arith, omega arith)
  fails_fits few d k n p (wrong_hash l f) = (omega arith, omega arith, omega arith, omega arith)
  fails_fits few d k n p (malformed l e f) = (omega arith, omega arith, omega arith, omega arith)
  fails_fits few d k n p (left_over e w f l) = (omega arith, omega arith, omega arith, omega arith)
  fails_fits few d k n p (later j w l f) = fails_fits few _ _ n p f

  why_fits : (n p q : ℕ) → Why handle i path n p q → Fits n p q
  why_fits n p q (lengths f) = small 2 0 refl
  why_fits n p q (along w f) = fails_fits w.few 0 (block.to_root handle) n p f

found_fits : (e : Entry) → (is_found e < 2 ^ 24) × (0 < 2 ^ 32)
found_fits (found handle) = (omega arith, omega arith)
found_fits absent = (omega arith, omega arith)

pub lookup_read : (handle : List ℕ) (i : ℕ) (path : List ℕ) (room : ℕ) → IsRead is_found (λ e. 0) (looked_up handle i path room)
unfolding looked_up
lookup_read handle i path room =
    in_order_read is_found (λ e. 0) (unless (eqb room 32) 2 0 0 ∷ []) (lookup handle i path) (small_fits (eqb room 32) 2 0 refl, tt)
    (λ t.
    answer_read is_found (λ e. 0) (lookup handle i path) (λ e h. found_fits e)
    (λ n p q h. why_fits handle i path n p q (((lookup_means handle i path).1 n p q).0 h)))

-- Many lookups are refused with a question's index, below 64, and the position of its lookup.
module _ (handle numbers counts paths : List ℕ) (room : ℕ) where
  many_fits : (n q p : ℕ) → WhyMany handle numbers counts paths room n q p → Fits n q p
  many_fits n q p (unfit f) = small 2 0 refl
  many_fits n q p (question {r = r} s first e) =
      let i : ℕ = get_or numbers q 0 in
      let path : List ℕ = path_at counts paths q in
      let f = why_fits handle i path n p r (((lookup_means handle i path).1 n p r).0 e) in
      (f.0, f.1, omega (arith, s.at_most, first.within), omega (arith, f.2))

  pub many_read : IsReadPlain (many handle numbers counts paths room)
  many_read =
      answer_read (λ a. 0) (λ a. 0) (many handle numbers counts paths room) (λ a e. (omega arith, omega arith))
      (λ n q p e. many_fits n q p (((many_means handle numbers counts paths room).1 n q p).0 e))

-- A block that is accepted lies in its file, of 1,179,648 bytes at most.
module _ (inode : List ℕ) (k : ℕ) (block : List ℕ) where
  span_fits :
      file_length inode ≤ 1179648 → files.HasBlock inode k → files.BlockSize inode k block →
      (a : Span) → (a.offset ≡ 8192 * k) × (a.size ≡ length block) → (a.offset < 2 ^ 24) × (a.size < 2 ^ 32)
  span_fits most has s a w =
      let l : length block ≤ 1179648 =
      elim (dec_le (8192 * k + 8192) (file_length inode)) [ yes y ↦ omega (arith, s.whole y) | no y ↦ omega (arith, s.rest (omega arith)) ] in
      (omega (arith, w.0), omega (arith, w.1, l))

module _ (handle inode : List ℕ) (k : ℕ) (block : List ℕ) where
  block_fits : (n p q : ℕ) → files.Why handle inode k block n p q → Fits n p q
  block_fits n p q (files.lengths f) = small 2 0 refl
  block_fits n p q (files.not_named w f) = small 8 0 refl
  block_fits n p q (files.not_formed w f) = small 3 0 refl
  block_fits n p q (files.no_block w f) = small 10 0 refl
  block_fits n p q (files.length_of_block w f) = small 2 1 refl
  block_fits n p q (files.block_not_named w f) = small 8 1 refl

  pub block_read : IsRead (λ (a : Span). a.offset) (λ a. a.size) (block_check handle inode k block)
  block_read =
      let m = block_check_means handle inode k block in
      answer_read (λ (a : Span). a.offset) (λ a. a.size) (block_check handle inode k block)
      (λ a e.
      let w = (m.0 a).0 e in
      let most : file_length inode ≤ 131072 = w.0.0.0.0.1.at_most in
      span_fits inode k block (omega arith) w.0.0.0.1 w.0.0.1 a (w.1, w.2))
      (λ n p q e. block_fits n p q ((m.1 n p q).0 e))

-- The same of a large file; the indirect block is place 2.
module _ (handle inode : List ℕ) (k : ℕ) (indirect block : List ℕ) where
  large_fits : (n p q : ℕ) → large.WhyLarge handle inode k indirect block n p q → Fits n p q
  large_fits n p q (large.lengths f) = small 2 0 refl
  large_fits n p q (large.not_named w f) = small 8 0 refl
  large_fits n p q (large.not_formed w f) = small 3 0 refl
  large_fits n p q (large.no_block w f) = small 10 0 refl
  large_fits n p q (large.indirect_length w f) = small 2 2 refl
  large_fits n p q (large.indirect_not_named w f) = small 8 2 refl
  large_fits n p q (large.indirect_not_formed w f) = small 3 2 refl
  large_fits n p q (large.length_of_block w f) = small 2 1 refl
  large_fits n p q (large.block_not_named w f) = small 8 1 refl

  pub large_read : IsRead (λ (a : Span). a.offset) (λ a. a.size) (large_check handle inode k indirect block)
  large_read =
      let m = large_check_means handle inode k indirect block in
      answer_read (λ (a : Span). a.offset) (λ a. a.size) (large_check handle inode k indirect block)
      (λ a e.
      let w = (m.0 a).0 e in
      let b = w.0.0.0.0.0.0 in
      span_fits inode k block b.0.1.at_most b.1 w.0.0.1 a (w.1, w.2))
      (λ n p q e. large_fits n p q ((m.1 n p q).0 e))
