-- The stages that every check of a file's block has, whatever its inode's kind: of handle, inode and index, and of the block. And what the whole
-- check then means: a span exactly where every condition holds, a refusal exactly for its reason.
use Prim.Native.Nat.{ℕ}
use mathlib.Core.Bool.{Bool, true}
use mathlib.Core.List.{List, [], ◌∷◌, ◌++◌, append_assoc}
use mathlib.Core.Logic.Iff
use mathlib.Core.Logic.{◌↔◌}
use mathlib.Core.Path.{◌≡◌, refl, ap₂}
use lib.Dec.{ltb, eqb}
use lib.ListN.{length}
use borrow.Author.Tests.{eqb-true, eq-eqb}
use Rattle.layout.specs.Strings.{same}
use Rattle.layout.proofs.Strings.{same_means}
use Rattle.refusal.specs.Answer.{Answer, accepted, refused}
use Rattle.refusal.specs.Order.{Step, unless}
use Rattle.refusal.proofs.Means.{Means, Stage, Either, Unless, alike, and_then_means, tests_mean, test_means, exactly as exactly-one}
use Rattle.sha256.specs.Sha256.{sha256}
use Rattle.itable.specs.Inode.{file_blocks, block_length, file_length, Span, index_steps, block_steps}
use Rattle.itable.specs.InodeMeaning.{Named, HasBlock, BlockSize}
use Rattle.itable.proofs.FileBlocks.{has_block, size_means}

-- Handle, inode and index, over the inode's size and what makes it well formed.
module _ (handle inode : List ℕ) (size : ℕ) where
  abbrev pub Lengths : Type 0
  Lengths = (length handle ≡ 32) × (length inode ≡ size)

  sizes_stage : Stage (alike (eqb (length handle) 32 ∷ eqb (length inode) size ∷ []) 2 0 0) Lengths (Unless Lengths 2 0 0)
  sizes_stage =
      tests_mean (eqb (length handle) 32 ∷ eqb (length inode) size ∷ []) 2 0 0
      (λ t. (eqb-true (length handle) 32 t.0, eqb-true (length inode) size t.1.0))
      (λ w. (eq-eqb (length handle) 32 w.0, (eq-eqb (length inode) size w.1, tt)))

  module _ (Formed : Type 0) (k : ℕ) where
    abbrev pub ToIndex : Type 0
    ToIndex = ((Lengths × Named handle inode) × Formed) × HasBlock inode k

    -- Every way to be refused up to there, as the stages give it.
    abbrev pub InodeRefused : ℕ → ℕ → ℕ → Type 0
    InodeRefused =
        Either ((Lengths × Named handle inode) × Formed)
        (Either (Lengths × Named handle inode)
        (Either Lengths (Unless Lengths 2 0 0) (Unless (Named handle inode) 8 0 0))
        (Unless Formed 3 0 0))
        (Unless (HasBlock inode k) 10 0 0)

    pub inode_stages :
        (formed : Bool) → (formed ≡ true) ↔ Formed →
        Stage
        (unless (eqb (length handle) 32) 2 0 0 ∷
        unless (eqb (length inode) size) 2 0 0 ∷
        unless (same (sha256 inode) handle) 8 0 0 ∷ unless formed 3 0 0 ∷ index_steps (file_length inode) k)
        ToIndex InodeRefused
    unfolding index_steps
    inode_stages formed m =
        and_then_means _ _
        (and_then_means _ _
        (and_then_means _ _ sizes_stage (λ w. test_means (same (sha256 inode) handle) 8 0 0 (same_means (sha256 inode) handle)))
        (λ w. test_means formed 3 0 0 m))
        (λ w. test_means (ltb k (file_blocks (file_length inode))) 10 0 0 (has_block (file_length inode) k))

-- The block, behind any stage that finds it in the file, over the hash that names it.
module _ (inode : List ℕ) (k : ℕ) (block : List ℕ) (Hashed : Type 0) where
  abbrev pub BlockRefused : Type 0 → (ℕ → ℕ → ℕ → Type 0) → ℕ → ℕ → ℕ → Type 0
  BlockRefused P Q = Either (P × BlockSize inode k block) (Either P Q (Unless (BlockSize inode k block) 2 1 0)) (Unless Hashed 8 1 0)

  pub block_stages :
      (ts : List Step) (hash : List ℕ) {P : Type 0} {Q : ℕ → ℕ → ℕ → Type 0} → Stage ts P Q → (P → HasBlock inode k) →
      (sha256 block ≡ hash) ↔ Hashed →
      Stage (ts ++ block_steps (file_length inode) k hash block) ((P × BlockSize inode k block) × Hashed) (BlockRefused P Q)
  unfolding block_steps
  block_stages ts hash M has named =
      let fits : Bool = eqb (length block) (block_length (file_length inode) k) in
      let hashed : Bool = same (sha256 block) hash in
      rw (append_assoc ts (unless fits 2 1 0 ∷ []) (unless hashed 8 1 0 ∷ [])) at
      (and_then_means (ts ++ (unless fits 2 1 0 ∷ [])) (unless hashed 8 1 0 ∷ [])
      (and_then_means ts (unless fits 2 1 0 ∷ []) M (λ w. test_means fits 2 1 0 (size_means inode k block (has w))))
      (λ w. test_means hashed 8 1 0 (Iff.trans (same_means (sha256 block) hash) named)))

-- The answer, where what the stages give is what the statement calls its reasons.
pub exactly :
    {x : Answer Span} {o l : ℕ} {P : Type 0} {Q R : ℕ → ℕ → ℕ → Type 0} → Means x (record { offset = o; size = l }) P Q →
    ((n p q : ℕ) → Q n p q → R n p q) → ((n p q : ℕ) → R n p q → Q n p q) →
    ((a : Span) → (x ≡ accepted a) ↔ (P × (a.offset ≡ o) × (a.size ≡ l))) × ((n p q : ℕ) → (x ≡ refused n p q) ↔ R n p q)
exactly {o = o} {l = l} m why given =
    let g =
    exactly-one m (λ (a : Span). (a.offset ≡ o) × (a.size ≡ l)) (λ p. (refl, refl))
    (λ a p w. ap₂ (λ (o l : ℕ). record { offset = o; size = l }) w.0 w.1) why given in
    (λ a. (λ e. let w = (g.0 a).0 e in (w.0, w.1.0, w.1.1), λ w. (g.0 a).1 (w.0, (w.1, w.2))), g.1)
