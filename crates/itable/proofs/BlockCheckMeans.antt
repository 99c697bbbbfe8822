-- The check of a file's block means what InodeMeaning says: each of its tests decides one condition, by the laws of files over sixteen hashes at 5.
use Prim.Native.Nat.{ℕ, ◌*◌}
use mathlib.Core.Bool.{true}
use mathlib.Core.List.{List, ◌++◌}
use mathlib.Core.Logic.Iff
use mathlib.Core.Logic.{◌↔◌, inl, inr}
use mathlib.Core.Path.{◌≡◌, refl}
use lib.ListN.{length}
use Rattle.refusal.specs.Answer.{accepted}
use Rattle.refusal.specs.Order.{Step}
use Rattle.refusal.proofs.Means.{Means, Stage, in_append, concludes, why_first, why_next}
use Rattle.itable.specs.Inode.{hash_at, inode_size, file_length, well_formed, Span, inode_steps, index_steps, block_steps, block_check}
use Rattle.itable.specs.InodeMeaning.{WellFormed, BlockNamed, ToBlock, AllConditions, Why, BlockCheckMeans}
use Rattle.itable.specs.InodeMeaning.{lengths, not_named, not_formed, no_block, length_of_block, block_not_named}
use Rattle.itable.proofs.FileBlocks.{fits_means}
use Rattle.itable.proofs.FileStages.{InodeRefused, inode_stages, BlockRefused, block_stages, exactly}

pub formed_means : (inode : List ℕ) → (well_formed inode ≡ true) ↔ WellFormed inode
unfolding well_formed
formed_means inode =
    let fits = fits_means inode 6 16 in (
      λ e. let w = fits.0 e in record { kind_six = w.0; at_most = w.1.0; rest_is_zero = w.1.1 },
      λ w. fits.1 (w.kind_six, (w.at_most, w.rest_is_zero)),
    )

module _ (handle inode : List ℕ) (k : ℕ) (block : List ℕ) where
  abbrev span : Span
  span = record { offset = 8192 * k; size = length block }

  -- Every way to be refused, as the stages give it.
  abbrev Given : ℕ → ℕ → ℕ → Type 0
  Given =
      BlockRefused inode k block (BlockNamed inode k block) (ToBlock handle inode k) (InodeRefused handle inode inode_size (WellFormed inode) k)

  abbrev steps_of_block : List Step
  steps_of_block = block_steps (file_length inode) k (hash_at inode 5 k) block

  abbrev steps_behind_inode : List Step
  steps_behind_inode = index_steps (file_length inode) k ++ steps_of_block

  all_stages : Stage (inode_steps handle inode ++ steps_behind_inode) (AllConditions handle inode k block) Given
  unfolding inode_steps index_steps
  all_stages =
      block_stages inode k block (BlockNamed inode k block) (inode_steps handle inode ++ index_steps (file_length inode) k) (hash_at inode 5 k)
      (inode_stages handle inode inode_size (WellFormed inode) k (well_formed inode) (formed_means inode)) (λ w. w.1) Iff.rfl

  check_stages : Means (block_check handle inode k block) span (AllConditions handle inode k block) Given
  unfolding block_check
  check_stages =
      let front = in_append (inode_steps handle inode) steps_behind_inode (accepted span) in
      let index = in_append (index_steps (file_length inode) k) steps_of_block (accepted span) in
      rw (front, index) at (concludes (inode_steps handle inode ++ steps_behind_inode) all_stages span)

  abbrev Reason : ℕ → ℕ → ℕ → Type 0
  Reason = Why handle inode k block

  why_given : (n p q : ℕ) → Given n p q → Reason n p q
  why_given =
      why_next Reason
      (why_next Reason
      (why_next Reason (why_next Reason (why_next Reason (why_first Reason lengths) not_named) not_formed) no_block) length_of_block)
      block_not_named

  given_why : (n p q : ℕ) → Reason n p q → Given n p q
  given_why n p q (lengths f) = inl (inl (inl (inl (inl (f, refl, refl, refl)))))
  given_why n p q (not_named w f) = inl (inl (inl (inl (inr (w, (f, refl, refl, refl))))))
  given_why n p q (not_formed w f) = inl (inl (inl (inr (w, (f, refl, refl, refl)))))
  given_why n p q (no_block w f) = inl (inl (inr (w, (f, refl, refl, refl))))
  given_why n p q (length_of_block w f) = inl (inr (w, (f, refl, refl, refl)))
  given_why n p q (block_not_named w f) = inr (w, (f, refl, refl, refl))

pub block_check_means : BlockCheckMeans
block_check_means handle inode k block =
    exactly (check_stages handle inode k block) (why_given handle inode k block) (given_why handle inode k block)
