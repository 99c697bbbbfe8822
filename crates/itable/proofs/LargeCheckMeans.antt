-- The check of a large file's block means what LargeMeaning says. What it shares with kind 6 is cited: the stages of inode and index, those of the
-- block, and the laws of hashes, for sixteen at 5 and for the indirect block's 128 at 1. Between the two stands a direct read's one test, or the
-- indirect block's three, by cases on the index.
use Prim.Native.Nat.{ℕ, ◌-◌, ◌*◌, ◌≤◌, ◌<◌}
use mathlib.Core.Bool.{Bool, true, false, beq, cond, ◌&&◌}
use mathlib.Core.List.{List, [], ◌∷◌, ◌++◌}
use mathlib.Core.Logic.{◌↔◌, inl, inr}
use mathlib.Core.Path.{◌≡◌, refl, ap}
use native.Mathlib.Decide.{dec_le}
use native.Mathlib.Omega.{arith}
use lib.Dec.{ltb, eqb}
use lib.ListN.{length, get_or}
use borrow.Author.Tests.{eqb-true, eq-eqb, lt-ltb, le-ltb}
use Rattle.search.proofs.Bool.{not_both}
use Rattle.layout.specs.Strings.{same, zeros}
use Rattle.layout.proofs.Strings.{same_means}
use Rattle.layout.proofs.Zeros.{zeros_mean}
use Rattle.refusal.specs.Order.{Step}
use Rattle.refusal.proofs.Means.{Means, Stage, Either, Unless, and_then_means, concludes, tests_mean, test_means, why_first, why_next}
use Rattle.sha256.specs.Sha256.{sha256}
use Rattle.itable.specs.Inode.{file_blocks, hash_at, rest_zero, holds, file_length, Span, index_steps}
use Rattle.itable.specs.InodeMeaning.{RestZero}
use Rattle.itable.specs.LargeInode.{large_size, large_formed, indirect_size, indirect_formed, large_hash}
use Rattle.itable.specs.LargeInode.{large_inode_steps, direct_steps, indirect_steps, large_steps, large_check}
use Rattle.itable.specs.LargeMeaning.{LargeFormed, IndirectSize, IndirectNamed, IndirectFormed, LargeNamed}
use Rattle.itable.specs.LargeMeaning.{ToBlock, ToIndirectSize, ToIndirectNamed, ToIndirect, LargeConditions, WhyLarge, LargeCheckMeans}
use Rattle.itable.specs.LargeMeaning.{lengths, not_named, not_formed, no_block, indirect_length, indirect_not_named, indirect_not_formed}
use Rattle.itable.specs.LargeMeaning.{length_of_block, block_not_named}
use Rattle.itable.proofs.FileBlocks.{equal_means, both_mean, holds_means, rest_means, fits_means}
use Rattle.itable.proofs.FileStages.{InodeRefused, inode_stages, BlockRefused, block_stages, exactly}

-- Two tests that pass or fail together: each condition holds exactly where the other does.
alike_mean : {P Q : Type 0} (a b : Bool) → (a ≡ true) ↔ P → (b ≡ true) ↔ Q → (beq a b ≡ true) ↔ (Q ↔ P)
alike_mean true true p q = (λ e. (λ y. p.0 refl, λ x. q.0 refl), λ w. refl)
alike_mean true false p q = (λ e. absurd (not_both e refl), λ w. absurd (not_both (q.1 (w.1 (p.0 refl))) refl))
alike_mean false true p q = (λ e. absurd (not_both e refl), λ w. absurd (not_both (p.1 (w.0 (q.0 refl))) refl))
alike_mean false false p q = (λ e. (λ y. absurd (not_both (q.1 y) refl), λ x. absurd (not_both (p.1 x) refl)), λ w. refl)

pub large_formed_means : (inode : List ℕ) → (large_formed inode ≡ true) ↔ LargeFormed inode
unfolding large_formed
large_formed_means inode =
    let len : ℕ = file_length inode in
    let fits : Bool = eqb (get_or inode 0 0) 11 && (holds 144 len && rest_zero inode 5 16 (file_blocks len)) in
    let exact : Bool = beq (holds 16 len) (zeros inode 517 32) in
    let exactly-zero = alike_mean (holds 16 len) (zeros inode 517 32) (holds_means 16 len) (zeros_mean inode 517 32) in
    let m = both_mean fits exact (fits_means inode 11 144) exactly-zero in (
      λ e. let w = m.0 e in record { kind_eleven = w.0.0; at_most = w.0.1.0; rest_is_zero = w.0.1.1; zero_exactly_when = w.1 },
      λ w. m.1 ((w.kind_eleven, (w.at_most, w.rest_is_zero)), w.zero_exactly_when),
    )

-- The blocks behind the sixteenth are those of what lies behind 131,072 bytes.
indirect_formed_means :
    (len : ℕ) (indirect : List ℕ) →
    (indirect_formed len indirect ≡ true) ↔ ((get_or indirect 0 0 ≡ 12) × RestZero indirect 1 128 (len - 131072))
unfolding indirect_formed
indirect_formed_means len indirect =
    let e : file_blocks len - 16 ≡ file_blocks (len - 131072) = omega arith in
    rw e
    (both_mean (eqb (get_or indirect 0 0) 12) (rest_zero indirect 1 128 (file_blocks (len - 131072))) (equal_means (get_or indirect 0 0) 12)
    (rest_means indirect 1 128 (len - 131072)))

no_bytes : (xs : List ℕ) → length xs ≡ 0 → xs ≡ []
no_bytes [] e = refl
no_bytes (x ∷ xs) e = absurd (omega arith)

-- A condition that holds, and that no test asks for.
not_asked : {P : Type 0} (i j k : ℕ) → P → Stage [] P (Unless P i j k)
not_asked i j k p = tests_mean [] i j k (λ t. p) (λ w. tt)

module _ (handle inode : List ℕ) (k : ℕ) (indirect : List ℕ) where
  abbrev InodeGiven : ℕ → ℕ → ℕ → Type 0
  InodeGiven = InodeRefused handle inode large_size (LargeFormed inode) k

  -- Every way to be refused before the block is looked at, as the stages give it.
  abbrev IndirectGiven : ℕ → ℕ → ℕ → Type 0
  IndirectGiven =
      Either (ToIndirectNamed handle inode k indirect)
      (Either (ToIndirectSize handle inode k indirect)
      (Either (ToBlock handle inode k) InodeGiven (Unless (IndirectSize k indirect) 2 2 0))
      (Unless (IndirectNamed inode k indirect) 8 2 0))
      (Unless (IndirectFormed inode k indirect) 3 2 0)

  abbrev steps_to_index : List Step
  steps_to_index = large_inode_steps handle inode ++ index_steps (file_length inode) k

  to_index : Stage steps_to_index (ToBlock handle inode k) InodeGiven
  unfolding large_inode_steps
  to_index = inode_stages handle inode large_size (LargeFormed inode) k (large_formed inode) (large_formed_means inode)

  direct_stages : k < 16 → Stage (steps_to_index ++ direct_steps indirect) (ToIndirect handle inode k indirect) IndirectGiven
  unfolding large_inode_steps index_steps direct_steps
  direct_stages h =
      and_then_means _ []
      (and_then_means _ []
      (and_then_means steps_to_index _ to_index
      (λ w.
      test_means (eqb (length indirect) 0) 2 2 0 (
        λ e. record { direct = λ l. no_bytes indirect (eqb-true (length indirect) 0 e); whole = λ l. absurd (omega arith) },
        λ w. eq-eqb (length indirect) 0 (ap length (w.direct h)),
      )))
      (λ w. not_asked 8 2 0 (λ l. absurd (omega arith))))
      (λ w. not_asked 3 2 0 (record { kind_twelve = λ l. absurd (omega arith); rest_is_zero = λ l. absurd (omega arith) }))

  indirect_stages : 16 ≤ k → Stage (steps_to_index ++ indirect_steps inode indirect) (ToIndirect handle inode k indirect) IndirectGiven
  unfolding large_inode_steps index_steps indirect_steps
  indirect_stages h =
      let hashed = same_means (sha256 indirect) (hash_at inode 5 16) in
      let formed = indirect_formed_means (file_length inode) indirect in
      and_then_means _ _
      (and_then_means _ _
      (and_then_means steps_to_index _ to_index
      (λ w.
      test_means (eqb (length indirect) indirect_size) 2 2 0 (
        λ e. record { direct = λ l. absurd (omega arith); whole = λ l. eqb-true (length indirect) indirect_size e },
        λ w. eq-eqb (length indirect) indirect_size (w.whole h),
      )))
      (λ w. test_means (same (sha256 indirect) (hash_at inode 5 16)) 8 2 0 (λ e l. hashed.0 e, λ w. hashed.1 (w h))))
      (λ w.
      test_means (indirect_formed (file_length inode) indirect) 3 2 0 (
        λ e. let w = formed.0 e in record { kind_twelve = λ l. w.0; rest_is_zero = λ l. w.1 },
        λ w. formed.1 (w.kind_twelve h, w.rest_is_zero h),
      ))

  abbrev steps_to_block : List Step
  steps_to_block = steps_to_index ++ cond (ltb k 16) (direct_steps indirect) (indirect_steps inode indirect)

  to_block_stage : Stage steps_to_block (ToIndirect handle inode k indirect) IndirectGiven
  to_block_stage =
      elim (dec_le 16 k) [
        | yes h ↦ rw (le-ltb k 16 h) (indirect_stages h)
        | no h ↦ rw (lt-ltb k 16 (omega arith)) (direct_stages (omega arith))
      ]

  module _ (block : List ℕ) where
    abbrev span : Span
    span = record { offset = 8192 * k; size = length block }

    abbrev Given : ℕ → ℕ → ℕ → Type 0
    Given = BlockRefused inode k block (LargeNamed inode k indirect block) (ToIndirect handle inode k indirect) IndirectGiven

    named_means : (sha256 block ≡ large_hash inode k indirect) ↔ LargeNamed inode k indirect block
    named_means =
        elim (dec_le 16 k) [
          | yes h ↦ rw (le-ltb k 16 h) (λ e. record { by_inode = λ l. absurd (omega arith); by_indirect = λ l. e }, λ w. w.by_indirect h)
          | no h ↦
              rw (lt-ltb k 16 (omega arith)) (
                λ e. record { by_inode = λ l. e; by_indirect = λ l. absurd (omega arith) },
                λ w. w.by_inode (omega arith),
              )
        ]

    all_stages : Stage (large_steps handle inode k indirect block) (LargeConditions handle inode k indirect block) Given
    unfolding large_steps large_inode_steps index_steps
    all_stages =
        block_stages inode k block (LargeNamed inode k indirect block) steps_to_block (large_hash inode k indirect) to_block_stage
        (λ w. w.0.0.0.1) named_means

    check_stages : Means (large_check handle inode k indirect block) span (LargeConditions handle inode k indirect block) Given
    unfolding large_check
    check_stages = concludes (large_steps handle inode k indirect block) all_stages span

    abbrev Reason : ℕ → ℕ → ℕ → Type 0
    Reason = WhyLarge handle inode k indirect block

    why_given : (n p q : ℕ) → Given n p q → Reason n p q
    why_given =
        why_next Reason
        (why_next Reason
        (why_next Reason
        (why_next Reason
        (why_next Reason
        (why_next Reason (why_next Reason (why_next Reason (why_first Reason lengths) not_named) not_formed) no_block) indirect_length)
        indirect_not_named)
        indirect_not_formed)
        length_of_block)
        block_not_named

    given_why : (n p q : ℕ) → Reason n p q → Given n p q
    given_why n p q (lengths f) = inl (inl (inl (inl (inl (inl (inl (inl (f, refl, refl, refl))))))))
    given_why n p q (not_named w f) = inl (inl (inl (inl (inl (inl (inl (inr (w, (f, refl, refl, refl)))))))))
    given_why n p q (not_formed w f) = inl (inl (inl (inl (inl (inl (inr (w, (f, refl, refl, refl))))))))
    given_why n p q (no_block w f) = inl (inl (inl (inl (inl (inr (w, (f, refl, refl, refl)))))))
    given_why n p q (indirect_length w f) = inl (inl (inl (inl (inr (w, (f, refl, refl, refl))))))
    given_why n p q (indirect_not_named w f) = inl (inl (inl (inr (w, (f, refl, refl, refl)))))
    given_why n p q (indirect_not_formed w f) = inl (inl (inr (w, (f, refl, refl, refl))))
    given_why n p q (length_of_block w f) = inl (inr (w, (f, refl, refl, refl)))
    given_why n p q (block_not_named w f) = inr (w, (f, refl, refl, refl))

pub large_check_means : LargeCheckMeans
large_check_means handle inode k indirect block =
    exactly (check_stages handle inode k indirect block) (why_given handle inode k indirect block) (given_why handle inode k indirect block)
