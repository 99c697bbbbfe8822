-- The tests of each function as stages, one for each call that it makes, and what is due behind them.
use Rattle.std.proofs.Common.{◌≡◌, ℕ, ◌-◌, ◌≤◌, ◌<◌, Bool, true, false, ◌&&◌, List, ◌++◌, length, refl, sym, ap, ◌∙◌}
use Rattle.std.specs.Prelude.{Result, Err}
use Rattle.std.specs.Result.{IsErrAnd}
use Rattle.std.proofs.lemmas.Bool.{eq-eqb, lt-ltb, le-ltb}
use Rattle.refusal.specs.Answer.{Answer, accepted}
use Rattle.refusal.specs.Order.{Step, in_order, tried}
use Rattle.refusal.specs.Refusal.{said}
use Rattle.refusal.specs.declared.Refusal.{Refusal}
use Rattle.refusal.proofs.Match.{returned}
use Rattle.refusal.proofs.Means.{in_append}
use Rattle.refusal.proofs.Stage.{refuses}
use Rattle.itable.specs.Inode.{Span as FileSpan}
use Rattle.itable.specs.Inode.{hash_at, file_length, well_formed, inode_steps, index_steps, block_steps, block_check}
use Rattle.itable.specs.LargeInode.{zero_exactly, large_formed, indirect_formed, large_inode_steps, direct_steps, indirect_steps, large_steps, large_check}
use Rattle.inode.specs.declared.Span.{Span}
use Rattle.inode.specs.Spanned.{answer_of}
use Rattle.inode.specs.Internal.Named.{named_steps, handle_steps, form_steps}
use Rattle.inode.specs.Internal.Fitting.{hashes_fit, kind_steps}
use Rattle.inode.specs.Internal.Reading.{read_steps, spanned}

-- A refused stage's refusal, as `?` hands it on, is the call's.
pub spans_on :
    {due : Answer FileSpan} (ts : List Step) (x : Answer FileSpan) → due ≡ in_order ts x → (c : Result Unit Refusal) → said c ≡ tried ts →
    {r : Refusal} (answer : Result Span Refusal) → c ≡ Err r → IsErrAnd answer (λ s. s ≡ r) → answer_of answer ≡ due
spans_on ts x d c e answer w h = rw (returned h) (sym (refuses ts x d c e w))

-- An inode under a handle of 32 bytes.
pub kind_due :
    (size kind most : ℕ) (handle inode : List ℕ) → length handle ≡ 32 →
    tried (kind_steps size kind most handle inode) ≡ in_order (named_steps size handle 0 inode) (tried (form_steps (hashes_fit inode kind most) 0))
unfolding handle_steps in_order
kind_due size kind most handle inode h =
    rw (eq-eqb (length handle) 32 h) (in_append (named_steps size handle 0 inode) (form_steps (hashes_fit inode kind most) 0) (accepted tt))

-- Two tests of a form, one after the other, are one of both.
both_forms : (a b : Bool) → tried (form_steps (a && b) 0) ≡ tried (form_steps a 0 ++ form_steps b 0)
unfolding form_steps in_order
both_forms true b = refl
both_forms false b = refl

-- A large file's inode: the tests that are as any inode's, then that of the indirect block's hash.
pub large_due :
    (handle inode : List ℕ) →
    tried (large_inode_steps handle inode) ≡ in_order (kind_steps 549 11 144 handle inode) (tried (form_steps (zero_exactly inode) 0))
unfolding large_inode_steps large_formed handle_steps named_steps form_steps
large_due handle inode =
    let ts : List Step = handle_steps 549 handle inode in
    let a : Bool = hashes_fit inode 11 144 in
    let b : Bool = zero_exactly inode in
    in_append ts (form_steps (a && b) 0) (accepted tt) ∙
    (ap (in_order ts) (both_forms a b) ∙
    (sym (in_append ts (form_steps a 0 ++ form_steps b 0) (accepted tt)) ∙ in_append (kind_steps 549 11 144 handle inode) (form_steps b 0) (accepted tt)))

-- Its indirect block.
pub indirect_due :
    (inode indirect : List ℕ) →
    tried (indirect_steps inode indirect) ≡
    in_order (named_steps 4097 (hash_at inode 5 16) 2 indirect) (tried (form_steps (indirect_formed (file_length inode) indirect) 2))
unfolding indirect_steps named_steps form_steps
indirect_due inode indirect =
    in_append (named_steps 4097 (hash_at inode 5 16) 2 indirect) (form_steps (indirect_formed (file_length inode) indirect) 2) (accepted tt)

-- What its block k is read from.
module _ (inode : List ℕ) (len k : ℕ) (indirect block : List ℕ) (a : Answer FileSpan) where
  pub direct_read :
      k < 16 → in_order (read_steps inode len k indirect block) a ≡ in_order (direct_steps indirect) (in_order (block_steps len k (hash_at inode 5 k) block) a)
  direct_read h = rw (lt-ltb k 16 h) (in_append (direct_steps indirect) (block_steps len k (hash_at inode 5 k) block) a)

  pub indirect_read :
      16 ≤ k →
      in_order (read_steps inode len k indirect block) a ≡
      in_order (indirect_steps inode indirect) (in_order (block_steps len k (hash_at indirect 1 (k - 16)) block) a)
  indirect_read h = rw (le-ltb k 16 h) (in_append (indirect_steps inode indirect) (block_steps len k (hash_at indirect 1 (k - 16)) block) a)

-- The whole check: the inode, the index, then the block.
module _ (handle inode : List ℕ) (k : ℕ) where
  pub block_due :
      (block : List ℕ) →
      block_check handle inode k block ≡
      in_order (kind_steps 517 6 16 handle inode)
      (in_order (index_steps (file_length inode) k) (in_order (block_steps (file_length inode) k (hash_at inode 5 k) block) (spanned k block)))
  unfolding block_check inode_steps well_formed handle_steps named_steps form_steps
  block_due block = refl

  pub large_check_due :
      (indirect block : List ℕ) →
      large_check handle inode k indirect block ≡
      in_order (large_inode_steps handle inode)
      (in_order (index_steps (file_length inode) k) (in_order (read_steps inode (file_length inode) k indirect block) (spanned k block)))
  unfolding large_check large_steps
  large_check_due indirect block =
      in_append (large_inode_steps handle inode) _ (spanned k block) ∙
      ap (in_order (large_inode_steps handle inode)) (in_append (index_steps (file_length inode) k) _ (spanned k block))
