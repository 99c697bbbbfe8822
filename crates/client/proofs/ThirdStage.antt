-- The third stage's tests, tried in order, and the next counts where they pass.
use Prim.Native.Nat.{ℕ, ◌≤◌}
use mathlib.Core.Bool.{Bool, true, false}
use mathlib.Core.List.{List, [], ◌∷◌, ◌++◌, append-nil}
use mathlib.Core.Path.{◌≡◌, sym, ◌∙◌}
use native.Mathlib.Omega.{arith}
use borrow.Author.Tests.{eq-eqb, ne_eqb}
use lib.ListN.{length, take, drop, replicate}
use lib.Seq.{take-length}
use Rattle.layout.specs.Bytes.{values}
use Rattle.search.proofs.Bool.{both_true}
use Rattle.refusal.specs.Answer.{Answer, accepted}
use Rattle.refusal.specs.Order.{in_order}
use Rattle.refusal.specs.Refusal.{refusal}
use Rattle.refusal.specs.declared.Refusal.TheVariants.{NotCurrent, LastVersion}
use Rattle.protocol.specs.Version.{count}
use Rattle.protocol.specs.Check.{last_count, next_count, next_counts, current, pair_step, order_steps}
use Rattle.protocol.specs.MemoryFile.{Verdict as Due, next, again}
use Rattle.client.specs.Internal.Stages.{is_before, goes_on}

pub values_next :
    (u : ℕ) (mem list : List ℕ) {counts : List ℕ} → counts ≡ next_counts u mem list → counts ≡ values (next_count u mem list) 0 16
unfolding next_counts
values_next u mem list e = e

module _ (u : ℕ) (mem : List ℕ) (p : Bool) (list : List ℕ) where
  abbrev due : Answer Due
  due = goes_on u mem p list

  module _ (b : Bool) (e : b ≡ current u mem list) (n : ℕ) (en : n ≡ count mem u) where
    module _ (f : b ≡ false) (a : Bool) (ea : a ≡ is_before u n p list) where
      before : is_before u (count mem u) p list ≡ a
      before = rw (sym en) (sym ea)

      -- Only a pending structure is sent again, which is whole.
      pub is_pending : a ≡ true → p ≡ true
      unfolding is_before
      is_pending t = (both_true p _ (sym ea ∙ t)).0

      pub is_again :
          a ≡ true → (p ≡ true → length mem ≡ 98) → (bytes : List ℕ) →
          (length mem ≤ 98 → bytes ≡ take (length mem) mem ++ drop (length mem) (replicate 98 0)) → accepted (again bytes) ≡ due
      unfolding goes_on
      is_again t whole bytes w =
          let l : length mem ≡ 98 = whole (is_pending t) in
          let z : drop {A = ℕ} (length mem) (replicate 98 0) ≡ [] = rw l in
          let c : bytes ≡ mem = w (omega (arith, l)) ∙ rw (take-length mem, z) (append-nil mem) in
          rw (sym e ∙ f, before, t, c)

      pub not_current : a ≡ false → refusal NotCurrent ≡ due
      unfolding goes_on order_steps in_order
      not_current t = rw (sym e ∙ f, before, t)

    module _ (t : b ≡ true) where
      pub last_version : n ≡ last_count → refusal LastVersion ≡ due
      unfolding goes_on order_steps in_order
      last_version z = rw (sym e ∙ t, eq-eqb (count mem u) last_count (sym en ∙ z))

      -- What is left after these: the pairs, and the next counts.
      pub then_pairs :
          (n ≡ last_count → ⊥) →
          due ≡ in_order (pair_step list (next_count u mem list) ∷ []) (accepted (next (next_counts u mem list)))
      unfolding goes_on order_steps in_order
      then_pairs z = rw (sym e ∙ t, ne_eqb (count mem u) last_count (λ y. z (en ∙ y)))
