-- The state after an honest turn's commit is steady again: the new structure is held, there and in the user's file, and all others held are before it.
use Prim.Native.Nat.{ℕ, ◌≤◌, ◌<◌}
use mathlib.Core.Bool.{cond}
use mathlib.Core.List.{List}
use mathlib.Core.Logic.{◌⊎◌, inl, inr}
use mathlib.Core.Path.{◌≡◌, refl, sym, ap, ◌∙◌}
use native.Mathlib.Omega.{arith}
use lib.Dec.{eqb}
use lib.ListN.{length}
use borrow.Author.Tests.{eq-eqb, ne_eqb}
use Rattle.protocol.specs.declared.Server.{Server}
use Rattle.protocol.specs.Version.{owner, count}
use Rattle.protocol.specs.Server.{held, held_own, replaced}
use Rattle.protocol.specs.MemoryFile.{file_size, held as held_in}
use Rattle.protocol.specs.Meaning.{AtOrBefore}
use Rattle.protocol.specs.MemoryMeaning.{Formed}
use Rattle.protocol.specs.Steady.{Kept, Steady}
use Rattle.protocol.proofs.Held as Held
use Rattle.protocol.proofs.Held.{replaced_length}
use Rattle.protocol.proofs.HonestNext.{
  Ready,
  made_next,
  next_length,
  next_owner,
  next_own,
  next_other,
  held_before,
  next_proper,
}

module _ {N : ℕ} {s : Server} {file : ℕ → List ℕ} {u : ℕ} {handle : List ℕ} (r : Ready N s file u handle) where
  owned : owner (made_next r) < 16
  owned = omega (arith, next_owner r, r.small, r.user)

  -- What holds of the new structure, and of every other held before, holds of what is held now.
  pub now_or_still :
      (P : ℕ → List ℕ → Type 0) → P u (made_next r) → ((v : ℕ) → (v ≡ u → ⊥) → P v (held s v)) →
      (v : ℕ) → P v (held (replaced s (made_next r)) v)
  now_or_still P new old =
      Held.now_or_still s (made_next r) r.steady.long (next_length r) owned
      (λ z. omega (arith, next_own r, ap (count (made_next r)) (next_owner r))) P (rw (next_owner r) new)
      (λ v n. old v (λ e. n (e ∙ sym (next_owner r))))

  counted_now :
      (w v : ℕ) → v < 16 → w < 16 → count (held (replaced s (made_next r)) v) w ≤ count (held (replaced s (made_next r)) w) w
  counted_now =
      now_or_still (λ w y. (v : ℕ) → v < 16 → w < 16 → count (held (replaced s (made_next r)) v) w ≤ count y w)
      (now_or_still (λ v x. v < 16 → u < 16 → count x u ≤ count (made_next r) u) (λ a b. omega arith)
      (λ v n a b. omega (arith, r.steady.counted v u a b, next_own r)))
      (λ w m.
      now_or_still (λ v x. v < 16 → w < 16 → count x w ≤ held_own s w) (λ a b. omega (arith, next_other r w b m))
      (λ v n a b. r.steady.counted v w a b))

  ordered_now :
      (w v : ℕ) → v < 16 → w < 16 →
      AtOrBefore (held (replaced s (made_next r)) v) (held (replaced s (made_next r)) w) ⊎
      AtOrBefore (held (replaced s (made_next r)) w) (held (replaced s (made_next r)) v)
  ordered_now =
      now_or_still
      (λ w y.
      (v : ℕ) → v < 16 → w < 16 →
      AtOrBefore (held (replaced s (made_next r)) v) y ⊎ AtOrBefore y (held (replaced s (made_next r)) v))
      (now_or_still (λ v x. v < 16 → u < 16 → AtOrBefore x (made_next r) ⊎ AtOrBefore (made_next r) x)
      (λ a b. inl (λ i l. omega arith)) (λ v n a b. inl (held_before r v a).0))
      (λ w m.
      now_or_still (λ v x. v < 16 → w < 16 → AtOrBefore x (held s w) ⊎ AtOrBefore (held s w) x)
      (λ a b. inr (held_before r w b).0) (λ v n a b. r.steady.ordered v w a b))

  -- With any file g of the user that holds the new structure.
  pub steady_next :
      (g : List ℕ) → length g ≡ file_size → Formed N u g → held_in g ≡ made_next r →
      Steady N (replaced s (made_next r)) (λ v. cond (eqb u v) g (file v))
  unfolding replaced
  steady_next g long formed holds =
      record {
        users = r.steady.users;
        long = replaced_length s (made_next r) r.steady.long (next_length r) owned;
        filed =
            now_or_still
            (λ v x. v < N → (length (cond (eqb u v) g (file v)) ≡ file_size) × Formed N v (cond (eqb u v) g (file v)))
            (λ l. rw (eq-eqb u u refl) (long, formed)) (λ v n l. rw (ne_eqb u v (λ e. n (sym e))) (r.steady.filed v l));
        remembered =
            now_or_still (λ v x. v < N → held_in (cond (eqb u v) g (file v)) ≡ x) (λ l. rw (eq-eqb u u refl) holds)
            (λ v n l. rw (ne_eqb u v (λ e. n (sym e))) (r.steady.remembered v l));
        kept = now_or_still (λ v x. v < 16 → Kept N v x) (λ l. inr (next_proper r)) (λ v n l. r.steady.kept v l);
        counted = λ v w. counted_now w v;
        ordered = λ v w. ordered_now w v;
      }
