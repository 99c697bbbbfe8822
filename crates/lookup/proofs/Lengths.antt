-- The lookup's tests of lengths, in order: which of them fails, or that the blocks are consulted.
use Prim.Native.Nat.{ℕ, ◌*◌, ◌/◌, ◌≤◌, ◌<◌}
use mathlib.Core.List.{List}
use mathlib.Core.Path.{◌≡◌, sym, ap, ◌∙◌}
use lib.ListN.{length}
use borrow.Author.Tests.{eq-eqb, ne_eqb, le-leb, lt-leb}
use Rattle.layout.specs.Bytes.{bytes_at}
use Rattle.layout.proofs.Values.{values_whole}
use Rattle.refusal.specs.Answer.{Answer, refused}
use Rattle.refusal.specs.Order.{in_order}
use Rattle.itable.specs.Block.{to_root}
use Rattle.itable.specs.declared.Link.{Link}
use Rattle.itable.specs.Lookup.{Entry, consult, lookup, path_steps}
use Rattle.itable.proofs.Paths.{lookup_consults}

module _ (handle : List ℕ) (i : ℕ) (path : List ℕ) where
  pub other_handle : (length handle ≡ 32 → ⊥) → refused 2 0 0 ≡ lookup handle i path
  unfolding lookup path_steps in_order
  other_handle h = rw (ne_eqb (length handle) 32 h)

  module _ (h : length handle ≡ 32) where
    pub not_whole : (642 * (length path / 642) ≡ length path → ⊥) → refused 2 0 0 ≡ lookup handle i path
    unfolding lookup path_steps in_order
    not_whole w = rw (eq-eqb (length handle) 32 h, ne_eqb (642 * (length path / 642)) (length path) w)

    module _ (w : 642 * (length path / 642) ≡ length path) where
      pub no_block : length path / 642 < 1 → refused 2 0 0 ≡ lookup handle i path
      unfolding lookup path_steps in_order
      no_block n =
          rw (eq-eqb (length handle) 32 h, eq-eqb (642 * (length path / 642)) (length path) w, lt-leb 1 (length path / 642) n)

      pub many_blocks : 1 ≤ length path / 642 → 3 < length path / 642 → refused 2 0 0 ≡ lookup handle i path
      unfolding lookup path_steps in_order
      many_blocks n m =
          rw (
            eq-eqb (length handle) 32 h,
            eq-eqb (642 * (length path / 642)) (length path) w,
            le-leb 1 (length path / 642) n,
            lt-leb (length path / 642) 3 m,
          )

      pub some_blocks :
          1 ≤ length path / 642 → length path / 642 ≤ 3 → {b : List ℕ} → b ≡ bytes_at handle 0 32 → {k : Link} → k ≡ to_root b →
          {a : Answer Entry} → a ≡ consult path i (length path / 642) 0 k → a ≡ lookup handle i path
      some_blocks n m f e g =
          let r = e ∙ ap to_root (f ∙ values_whole handle 32 h) in
          g ∙ (ap (consult path i (length path / 642) 0) r ∙ sym (lookup_consults handle i path (length path / 642) h (sym w) n m))
