-- A commit's tests in their order: what they answer, by the first of them that fails.
use Prim.Native.Nat.{ℕ, ◌+◌, ◌<◌}
use mathlib.Core.Bool.{Bool, true, false, not}
use mathlib.Core.List.{List}
use mathlib.Core.Path.{◌≡◌, refl, sym}
use native.Mathlib.Omega.{arith}
use lib.Dec.{eqb}
use lib.ListN.{length}
use borrow.Author.Tests.{eq-eqb, ne_eqb, eqb-true}
use Rattle.std.specs.Prelude.{None, Some}
use Rattle.search.specs.Search.{first}
use Rattle.search.proofs.Place.{was_first, was_none}
use Rattle.search.proofs.Search.{some_fails, none_fails}
use Rattle.refusal.specs.Answer.{accepted, refused}
use Rattle.refusal.specs.Order.{in_order, tried}
use Rattle.refusal.proofs.Order.{passed, unless_passed}
use Rattle.protocol.specs.Version.{size, owner, count, own, well_formed}
use Rattle.protocol.specs.Server.{held, held_own, follows, commit_steps}
use Rattle.protocol.specs.declared.Server.{Server}
use Rattle.version.specs.declared.Version.{Version}
use Rattle.version.specs.Version.{fields}
use Rattle.protocol.proofs.Conditions.{owner_below}

-- The owner that is read from a record.
pub owner_fields : (x : List ℕ) → (fields x).owner ≡ owner x
unfolding fields
owner_fields x = refl

-- The own count read from the record, compared with that of what is held of its owner.
pub next_read :
    (s : Server) (x : List ℕ) (f : Version) (h : List ℕ) (o n : ℕ) (b : Bool) → f ≡ fields x → h ≡ held s f.owner →
    o ≡ own x → n ≡ count h f.owner → b ≡ eqb o (n + 1) → eqb (own x) (held_own s (owner x) + 1) ≡ b
next_read s x f h o n b e eh eo en eb = rw (eb, eo, en, eh, e, owner_fields x)

module _ (s : Server) (x : List ℕ) (mark : ℕ) where
  pub other_length : (length x ≡ size → ⊥) → refused 2 0 0 ≡ tried (commit_steps s x mark)
  unfolding commit_steps in_order
  other_length n = rw (ne_eqb (length x) size n)

  module _ (l : length x ≡ size) where
    pub malformed : well_formed s.users x ≡ false → refused 3 0 0 ≡ tried (commit_steps s x mark)
    unfolding commit_steps in_order
    malformed w = rw (eq-eqb (length x) size l, w)

    module _ (w : well_formed s.users x ≡ true) where
      pub unsigned : (mark ≡ 1 → ⊥) → refused 4 0 0 ≡ tried (commit_steps s x mark)
      unfolding commit_steps in_order
      unsigned n = rw (eq-eqb (length x) size l, w, ne_eqb mark 1 n)

      module _ (m : mark ≡ 1) where
        pub not_next : eqb (own x) (held_own s (owner x) + 1) ≡ false → refused 5 0 0 ≡ tried (commit_steps s x mark)
        unfolding commit_steps in_order
        not_next n = rw (eq-eqb (length x) size l, w, eq-eqb mark 1 m, n)

        module _ (n : eqb (own x) (held_own s (owner x) + 1) ≡ true) where
          pub apart : {v : ℕ} → first (λ i. not (follows s x i)) 0 16 ≡ Some v → refused 7 v 0 ≡ tried (commit_steps s x mark)
          unfolding commit_steps in_order
          apart {v} e =
              let f = was_first (λ i. not (follows s x i)) 0 16 e in
              rw (eq-eqb (length x) size l, w, eq-eqb mark 1 m, n, some_fails (follows s x) 16 v (sym f.0) (λ q. omega (arith, f.1)), f.0)

          pub passes : first (λ i. not (follows s x i)) 0 16 ≡ None → accepted tt ≡ tried (commit_steps s x mark)
          unfolding commit_steps in_order
          passes e =
              let f = was_none (λ i. not (follows s x i)) 0 16 e in
              rw (eq-eqb (length x) size l, w, eq-eqb mark 1 m, n, none_fails (follows s x) 16 16 (sym f) (omega arith))

  -- A record that passes has its length, and one of the sixteen users for its owner.
  pub owned : accepted tt ≡ tried (commit_steps s x mark) → (length x ≡ size) × (owner x < 16)
  unfolding commit_steps
  owned e =
      let p = (passed (commit_steps s x mark) (sym e)).0 in
      let l : length x ≡ size = eqb-true (length x) size (unless_passed (eqb (length x) size) 2 0 0 p.0) in
      (l, owner_below s.users x l (unless_passed (well_formed s.users x) 3 0 0 p.1.0))
