-- The structure that a user makes next in a steady state comes strictly after everything held: it counts one operation more of its user, and
-- of each other user those held, and nothing held counts more than that.
use Prim.Native.Nat.{ℕ, ◌+◌, ◌≤◌, ◌<◌}
use mathlib.Core.List.{List}
use mathlib.Core.Logic.{⊎_elim}
use mathlib.Core.Path.{◌≡◌, refl, ap, ◌∙◌}
use native.Mathlib.Decide.{ℕ_discrete}
use native.Mathlib.Omega.{arith}
use lib.ListN.{length, get_or}
use Rattle.protocol.specs.declared.Server.{Server}
use Rattle.protocol.specs.Version.{size, kind, owner, count, structure}
use Rattle.protocol.specs.List.{entry}
use Rattle.protocol.specs.Check.{next_counts}
use Rattle.protocol.specs.Server.{held, held_own, all_held}
use Rattle.protocol.specs.Meaning.{StrictlyBefore}
use Rattle.protocol.specs.Steady.{Proper, Steady}
use Rattle.protocol.proofs.Version.{length_structure, count_structure, owner_structure}
use Rattle.protocol.proofs.NewMeans as New
use Rattle.protocol.proofs.Held.{count_none}
use Rattle.protocol.proofs.Listing.{Listing, listing_from, entry_held}

-- A user's turn in such a state.
pub record Ready (N : ℕ) (s : Server) (file : ℕ → List ℕ) (u : ℕ) (handle : List ℕ) : Type 0 where
  pub small : N ≤ 16
  pub user : u < N
  pub handled : length handle ≡ 32
  pub steady : Steady N s file

module _ {N : ℕ} {s : Server} {file : ℕ → List ℕ} {u : ℕ} {handle : List ℕ} (r : Ready N s file u handle) where
  pub user_below : u < 16
  user_below = omega (arith, r.small, r.user)

  -- The counts that the user's check gives, on the list of all records held, and the structure that is made from them.
  abbrev pub given_next : List ℕ
  given_next = next_counts u (held s u) (all_held s)

  abbrev pub made_next : List ℕ
  made_next = structure u handle (λ v. get_or given_next v 0)

  pub next_count_is : (v : ℕ) → v < 16 → count made_next v ≡ get_or given_next v 0
  next_count_is v l = count_structure u handle (λ v. get_or given_next v 0) r.handled v l

  pub all_listed : Listing N s 0 16 (all_held s)
  all_listed = listing_from N s r.steady.kept 0 16 (omega arith)

  pub entry_all : (v : ℕ) → v < 16 → entry (all_held s) v ≡ held s v
  entry_all v l = entry_held N s r.steady.kept 0 16 (all_held s) all_listed (omega arith) v (omega arith) l

  pub next_length : length made_next ≡ size
  next_length = length_structure u handle _ r.handled

  pub next_owner : owner made_next ≡ u
  next_owner = owner_structure u handle _ r.handled

  pub next_own : count made_next u ≡ held_own s u + 1
  next_own = next_count_is u user_below ∙ New.next_own u (held s u) (all_held s) user_below

  pub next_other : (v : ℕ) → v < 16 → (v ≡ u → ⊥) → count made_next v ≡ held_own s v
  next_other v l n =
      next_count_is v l ∙ (New.next_other u (held s u) (all_held s) v l n ∙ ap (λ (x : List ℕ). count x v) (entry_all v l))

  grows : (w : ℕ) → w < 16 → held_own s w ≤ count made_next w
  grows w l =
      elim (ℕ_discrete w u) [
        | yes e ↦ rw e (omega (arith, next_own))
        | no n ↦ omega (arith, next_other w l n)
      ]

  -- Every record held is strictly before it.
  pub held_before : (v : ℕ) → v < 16 → StrictlyBefore (held s v) made_next
  held_before v l = (
    λ w m. omega (arith, r.steady.counted v w l m, grows w m),
    (u, user_below, λ e. omega (arith, r.steady.counted v u l user_below, next_own)),
  )

  -- It is well formed.
  next_kind : kind made_next ≡ 1
  unfolding structure
  next_kind = refl

  next_zero : (v : ℕ) → N ≤ v → v < 16 → count made_next v ≡ 0
  next_zero v a l =
      next_other v l (λ e. omega (arith, r.user)) ∙
      ⊎_elim (λ e. ap (λ (x : List ℕ). count x v) e ∙ count_none v)
      (λ p. absurd (omega (arith, p.owned, p.formed.owner_below))) (r.steady.kept v l)

  pub next_proper : Proper N u made_next
  next_proper =
      record {
        whole = next_length;
        owned = next_owner;
        formed = record {
          kind_one = next_kind;
          owner_below = omega (arith, next_owner, r.user);
          own_counted = λ e. omega (arith, next_own, ap (count made_next) next_owner);
          others_zero = next_zero;
        };
      }
