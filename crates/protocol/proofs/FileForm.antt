-- Laws of a memory file: its form as a condition, what it holds, and how long that is.
use Prim.Native.Nat.{ℕ, ◌≤◌, ◌<◌}
use mathlib.Core.Bool.{Bool, true, cond, ◌&&◌}
use mathlib.Core.List.{List, []}
use mathlib.Core.Logic.{◌⊎◌, ◌↔◌, inl, inr, ⊎_elim}
use mathlib.Core.Path.{◌≡◌, ap, ◌∙◌}
use native.Mathlib.Decide.{ℕ_discrete}
use native.Mathlib.Omega.{arith}
use lib.Dec.{leb, eqb}
use lib.ListN.{length, get_or, length-drop}
use borrow.Author.Tests.{leb-true, eqb-true, le-leb, eq-eqb, ne_eqb}
use Rattle.search.proofs.Bool.{bool_cases, both_true}
use Rattle.search.proofs.Search.{every_at, every_intro}
use Rattle.layout.specs.Strings.{zeros}
use Rattle.protocol.specs.Version.{size, owner, well_formed}
use Rattle.protocol.specs.Check.{remembers}
use Rattle.protocol.specs.MemoryFile.{file_size, file_kind, state, behind, held, own_formed, formed}
use Rattle.protocol.specs.Meaning.{Remembered}
use Rattle.protocol.specs.MemoryMeaning.{OwnFormed, Stated, is_sent, is_pending, is_none, Formed}
use Rattle.protocol.proofs.Conditions.{both_intro, well_formed_means, remembers_means}

pub own_formed_is : (N u : ℕ) (x : List ℕ) → (own_formed N u x ≡ true) ↔ OwnFormed N u x
own_formed_is N u x = (
  λ e. let p = both_true (well_formed N x) (eqb (owner x) u) e in ((well_formed_means N x).0 p.0, eqb-true (owner x) u p.1),
  λ w. both_intro (well_formed N x) (eqb (owner x) u) ((well_formed_means N x).1 w.0) (eq-eqb (owner x) u w.1),
)

-- In state 2 nothing is held, and in any other what is behind the state.
pub held_none : (f : List ℕ) → state f ≡ 2 → held f ≡ []
unfolding held
held_none f e = rw (eq-eqb (state f) 2 e)

pub held_behind : (f : List ℕ) → (state f ≡ 2 → ⊥) → held f ≡ behind f
unfolding held
held_behind f n = rw (ne_eqb (state f) 2 n)

zeros_mean : (f : List ℕ) → (zeros f 2 size ≡ true) ↔ ((i : ℕ) → 2 ≤ i → i < file_size → get_or f i 0 ≡ 0)
unfolding zeros
zeros_mean f = (
  λ t i a b. eqb-true (get_or f i 0) 0 (every_at (λ i. eqb (get_or f i 0) 0) 2 size t i a (omega arith)),
  λ w. every_intro (λ i. eqb (get_or f i 0) 0) 2 size (λ i a b. eq-eqb (get_or f i 0) 0 (w i a (omega arith))),
)

module _ (N u : ℕ) (f : List ℕ) where
  abbrev behind_test : Bool
  behind_test = cond (eqb (state f) 2) (zeros f 2 size) (leb (state f) 1 && own_formed N u (behind f))

  stated : behind_test ≡ true → Stated N u f
  stated t =
      ⊎_elim (λ e. is_none (eqb-true (state f) 2 e) ((zeros_mean f).0 (rw e at t)))
      (λ e.
      let p = both_true (leb (state f) 1) (own_formed N u (behind f)) (rw e at t) in
      let own = (own_formed_is N u (behind f)).0 p.1 in
      let small = leb-true (state f) 1 p.0 in
      elim (ℕ_discrete (state f) 0) [ yes z ↦ is_sent z own | no n ↦ is_pending (omega arith) own ])
      (bool_cases (eqb (state f) 2))

  of_structure : (state f ≡ 2 → ⊥) → state f ≤ 1 → OwnFormed N u (behind f) → behind_test ≡ true
  of_structure n l w =
      rw (ne_eqb (state f) 2 n) (both_intro (leb (state f) 1) (own_formed N u (behind f)) (le-leb (state f) 1 l) ((own_formed_is N u (behind f)).1 w))

  tested : Stated N u f → behind_test ≡ true
  tested (is_sent e w) = of_structure (λ z. omega arith) (omega arith) w
  tested (is_pending e w) = of_structure (λ z. omega arith) (omega arith) w
  tested (is_none e z) = rw (eq-eqb (state f) 2 e) ((zeros_mean f).1 z)

  pub formed_means : (formed N u f ≡ true) ↔ Formed N u f
  unfolding formed
  formed_means = (
    λ e. let p = both_true (eqb (file_kind f) 7) behind_test e in (eqb-true (file_kind f) 7 p.0, stated p.1),
    λ w. both_intro (eqb (file_kind f) 7) behind_test (eq-eqb (file_kind f) 7 w.0) (tested w.1),
  )

  -- What a formed file holds is remembered: none, or the user's own structure.
  stated_remembered : Stated N u f → Remembered N u (held f)
  stated_remembered (is_sent e own) = rw (held_behind f (λ z. omega arith)) (inr own)
  stated_remembered (is_pending e own) = rw (held_behind f (λ z. omega arith)) (inr own)
  stated_remembered (is_none e z) = inl (held_none f e)

  pub formed_remembered : Formed N u f → Remembered N u (held f)
  formed_remembered w = stated_remembered w.1

  pub formed_remembers : formed N u f ≡ true → remembers N u (held f) ≡ true
  formed_remembers t = (remembers_means N u (held f)).1 (formed_remembered (formed_means.0 t))

-- It is none or 98 bytes long.
pub held_length : (f : List ℕ) → length f ≡ file_size → (length (held f) ≡ 0) ⊎ (length (held f) ≡ size)
held_length f e =
    elim (ℕ_discrete (state f) 2) [
      | yes z ↦ inl (ap length (held_none f z))
      | no n ↦ inr (ap length (held_behind f n) ∙ (length-drop 2 f ∙ omega arith))
    ]
