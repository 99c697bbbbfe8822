-- Block by block the two lookups are given one link, but for its bound, so that they differ first where a block is not below its bound.
use Prim.Native.Nat.{ℕ, zero, suc, ◌<◌}
use mathlib.Core.Bool.{Bool, true, false}
use mathlib.Core.List.{List, [], ◌∷◌}
use mathlib.Core.Logic.{◌⊎◌, inl, inr, ⊎_elim}
use mathlib.Core.Path.{◌≡◌, refl, ◌∙◌}
use native.Mathlib.Omega.{arith}
use lib.Dec.{eqb}
use Rattle.search.proofs.Bool.{bool_cases, not_both}
use Rattle.layout.specs.Bytes.{part, parts}
use Rattle.layout.specs.Strings.{same}
use Rattle.refusal.specs.Answer.{Answer}
use Rattle.refusal.specs.Order.{Step, pass, stop, unless, in_order}
use Rattle.sha256.specs.Sha256.{sha256}
use Rattle.itable.specs.Block.{size, kind, used, number, to_root, to_child, well_formed}
use Rattle.itable.specs.declared.Link.{Link}
use Rattle.itable.specs.Lookup.{Entry, absent, last_at_most, known, leading, answer_at, consult, path_steps, lookup}
use Rattle.itable.specs.Before.{unbounded, consult_before, lookup_before, OrThree, DiffersByThree}
use Rattle.itable.proofs.BlockMeaning.{formed_means}

module _ (on before : ℕ → Answer Entry) (f : (j : ℕ) → OrThree (on j) (before j)) where
  led : (n : ℕ) (none : Answer Entry) → OrThree (leading n none on) (leading n none before)
  led zero none = inl refl
  led (suc j) none = f j

  answered : (b : List ℕ) (i left d : ℕ) → OrThree (answer_at b i left d on) (answer_at b i left d before)
  unfolding answer_at
  answered b i left d =
      ⊎_elim (λ e. rw e (inl refl)) (λ e. rw e (led (last_at_most (number b) i (used b)) (known left d absent)))
      (bool_cases (eqb (kind b) 3))

module _ (k : Link) (b : List ℕ) where
  -- A block that is well formed is so without a bound too; and where there is none, the links are one.
  looser : well_formed k b ≡ true → well_formed (unbounded k) b ≡ true
  looser e =
      let w = (formed_means k b).0 e in
      (formed_means (unbounded k) b).1
      (record {
        root_kind = w.root_kind;
        child_kind = w.child_kind;
        at_most = w.at_most;
        empty = w.empty;
        ascending = w.ascending;
        unused_is_zero = w.unused_is_zero;
        first_number = w.first_number;
        below = λ z. absurd (z refl);
      })

  as_unbounded : k.bound ≡ 0 → well_formed k b ≡ well_formed (unbounded k) b
  unfolding well_formed
  as_unbounded z = rw z

-- Both in order: a block's hash, then its form by either rule.
tested :
    (s w v : Bool) (d : ℕ) (now before : Answer Entry) → (w ≡ true → v ≡ true) → (w ≡ false → v ≡ true → 0 < d) → OrThree now before →
    OrThree (in_order (unless s 8 d 0 ∷ unless w 3 d 0 ∷ []) now) (in_order (unless s 8 d 0 ∷ unless v 3 d 0 ∷ []) before)
unfolding in_order
tested false w v d now before f g r = inl refl
tested true true true d now before f g r = r
tested true true false d now before f g r = absurd (not_both (f refl) refl)
tested true false true d now before f g r = inr (d, g refl refl, refl)
tested true false false d now before f g r = inl refl

module _ (path : List ℕ) (i : ℕ) where
  consulted : (left d : ℕ) (k : Link) → (k.bound ≡ 0) ⊎ (0 < d) → OrThree (consult path i left d k) (consult_before path i left d (unbounded k))
  unfolding consult consult_before
  consulted zero d k p = inl refl
  consulted (suc left) d k p =
      let b : List ℕ = part size path d in
      tested (same (sha256 b) k.hash) (well_formed k b) (well_formed (unbounded k) b) d _ _ (looser k b)
      (λ e g. ⊎_elim (λ z. absurd (not_both (as_unbounded k b z ∙ g) e)) (λ q. q) p)
      (answered _ _ (λ j. consulted left (suc d) (to_child k b j) (inr (omega arith))) b i left (suc d))

through : (ts : List Step) (now before : Answer Entry) → OrThree now before → OrThree (in_order ts now) (in_order ts before)
unfolding in_order
through [] now before r = r
through (pass ∷ ts) now before r = through ts now before r
through (stop n p q ∷ ts) now before r = inl refl

pub differs_by_three : DiffersByThree
unfolding lookup lookup_before
differs_by_three handle i path =
    through (path_steps handle path) _ _ (consulted path i (parts size path) 0 (to_root handle) (inl refl))
