-- One block whose hash fits, by cases: it is not well formed; a slot of it leads on; or the answer is known there.
use Prim.Native.Nat.{ℕ, suc, ◌+◌, ◌≤◌, ◌<◌}
use mathlib.Core.Bool.{true, false}
use mathlib.Core.List.{List}
use mathlib.Core.Path.{◌≡◌, sym, ap, ◌∙◌}
use native.Mathlib.Numerals.{add-one}
use native.Mathlib.Omega.{arith}
use Rattle.std.specs.Prelude.{Option, None, Some, Result, Ok, Err}
use Rattle.refusal.specs.Answer.{Answer}
use Rattle.refusal.specs.Order.{in_order}
use Rattle.refusal.specs.declared.Refusal.{Refusal}
use Rattle.refusal.specs.declared.Refusal.TheVariants.{Malformed, PathLength}
use Rattle.itable.specs.Block.{well_formed}
use Rattle.itable.specs.declared.Link.{Link}
use Rattle.itable.specs.Lookup.{Entry, known, leading}
use Rattle.itable.specs.Internal.Many.{entry_at, leads_at}
use Rattle.itable.proofs.Consult.{known_over, known_last}
use Rattle.itable.proofs.Many.{answer_at_is}
use Rattle.block.specs.Place.{one_more}
use Rattle.many.specs.Internal.Walk.{Consulted, following}

module _ (b : List ℕ) (k : Link) (i left d : ℕ) where
  pub not_formed : well_formed k b ≡ false → Consulted b k i left d (Err (Malformed d))
  unfolding in_order
  not_formed f = record { says = λ on. rw f; last = λ q. cc }

  module _ (f : well_formed k b ≡ true) where
    formed :
        (r : Result (Option ℕ) Refusal) →
        ((on : ℕ → Answer Entry) → leading (leads_at b i) (known left (suc d) (entry_at b i)) on ≡ following r (entry_at b i) on) →
        (r ≡ Ok None → left ≡ 0) → Consulted b k i left d r
    unfolding in_order
    formed r g l = record { says = λ on. rw f (answer_at_is b i left (suc d) on ∙ g on); last = l }

    module _ (o : Option ℕ) (e : one_more o ≡ leads_at b i) where
      pub leads_on : {j : ℕ} → o ≡ Some j → Consulted b k i left d (Ok (Some j))
      leads_on {j} h =
          let g : leads_at b i ≡ suc j = sym e ∙ (ap one_more h ∙ add-one j) in formed (Ok (Some j)) (λ on. rw g) (λ q. cc)

      module _ (h : o ≡ None) where
        ends : leads_at b i ≡ 0
        ends = sym e ∙ ap one_more h

        pub over : 0 < left → Consulted b k i left d (Err (PathLength (d + 1)))
        over l = formed (Err (PathLength (d + 1))) (λ on. rw (ends, known_over left (suc d) (entry_at b i) l, add-one d)) (λ q. cc)

        pub known_here : left ≤ 0 → Consulted b k i left d (Ok None)
        known_here l = formed (Ok None) (λ on. rw (ends, known_last left (suc d) (entry_at b i) l)) (λ q. omega arith)
