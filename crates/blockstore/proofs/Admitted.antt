-- What is known of a store that is admitted.
use Prim.Native.Nat.{ℕ, ◌≤◌, ◌<◌}
use mathlib.Core.Bool.{Bool, true, false, not}
use mathlib.Core.List.{List}
use mathlib.Core.Path.{◌≡◌, sym, ap, ◌∙◌}
use native.Mathlib.Omega.{arith}
use lib.Dec.{leb, eqb}
use lib.ListN.{length}
use borrow.Author.Tests.{leb-true, eqb-true, le-leb, lt-leb, eq-eqb, ne_eqb}
use Rattle.std.specs.Prelude.{Result, Ok, None, Some}
use Rattle.search.specs.Search.{first}
use Rattle.search.proofs.Search.{some_fails, none_fails}
use Rattle.search.proofs.Place.{was_first, was_none}
use Rattle.refusal.specs.Answer.{accepted, refused}
use Rattle.refusal.specs.Order.{in_order, tried}
use Rattle.refusal.specs.Refusal.{said}
use Rattle.refusal.specs.declared.Refusal.{Refusal}
use Rattle.refusal.proofs.Order.{Passing, passed, unless_passed}
use Rattle.store.specs.Place.{store_size, place, block_length}
use Rattle.blockstore.specs.Internal.Stages.{admit_steps}

pub record Admitted (s : List ℕ) (u : ℕ) (fits : Bool) : Type 0 where
  pub user : u ≤ 15
  pub long : length s ≡ store_size
  pub fitting : fits ≡ true

module _ (s : List ℕ) (u : ℕ) (fits : Bool) where
  passing_admits : Passing (admit_steps s u fits) → Admitted s u fits
  unfolding admit_steps
  passing_admits w =
      record {
        user = leb-true u 15 (unless_passed (leb u 15) 1 0 0 w.0);
        long = eqb-true (length s) store_size (unless_passed (eqb (length s) store_size) 2 0 0 w.1.0);
        fitting = unless_passed fits 2 0 0 w.1.1.0;
      }

  pub admitted : (c : Result Unit Refusal) → said c ≡ tried (admit_steps s u fits) → {v : Unit {0}} → c ≡ Ok v → Admitted s u fits
  admitted c e p = passing_admits (passed (admit_steps s u fits) (sym e ∙ ap said p)).0

-- The answer of the admission, test by test.
module _ (s : List ℕ) (u : ℕ) (fits : Bool) where
  pub no_user : 15 < u → tried (admit_steps s u fits) ≡ refused 1 0 0
  unfolding admit_steps in_order
  no_user h = rw (lt-leb u 15 h)

  module _ (h : u ≤ 15) where
    pub other_length : (length s ≡ store_size → ⊥) → tried (admit_steps s u fits) ≡ refused 2 0 0
    unfolding admit_steps in_order
    other_length n = rw (le-leb u 15 h, ne_eqb (length s) store_size n)

    module _ (long : length s ≡ store_size) where
      pub unfitting : fits ≡ false → tried (admit_steps s u fits) ≡ refused 2 0 0
      unfolding admit_steps in_order
      unfitting f = rw (le-leb u 15 h, eq-eqb (length s) store_size long, f)

      module _ (f : fits ≡ true) where
        abbrev fit : ℕ → Bool
        fit p = leb (block_length (place s p)) 8192

        pub unfit_place : {p : ℕ} → first (λ q. not (fit q)) 0 64 ≡ Some p → tried (admit_steps s u fits) ≡ refused 3 p 0
        unfolding admit_steps in_order
        unfit_place e =
            let w = was_first (λ q. not (fit q)) 0 64 e in
            let t = some_fails fit 64 _ (sym w.0) (λ z. omega (arith, w.1)) in
            rw (le-leb u 15 h, eq-eqb (length s) store_size long, f, t, w.0)

        pub admits : first (λ q. not (fit q)) 0 64 ≡ None → tried (admit_steps s u fits) ≡ accepted tt
        unfolding admit_steps in_order
        admits e =
            let w = was_none (λ q. not (fit q)) 0 64 e in
            let t = none_fails fit 64 _ (sym w) (omega arith) in
            rw (le-leb u 15 h, eq-eqb (length s) store_size long, f, t)
