-- What is known where the writer's tests pass, and what the call answers and leaves by what they said.
use Prim.Native.Nat.{ℕ, ◌+◌, ◌*◌, ◌≤◌}
use mathlib.Core.List.{List, ◌++◌}
use mathlib.Core.Path.{◌≡◌, refl, sym, ap, ◌∙◌}
use native.Mathlib.Omega.{arith}
use lib.Dec.{leb, eqb}
use lib.ListN.{length, drop}
use borrow.Author.Tests.{leb-true, eqb-true}
use Rattle.std.specs.Prelude.{Result, Ok, Err}
use Rattle.std.specs.Result.{IsErrAnd}
use Rattle.refusal.specs.Answer.{accepted}
use Rattle.refusal.specs.Refusal.{said}
use Rattle.refusal.specs.Order.{tried}
use Rattle.refusal.specs.declared.Refusal.{Refusal}
use Rattle.refusal.proofs.Order.{passed, unless_passed}
use Rattle.refusal.proofs.Stage.{tells_on, gives_passed, gives_refused, goes_on_to}
use Rattle.itable.specs.Block.{size}
use Rattle.itable.specs.Table.{files, wide, blocks, written}
use Rattle.itable.specs.Write.{write_steps, blocks_given, writing}
use Rattle.writer.specs.Written.{Writes}
use Rattle.writer.proofs.Whole.{over, rows_are}

-- What is known where the tests pass.
pub record Admitted (nums handles : List ℕ) (room : ℕ) : Type 0 where
  pub few : length nums ≤ 4096
  pub handled : length handles ≡ 32 * length nums
  pub fits : 642 * blocks (length nums) ≤ room

module _ (nums handles o : List ℕ) (c : Result Unit Refusal) (e : said c ≡ tried (write_steps nums handles (length o))) where
  pub admitted_by : {u : Unit {0}} → c ≡ Ok u → Admitted nums handles (length o)
  unfolding write_steps
  admitted_by p =
      let q = (passed (write_steps nums handles (length o)) (sym e ∙ ap said p)).0 in
      record {
        few = leb-true (length nums) 4096 (unless_passed (leb (length nums) 4096) 2 0 0 q.0);
        handled = eqb-true (length handles) (32 * length nums) (unless_passed (eqb (length handles) (32 * length nums)) 2 0 0 q.1.0);
        fits =
            leb-true (size * blocks (length nums)) (length o)
            (unless_passed (leb (size * blocks (length nums)) (length o)) 12 0 0 q.1.1.1.0);
      }

  pub writes_nothing : {r : Refusal} (answer : Result ℕ Refusal) → c ≡ Err r → IsErrAnd answer (λ s. s ≡ r) → Writes nums handles o o answer
  unfolding blocks_given writing
  writes_nothing answer p h =
      record {
        answers = tells_on (write_steps nums handles (length o)) _ refl c e answer p h;
        leaves = (gives_refused (write_steps nums handles (length o)) c e o _ refl p).leaves;
      }

  module _ {u : Unit {0}} (p : c ≡ Ok u) (l f v : ℕ) (el : l ≡ wide (length nums)) (ef : f ≡ over l) (ev : v ≡ over f) where
    pub rows_fit : 642 * (l + f + v) ≤ length o
    rows_fit = let a = admitted_by p in let b = rows_are (length nums) l f v el ef ev in omega (arith, a.fits)

    pub writes_all : (out : List ℕ) → out ≡ written (files nums handles) ++ drop (642 * (l + f + v)) o → Writes nums handles o out (Ok (l + f + v))
    unfolding blocks_given writing
    writes_all out eo =
        let b = rows_are (length nums) l f v el ef ev in
        record {
          answers = ap accepted b ∙ sym (goes_on_to (write_steps nums handles (length o)) _ refl c e p);
          leaves =
              eo ∙
              (ap (λ n. written (files nums handles) ++ drop (642 * n) o) b ∙
              (gives_passed (write_steps nums handles (length o)) c e o _ refl p).leaves);
        }
