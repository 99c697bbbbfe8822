-- The form of an input as facts about numbers, and where its parts begin.
use Prim.Native.Nat.{ℕ, ◌*◌, ◌-◌, ◌%◌, ◌≤◌}
use mathlib.Core.Bool.{Bool, true, false, cond}
use mathlib.Core.List.{List}
use mathlib.Core.Logic.{⊎_elim}
use mathlib.Core.Path.{◌≡◌, sym}
use native.Mathlib.Omega.{arith}
use borrow.Author.Tests.{leb-true, eqb-true, le-leb, eq-eqb}
use lib.Dec.{leb, eqb}
use lib.ListN.{length, get_or, take, length-drop}
use lib.Seq.{get_or-take}
use Rattle.search.proofs.Bool.{bool_cases, both_true}
use Rattle.input.specs.Form.{flag, behind_memory, sent, records, formed}

pub record Formed (input : List ℕ) : Type 0 where
  pub head : 35 ≤ length input
  pub flagged : flag input ≤ 1
  pub remembered : behind_memory (flag input) ≤ length input
  pub whole : (length input - behind_memory (flag input)) % 99 ≡ 0
  pub short : length input ≤ 1717

least : (t : Bool) → 35 ≤ cond t 133 35
least true = omega arith
least false = omega arith

pub behind_least : (f : ℕ) → 35 ≤ behind_memory f
unfolding behind_memory
behind_least f = least (eqb f 1)

pub is_formed : (input : List ℕ) → Formed input → formed input ≡ true
unfolding formed
is_formed input f =
    let s : length (sent input) ≡ length input - behind_memory (flag input) = length-drop (behind_memory (flag input)) input in
    let w : 99 * records input ≡ length (sent input) = omega (arith, s, f.whole) in
    let n : records input ≤ 16 = omega (arith, s, f.short, behind_least (flag input)) in
    rw (
      le-leb 35 (length input) f.head,
      le-leb (flag input) 1 f.flagged,
      le-leb (behind_memory (flag input)) (length input) f.remembered,
      eq-eqb (99 * records input) (length (sent input)) w,
      le-leb (records input) 16 n,
      le-leb (length input) 1717 f.short,
    )

pub form_facts : (input : List ℕ) → formed input ≡ true → Formed input
unfolding formed
form_facts input e =
    let a = both_true (leb 35 (length input)) _ e in
    let b = both_true (leb (flag input) 1) _ a.1 in
    let c = both_true (leb (behind_memory (flag input)) (length input)) _ b.1 in
    let d = both_true (eqb (99 * records input) (length (sent input))) _ c.1 in
    let s : length (sent input) ≡ length input - behind_memory (flag input) = length-drop (behind_memory (flag input)) input in
    let w : 99 * records input ≡ length (sent input) = eqb-true (99 * records input) (length (sent input)) d.0 in
    record {
      head = leb-true 35 (length input) a.0;
      flagged = leb-true (flag input) 1 b.0;
      remembered = leb-true (behind_memory (flag input)) (length input) c.0;
      whole = omega (arith, s, w);
      short = leb-true (length input) 1717 (both_true (leb (records input) 16) (leb (length input) 1717) d.1).1;
    }

-- An input of which one of the facts fails.
pub not_formed : (input : List ℕ) → (Formed input → ⊥) → false ≡ formed input
not_formed input h = ⊎_elim (λ t. absurd (h (form_facts input t))) (λ f. sym f) (bool_cases (formed input))

-- The flag, read from the front of the input.
pub flag_in : (input head : List ℕ) → head ≡ take 35 input → get_or head 34 0 ≡ flag input
flag_in input head e = rw e (get_or-take 35 input 34 0 (omega arith))
