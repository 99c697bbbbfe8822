-- What one block says, by cases: each test that is passed or failed, with the answer that follows.
use Prim.Native.Nat.{ℕ, suc}
use mathlib.Core.Bool.{true, false}
use mathlib.Core.List.{List}
use mathlib.Core.Path.{◌≡◌, sym, ap, ◌∙◌}
use native.Mathlib.Numerals.{add-one}
use native.Mathlib.Omega.{arith}
use lib.Dec.{eqb}
use lib.ListN.{length}
use Rattle.std.specs.Prelude.{Option, None, Some, Ok, Err}
use Rattle.search.specs.Search.{first}
use Rattle.search.proofs.Place.{was_first, was_none}
use Rattle.layout.specs.Strings.{same}
use Rattle.refusal.specs.Order.{in_order}
use Rattle.refusal.specs.declared.Refusal.TheVariants.{WrongHash, Malformed}
use Rattle.sha256.specs.Sha256.{sha256}
use Rattle.sha256.specs.Hash.{is_hash}
use Rattle.sha256.proofs.Laws.{is_hash_means}
use Rattle.itable.specs.Block.{size, kind, used, number, value, well_formed}
use Rattle.itable.specs.declared.Link.{Link}
use Rattle.itable.specs.Lookup.{last_at_most, known}
use Rattle.itable.proofs.Consult.{answer_leaf, answer_none, answer_on}
use Rattle.itable.proofs.Place.{entry_first, entry_past}
use Rattle.block.specs.Place.{one_more}
use Rattle.lookup.specs.Internal.Step.{Searched, Consulted}
use Rattle.lookup.specs.declared.Step.{Step}
use Rattle.lookup.specs.declared.Step.TheVariants.{Ends, Leads}

-- A leaf: the slot is the first of the used ones with the number, or none is.
pub leaf_ends :
    (b : List ℕ) (i : ℕ) → kind b ≡ 3 → (slot : Option ℕ) → slot ≡ first (λ m. eqb (number b m) i) 0 (used b) → Searched b i (Ends slot)
leaf_ends b i k (Some j) e =
    let w = was_first _ 0 _ (sym e) in
    record { says = λ left d on. answer_leaf b i left d on k ∙ ap (known left d) (entry_first (number b) (value b) (used b) i j (sym w.0) (omega (arith, w.1))) }
leaf_ends b i k None e =
    let w = was_none _ 0 _ (sym e) in
    record { says = λ left d on. answer_leaf b i left d on k ∙ ap (known left d) (entry_past (number b) (value b) (used b) i _ (sym w) (omega arith)) }

-- An inner block: the last slot whose number is at most i leads on, if there is one.
module _ (b : List ℕ) (i : ℕ) (k : kind b ≡ 3 → ⊥) (slot : Option ℕ) (e : one_more slot ≡ last_at_most (number b) i (used b)) where
  pub inner_ends : slot ≡ None → Searched b i (Ends None)
  inner_ends z = record { says = λ left d on. answer_none b i left d on k (sym e ∙ ap one_more z) }

  pub inner_leads : {j : ℕ} → slot ≡ Some j → Searched b i (Leads j)
  inner_leads {j} s = record { says = λ left d on. answer_on b i left d on j k (sym e ∙ (ap one_more s ∙ add-one j)) }

-- The block where a link leads to it: its hash, then its form.
module _ (b : List ℕ) (l : length b ≡ size) (k : Link) (i d : ℕ) where
  hashed : same (sha256 b) k.hash ≡ is_hash b k.hash
  hashed = sym (is_hash_means b k.hash (omega arith))

  pub other_hash : is_hash b k.hash ≡ false → Consulted b k i d (Err (WrongHash d))
  unfolding in_order
  other_hash e = record { says = λ left on. rw (hashed, e) }

  module _ (e : is_hash b k.hash ≡ true) where
    pub not_formed : well_formed k b ≡ false → Consulted b k i d (Err (Malformed d))
    unfolding in_order
    not_formed f = record { says = λ left on. rw (hashed, e, f) }

    pub searched : well_formed k b ≡ true → {r : Step} → Searched b i r → Consulted b k i d (Ok r)
    unfolding in_order
    searched f s = record { says = λ left on. rw (hashed, e, f) (s.says left (suc d) on) }
