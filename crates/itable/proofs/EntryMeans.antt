-- What a table's own answer means, in plain quantifiers. At most one file has a number, as the numbers ascend.
use Prim.Native.Nat.{ℕ, ◌<◌}
use mathlib.Core.List.{List}
use mathlib.Core.Logic.{◌⊎◌, inl, inr, ⊎_elim}
use mathlib.Core.Path.{◌≡◌, sym, ap, ◌∙◌}
use native.Mathlib.Decide.{dec_lt}
use native.Mathlib.Omega.{arith}
use lib.Dec.{eqb}
use borrow.Author.Tests.{eqb-true, eqb-false}
use Rattle.search.specs.Search.{find}
use Rattle.search.proofs.Search.{Found}
use Rattle.search.proofs.Search as search
use Rattle.itable.specs.Table.{Level}
use Rattle.itable.specs.Lookup.{found, absent, entry_of}
use Rattle.itable.specs.Answers.{IsTable, Means, EntryMeans}
use Rattle.itable.proofs.Place.{ascends_lt, entry_found, entry_absent}

module _ (T : Level) (t : IsTable T) (i : ℕ) where
  some_or_none : ((j : ℕ) × (j < T.count) × (T.number j ≡ i)) ⊎ ((j : ℕ) → j < T.count → T.number j ≡ i → ⊥)
  some_or_none =
      let f : Found (λ j. eqb (T.number j) i) 0 T.count (find (λ j. eqb (T.number j) i) 0 T.count) =
      search.found (λ j. eqb (T.number j) i) 0 T.count in
      elim (dec_lt (find (λ j. eqb (T.number j) i) 0 T.count) T.count) [
        | yes l ↦ inl (find (λ j. eqb (T.number j) i) 0 T.count, l, eqb-true _ _ (f.hit (omega arith)))
        | no l ↦ inr (λ j h. eqb-false (T.number j) i (f.before j (omega arith) (omega arith)))
      ]

  at_found : (j : ℕ) → j < T.count → T.number j ≡ i → entry_of T i ≡ found (T.value j)
  at_found j h e =
      entry_found T.number T.value T.count i j h
      (λ m l w. let r : T.number m < T.number j = ascends_lt T t.ascends m j l h in omega arith) e

  none_found : ((j : ℕ) → j < T.count → T.number j ≡ i → ⊥) → entry_of T i ≡ absent
  none_found = entry_absent T.number T.value T.count i

  apart : {A : Type 0} {h : List ℕ} → found h ≡ absent → A
  apart e = let z : ◌≡◌ {A = ℕ} 0 1 = cc in absurd (omega arith)

  means : Means T i
  means =
      record {
        present = λ handle. (
          λ e.
              ⊎_elim
              (λ x.
              let g : found (T.value x.0) ≡ found handle = sym (at_found x.0 x.1 x.2) ∙ e in
              (x.0, x.1, x.2, cc))
              (λ n. apart (sym e ∙ none_found n))
              some_or_none,
          λ x. at_found x.0 x.1 x.2 ∙ ap found x.3,
        );
        missing = (λ e j h n. apart (sym (at_found j h n) ∙ e), none_found);
      }

pub entry_means : EntryMeans
entry_means T t i = means T t i
