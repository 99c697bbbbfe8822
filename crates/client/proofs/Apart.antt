-- Refusal 7: the first pair of which a relation does not hold, as two loops find it; and the relation, as the code compares.
use Prim.Native.Nat.{ℕ, ◌≤◌, ◌<◌}
use mathlib.Core.Bool.{Bool, true, false, ◌||◌}
use mathlib.Core.List.{List, [], ◌∷◌}
use mathlib.Core.Path.{◌≡◌}
use native.Mathlib.Omega.{arith}
use borrow.Author.Tests.{lt-ltb, le-ltb}
use Rattle.layout.specs.Bytes.{values}
use Rattle.search.specs.Pairs.{every_pair, first_low, first_high}
use Rattle.search.proofs.Bool.{not_both}
use Rattle.search.proofs.Pairs.{pairs_intro, first_pair_at}
use Rattle.refusal.specs.Answer.{Answer, accepted, refused}
use Rattle.refusal.specs.Order.{unless, in_order, tried}
use Rattle.protocol.specs.Version.{counts_before, counts_strictly_before}
use Rattle.protocol.specs.List.{records, record_at}
use Rattle.protocol.specs.Check.{ordered}
use Rattle.version.specs.Version.{fields, count_in}
use Rattle.version.proofs.Laws.{before_fields, strictly_values}

module _ (R : ℕ → ℕ → Bool) (n : ℕ) where
  abbrev due : Answer Unit
  due = tried (unless (every_pair R n) 7 (first_low R n) (first_high R n) ∷ [])

  pub apart :
      (i j : ℕ) → i < j → j ≤ n → ((m : ℕ) → m < i → (l : ℕ) → m < l → l ≤ n → R m l ≡ true) →
      ((m : ℕ) → i < m → m < j → R i m ≡ true) → R i j ≡ false → refused 7 i j ≡ due
  unfolding in_order
  apart i j l h lower nearer f =
      let p = first_pair_at R n {i = i} {j = j}
      (record { below = l; within = h; lower = λ k m a b d. lower k a m b d; nearer = nearer; fails = λ t. not_both t f }) in
      rw (p.0, p.1, p.2)

  pub together : ((m : ℕ) → m < n → (l : ℕ) → m < l → l ≤ n → R m l ≡ true) → accepted tt ≡ due
  unfolding in_order
  together h = rw (pairs_intro R n (λ i j a b. h i (omega arith) j a b))

module _ (list : List ℕ) (new : ℕ → ℕ) (x : List ℕ) (i : ℕ) (r : Bool) (ex : x ≡ (fields (record_at list i)).counts) where
  pub compared :
      (j : ℕ) (y : List ℕ) → j < records list → y ≡ (fields (record_at list j)).counts →
      r ≡ (counts_before (count_in x) (count_in y) || counts_before (count_in y) (count_in x)) → ordered list new i j ≡ r
  unfolding ordered
  compared j y h ey e =
      rw (
        lt-ltb j (records list) h,
        e,
        ex,
        ey,
        before_fields (record_at list i) (record_at list j),
        before_fields (record_at list j) (record_at list i),
      )

  pub compared_new :
      (j : ℕ) (y : List ℕ) → records list ≤ j → y ≡ values new 0 16 → r ≡ counts_strictly_before (count_in x) (count_in y) → ordered list new i j ≡ r
  unfolding ordered
  compared_new j y h ey e = rw (le-ltb j (records list) h, e, ex, ey, strictly_values (record_at list i) new)
