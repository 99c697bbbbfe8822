-- Bounds: the one below a slot, by cases; and of numbers that ascend the last tells whether all are below one.
use Prim.Native.Nat.{ℕ, suc, ◌-◌, ◌≤◌, ◌<◌}
use mathlib.Core.Bool.{true}
use mathlib.Core.List.{List}
use mathlib.Core.Logic.{⊎_elim}
use mathlib.Core.Path.{◌≡◌, sym, ◌∙◌}
use native.Mathlib.Nat.{eq-or-lt_of_le}
use native.Mathlib.Numerals.{add-one}
use native.Mathlib.Omega.{arith}
use lib.Dec.{ltb}
use borrow.Author.Tests.{ltb-true, lt-ltb, le-ltb}
use Rattle.search.specs.Search.{every}
use Rattle.search.proofs.Bool.{bool_cases}
use Rattle.search.proofs.Search.{every_intro, every_fails}
use Rattle.itable.specs.Block.{used, number, value, ascending, child_bound}
use Rattle.itable.specs.Table.{Level}
use Rattle.itable.proofs.BlockMeaning.{ascending_means}
use Rattle.itable.proofs.Place.{ascends_lt}

module _ (bound : ℕ) (b : List ℕ) (j : ℕ) where
  pub next_bounds : suc j < used b → child_bound bound b j ≡ number b (suc j)
  unfolding child_bound
  next_bounds h = rw (add-one j, lt-ltb (suc j) (used b) h)

  pub last_hands_down : used b ≤ suc j → child_bound bound b j ≡ bound
  unfolding child_bound
  last_hands_down h = rw (add-one j, le-ltb (suc j) (used b) h)

-- The used slots as a level.
abbrev pub slots_of : List ℕ → Level
slots_of b = record { count = used b; number = number b; value = value b }

module _ (bound : ℕ) (b : List ℕ) (asc : ascending b ≡ true) (some : 0 < used b) where
  below_last : number b (used b - 1) < bound → (j : ℕ) → j < used b → number b j < bound
  below_last l j h =
      ⊎_elim (λ e. rw e l)
      (λ m.
      let r : number b j < number b (used b - 1) = ascends_lt (slots_of b) ((ascending_means b).0 asc) j (used b - 1) m (omega arith) in
      omega arith)
      (eq-or-lt_of_le {n = j} {m = used b - 1} (omega arith))

  pub last_tells : ltb (number b (used b - 1)) bound ≡ every (λ j. ltb (number b j) bound) 0 (used b)
  last_tells =
      ⊎_elim
      (λ t.
      t ∙
      sym
      (every_intro (λ j. ltb (number b j) bound) 0 (used b)
      (λ j a l. lt-ltb (number b j) bound (below_last (ltb-true (number b (used b - 1)) bound t) j (omega arith)))))
      (λ f. f ∙ sym (every_fails (λ j. ltb (number b j) bound) 0 (used b) (used b - 1) (omega arith) (omega arith) f))
      (bool_cases (ltb (number b (used b - 1)) bound))
