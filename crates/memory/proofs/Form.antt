-- A file is well formed by its kind, its state and what is behind them: which test fails, or what the last one says. Kind and state are
-- as they were read.
use Prim.Native.Nat.{ℕ, ◌<◌, ◌≤◌}
use mathlib.Core.Bool.{Bool, false}
use mathlib.Core.List.{List, []}
use mathlib.Core.Path.{◌≡◌, sym}
use borrow.Author.Tests.{eq-eqb, ne_eqb, le-leb, lt-leb}
use lib.ListN.{drop}
use Rattle.layout.specs.Strings.{zeros}
use Rattle.protocol.specs.MemoryFile.{file_kind, state, held, own_formed, formed}

module _ (N u : ℕ) (f : List ℕ) (k : ℕ) (ek : k ≡ file_kind f) where
  pub other_kind : (k ≡ 7 → ⊥) → false ≡ formed N u f
  unfolding formed
  other_kind h = rw (sym ek, ne_eqb k 7 h)

  module _ (h : k ≡ 7) (s : ℕ) (es : s ≡ state f) where
    pub of_none : s ≡ 2 → (r : Bool) → r ≡ zeros f 2 98 → r ≡ formed N u f
    unfolding formed
    of_none t r e = rw (sym ek, sym es, eq-eqb k 7 h, eq-eqb s 2 t) e

    module _ (n : s ≡ 2 → ⊥) where
      pub no_state : 1 < s → false ≡ formed N u f
      unfolding formed
      no_state l = rw (sym ek, sym es, eq-eqb k 7 h, ne_eqb s 2 n, lt-leb s 1 l)

      pub of_some : s ≤ 1 → (r : Bool) → r ≡ own_formed N u (drop 2 f) → r ≡ formed N u f
      unfolding formed
      of_some l r e = rw (sym ek, sym es, eq-eqb k 7 h, ne_eqb s 2 n, le-leb s 1 l) e

-- What a file holds, by its state.
module _ (f : List ℕ) (s : ℕ) (e : s ≡ state f) where
  pub none_held : s ≡ 2 → [] ≡ held f
  unfolding held
  none_held h = rw (sym e, eq-eqb s 2 h)

  pub some_held : (s ≡ 2 → ⊥) → {x : List ℕ} → x ≡ drop 2 f → x ≡ held f
  unfolding held
  some_held n w = rw (sym e, ne_eqb s 2 n) w
