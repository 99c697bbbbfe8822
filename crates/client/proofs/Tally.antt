-- The next structure's counts, filled in from the last record to the first: what stands for user v is the own count in v's first record
-- among those passed.
use Prim.Native.Nat.{ℕ, suc, ◌+◌, ◌*◌, ◌-◌, ◌<◌}
use mathlib.Core.Bool.{Bool}
use mathlib.Core.List.{List, []}
use mathlib.Core.Logic.{⊎_elim}
use mathlib.Core.Path.{◌≡◌, sym, ◌∙◌}
use native.Mathlib.Omega.{arith}
use borrow.Author.Tests.{eqb-true, eqb-false}
use lib.Dec.{eqb}
use lib.ListN.{length, get_or, set, replicate, length-set, get_or-replicate}
use lib.Seq.{get_or-set_same, get_or-set_other, ext_get_or}
use Rattle.search.specs.Search.{find}
use Rattle.search.proofs.Bool.{bool_cases}
use Rattle.search.proofs.Search.{find_at}
use Rattle.layout.proofs.Bytes.{four_past}
use Rattle.layout.proofs.Parts.{part_past}
use Rattle.layout.proofs.Values.{length_values, value_at}
use Rattle.protocol.specs.Version.{owner, count}
use Rattle.protocol.specs.List.{records, record_at, entry}
use Rattle.protocol.specs.Check.{next_count, next_counts}

module _ (list : List ℕ) where
  abbrev owns : ℕ → ℕ → Bool
  owns v m = eqb (owner (record_at list m)) v

  -- The own count in v's first record from place i on.
  abbrev pub own_from : ℕ → ℕ → ℕ
  own_from i v = count (record_at list (find (owns v) i (records list - i))) v

  pub none_passed : 98 * records list ≡ length list → (v : ℕ) → v < 16 → get_or (replicate 16 0) v 0 ≡ own_from (records list) v
  unfolding find
  none_passed w v h =
      let z : records list - records list ≡ 0 = omega arith in
      rw (z, part_past 98 list (records list) (omega arith), four_past [] (34 + 4 * v) (omega arith)) (get_or-replicate {A = ℕ} 16 v 0 0 h)

  module _ (cs : List ℕ) (i o x : ℕ) (h : i < records list) (l : length cs ≡ 16) where
    pub one_passed :
        owner (record_at list i) ≡ o → o < 16 → x ≡ count (record_at list i) o → ((v : ℕ) → v < 16 → get_or cs v 0 ≡ own_from (i + 1) v) →
        (v : ℕ) → v < 16 → get_or (set cs o x) v 0 ≡ own_from i v
    unfolding find
    one_passed e lo ex below v lv =
        ⊎_elim
        (λ t.
        let q : o ≡ v = sym e ∙ eqb-true (owner (record_at list i)) v t in
        rw (find_at (owns v) i (records list - i) i (omega arith) (omega arith) (λ j a b. absurd (omega arith)) t, ← q)
        (get_or-set_same cs o x 0 (omega arith) ∙ ex))
        (λ f.
        let ne : o ≡ v → ⊥ = λ q. eqb-false (owner (record_at list i)) v f (e ∙ q) in
        let k : records list - i ≡ suc (records list - (i + 1)) = omega arith in
        let s : suc i ≡ i + 1 = omega arith in
        rw (get_or-set_other cs o v x 0 (λ q. ne (sym q)), k, find, f, s) (below v lv))
        (bool_cases (owns v i))

  pub all_passed :
      (u : ℕ) (mem cs : List ℕ) (x : ℕ) → length cs ≡ 16 → u < 16 → x ≡ count mem u + 1 →
      ((v : ℕ) → v < 16 → get_or cs v 0 ≡ own_from 0 v) → set cs u x ≡ next_counts u mem list
  unfolding next_counts entry
  all_passed u mem cs x l lu ex below =
      ext_get_or 0 (set cs u x) _ (length-set cs u x ∙ (l ∙ sym (length_values f 0 16)))
      (λ v h. let k : v < 16 = omega (arith, length-set cs u x) in here v k ∙ sym (value_at f 16 v k))
    where
      f : ℕ → ℕ
      f = next_count u mem list

      here : (v : ℕ) → v < 16 → get_or (set cs u x) v 0 ≡ f v
      here v h =
          ⊎_elim
          (λ t. let q : v ≡ u = eqb-true v u t in rw t (rw q (get_or-set_same cs u x 0 (omega arith) ∙ ex)))
          (λ n.
          let z : records list - 0 ≡ records list = omega arith in
          rw n (get_or-set_other cs u v x 0 (eqb-false v u n) ∙ (rw z at (below v h))))
          (bool_cases (eqb v u))
