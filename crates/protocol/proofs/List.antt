-- Laws of a list's entries: what a list of whole records holds of a user.
use Prim.Native.Nat.{ℕ, ◌+◌, ◌*◌, ◌<◌}
use mathlib.Core.List.{List, []}
use mathlib.Core.Logic.{◌⊎◌, inl, inr, ⊎_elim}
use mathlib.Core.Path.{◌≡◌, refl}
use native.Mathlib.Nat.{eq-or-lt_of_le}
use native.Mathlib.Omega.{arith}
use lib.Dec.{eqb}
use lib.ListN.{length}
use borrow.Author.Tests.{eqb-true}
use Rattle.layout.proofs.Bytes.{four_past}
use Rattle.layout.proofs.Parts.{part_past}
use Rattle.search.specs.Search.{find}
use Rattle.search.proofs.Search.{Found, found}
use Rattle.protocol.specs.Version.{size, owner, count}
use Rattle.protocol.specs.List.{records, record_at, entry}

-- No bytes count no operation.
pub none_counted : (x : List ℕ) (v : ℕ) → x ≡ [] → count x v ≡ 0
none_counted x v e = rw e (four_past [] (34 + 4 * v) (omega arith))

module _ (list : List ℕ) (whole : size * records list ≡ length list) (v : ℕ) where
  -- The entry for v is a record of owner v, or there is none.
  pub entry_cases : (entry list v ≡ []) ⊎ ((i : ℕ) × (i < records list) × (owner (record_at list i) ≡ v) × (record_at list i ≡ entry list v))
  unfolding entry
  entry_cases =
      let i : ℕ = find (λ j. eqb (owner (record_at list j)) v) 0 (records list) in
      let f : Found (λ j. eqb (owner (record_at list j)) v) 0 (records list) i = found (λ j. eqb (owner (record_at list j)) v) 0 (records list) in
      ⊎_elim (λ e. inl (part_past size list i (omega arith)))
      (λ l. inr (i, l, eqb-true (owner (record_at list i)) v (f.hit (omega arith)), refl))
      (eq-or-lt_of_le {n = i} {m = records list} (omega (arith, f.within)))

  -- An entry that counts an operation is a record.
  pub entry_counting : 0 < count (entry list v) v → (i : ℕ) × (i < records list) × (owner (record_at list i) ≡ v) × (record_at list i ≡ entry list v)
  entry_counting h =
      ⊎_elim (λ e. let z : count (entry list v) v ≡ 0 = none_counted (entry list v) v e in absurd (omega arith)) (λ r. r)
      entry_cases
