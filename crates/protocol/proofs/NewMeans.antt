-- What the client's new counts are: in a list of ascending owners a user's entry is its only record.
use Prim.Native.Nat.{ℕ, ◌+◌, ◌<◌}
use mathlib.Core.List.{List}
use mathlib.Core.Logic.{⊎_elim}
use mathlib.Core.Path.{◌≡◌, refl, ◌∙◌}
use native.Mathlib.Omega.{arith}
use lib.ListN.{get_or}
use borrow.Author.Tests.{eq-eqb, ne_eqb}
use Rattle.layout.proofs.Values.{length_values, value_at}
use Rattle.protocol.specs.Version.{owner, count}
use Rattle.protocol.specs.List.{record_at, entry}
use Rattle.protocol.specs.Check.{next_count, next_counts}
use Rattle.protocol.specs.Meaning.{NewMeans}
use Rattle.protocol.proofs.List.{none_counted, entry_cases}
use Rattle.protocol.proofs.Conditions.{entry_at}

module _ (u : ℕ) (mem list : List ℕ) where
  pub next_at : (v : ℕ) → v < 16 → get_or (next_counts u mem list) v 0 ≡ next_count u mem list v
  unfolding next_counts
  next_at = value_at (next_count u mem list) 16

  pub next_own : u < 16 → get_or (next_counts u mem list) u 0 ≡ count mem u + 1
  next_own l = next_at u l ∙ rw (eq-eqb u u refl)

  pub next_other : (v : ℕ) → v < 16 → (v ≡ u → ⊥) → get_or (next_counts u mem list) v 0 ≡ count (entry list v) v
  next_other v l n = next_at v l ∙ rw (ne_eqb v u n)

pub new_means : NewMeans
unfolding next_counts
new_means N mem c w =
    let U = w.0.0.0 in
    let S = w.0.0.1 in
    let own-count = next_own c.user mem c.list (omega (arith, U.1, U.2)) in
    record {
      sixteen = length_values (next_count c.user mem c.list) 0 16;
      one_more = own-count;
      the_first = λ e. let z = none_counted mem c.user e in own-count ∙ rw z;
      as_listed = λ i l n.
          next_other c.user mem c.list (owner (record_at c.list i)) (omega (arith, U.1, (w.1 i l).0.owner_below)) n ∙
          rw (entry_at N c.list S.whole w.1 i l);
      absent = λ v l n none.
          next_other c.user mem c.list v l n ∙
          ⊎_elim (λ e. none_counted (entry c.list v) v e) (λ r. absurd (none r.0 r.1 r.2)) (entry_cases c.list S.whole v);
    }
