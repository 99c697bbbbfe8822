-- If a record counted an operation of u more than u remembers, the record at or after all would count of everybody what the new counts do, and
-- would not be strictly before them.
use Prim.Native.Nat.{ℕ, ◌-◌, ◌≤◌, ◌<◌}
use mathlib.Core.List.{List}
use mathlib.Core.Logic.{⊎_elim}
use mathlib.Core.Path.{◌≡◌}
use native.Mathlib.Decide.{dec_lt, ℕ_discrete}
use native.Mathlib.Omega.{arith}
use lib.ListN.{get_or}
use Rattle.search.proofs.Greatest.{greatest}
use Rattle.refusal.specs.Answer.{accepted}
use Rattle.protocol.specs.Version.{count}
use Rattle.protocol.specs.List.{records, record_at, entry}
use Rattle.protocol.specs.Meaning.{AtOrBefore}
use Rattle.protocol.specs.MemoryFile.{held, next, check_file}
use Rattle.protocol.specs.NoneCountsMore.{NoneAbove, NoneCountsMore}
use Rattle.protocol.proofs.List.{none_counted, entry_cases}
use Rattle.protocol.proofs.Accepts.{Accepts, accepts}
use Rattle.protocol.proofs.FileForm.{held_none}
use Rattle.protocol.proofs.FileCalls.{gives_held}

module _ {N u : ℕ} {mem list counts : List ℕ} (A : Accepts N u mem list counts) where
  -- If record i counts more of u than is remembered, what is at or after every record counts at least as much as the new counts.
  counts_new :
      (i : ℕ) → i < records list → count mem u < count (record_at list i) u →
      (y : List ℕ) → ((j : ℕ) → j < records list → AtOrBefore (record_at list j) y) → (v : ℕ) → v < 16 → get_or counts v 0 ≤ count y v
  counts_new i k more y after v l =
      elim (ℕ_discrete v u) [
        | yes e ↦ let h : count (record_at list i) u ≤ count y u = rw e at (after i k v l) in rw e (omega (arith, A.counts_own))
        | no n ↦
            let new = A.counts_other v l n in
            ⊎_elim (λ e. omega (arith, none_counted (entry list v) v e)) (λ r. let h = after r.0 r.1 v l in omega (arith, rw r.3 at h))
            (entry_cases list A.whole v)
      ]

  none_above : NoneAbove u mem list
  none_above i l =
      elim (dec_lt (count mem u) (count (record_at list i) u)) [
        | yes more ↦
            let last =
            greatest (λ j k. AtOrBefore (record_at list j) (record_at list k)) (λ j v b. omega arith)
            (λ j k m p q v b. omega (arith, p v b, q v b)) (records list - 1) (λ j k m o. A.all_ordered j k m (omega arith))
            in
            let strict = A.all_before last.0 (omega (arith, last.1)) in
            let v = strict.1.0 in
            let b = strict.1.1 in
            absurd (strict.1.2 (omega (arith, strict.0 v b, counts_new i l more (record_at list last.0) (λ j k. last.2 j (omega arith)) v b)))
        | no h ↦ omega arith
      ]

on_held : (N u : ℕ) (f list marks counts : List ℕ) → check_file N u f list marks ≡ accepted (next counts) → NoneAbove u (held f) list
on_held N u f list marks counts e = none_above (accepts N u (held f) list marks counts (gives_held N u f list marks counts e))

pub none_counts_more : NoneCountsMore
none_counts_more =
    record {
      on_file = on_held;
      on_none = λ N u f list marks counts e z i l. omega (arith, on_held N u f list marks counts e i l, none_counted (held f) u (held_none f z));
      on_memory = λ N u mem list marks counts e. none_above (accepts N u mem list marks counts e);
    }
