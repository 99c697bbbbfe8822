-- What holds of every call that the client's check accepts: the laws that the theorems over runs rest on, read off what its answers mean.
use Prim.Native.Nat.{ℕ, ◌+◌, ◌*◌, ◌<◌}
use mathlib.Core.List.{List}
use mathlib.Core.Logic.{◌⊎◌}
use mathlib.Core.Path.{◌≡◌, refl, ◌∙◌}
use native.Mathlib.Omega.{arith}
use lib.ListN.{length, get_or}
use Rattle.layout.proofs.Strings.{same_true}
use Rattle.refusal.specs.Answer.{accepted}
use Rattle.protocol.specs.Version.{size, count}
use Rattle.protocol.specs.List.{records, record_at, entry}
use Rattle.protocol.specs.Check.{current, next_count, check}
use Rattle.protocol.specs.History.{Call}
use Rattle.protocol.specs.Meaning.{AtOrBefore, StrictlyBeforeCounts, new_counts}
use Rattle.protocol.proofs.Conditions.{current_means}
use Rattle.protocol.proofs.CheckMeans.{check_means}
use Rattle.protocol.proofs.NewMeans.{new_means, next_at, next_other}

-- User u of N, who remembers `mem`, accepts the list, and these are the counts of its next structure.
pub record Accepts (N u : ℕ) (mem list counts : List ℕ) : Type 0 where
  pub whole : size * records list ≡ length list
  pub counts_own : get_or counts u 0 ≡ count mem u + 1
  pub counts_other : (v : ℕ) → v < 16 → (v ≡ u → ⊥) → get_or counts v 0 ≡ count (entry list v) v
  pub current_entry : entry list u ≡ mem
  pub all_ordered :
      (i j : ℕ) → i < j → j < records list →
      AtOrBefore (record_at list i) (record_at list j) ⊎ AtOrBefore (record_at list j) (record_at list i)
  pub all_before : (i : ℕ) → i < records list → StrictlyBeforeCounts (record_at list i) (λ v. get_or counts v 0)

pub accepts :
    (N u : ℕ) (mem list marks counts : List ℕ) → check N u mem list marks ≡ accepted counts → Accepts N u mem list counts
unfolding current
accepts N u mem list marks counts e =
    let c : Call = record { user = u; list = list; marks = marks } in
    let w = ((check_means N mem c).0 counts).0 e in
    let is : counts ≡ new_counts mem c = w.1 in
    let at : (v : ℕ) → v < 16 → get_or counts v 0 ≡ next_count u mem list v = λ v l. rw is (next_at u mem list v l) in
    let pairs = w.0.1 in
    let listed = w.0.0.0.1 in
    let placed = w.0.0.0.0.0 in
    let sizes = placed.0.0.1 in
    let new = new_means N mem c placed in
    record {
      whole = sizes.whole;
      counts_own = rw is new.one_more;
      counts_other = λ v l n. rw is (next_other u mem list v l n);
      current_entry = same_true (entry list u) mem ((current_means N list sizes.whole placed.1 u mem).1 listed);
      all_ordered = λ i j l h. (pairs i j l (omega arith)).0 h;
      all_before = λ i l.
          let b = (pairs i (records list) l (omega arith)).1 refl in (
            λ v h. omega (arith, b.0 v h, at v h),
            (b.1.0, b.1.1, λ q. b.1.2 (q ∙ at b.1.0 b.1.1)),
          );
    }
