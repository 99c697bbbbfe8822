-- The sum of held own counts is the number of commits accepted: an accepted commit raises its owner's own count by one and leaves every
-- other, a refused one leaves the list.
use Prim.Native.Nat.{ℕ, zero, suc, ◌+◌, ◌≤◌, ◌<◌}
use mathlib.Core.List.{List, [], ◌∷◌}
use mathlib.Core.Logic.{⊎_elim}
use mathlib.Core.Path.{◌≡◌, refl, sym, ap, ◌∙◌}
use native.Mathlib.Nat.{eq-or-lt_of_le}
use native.Mathlib.Omega.{arith}
use lib.ListN.{length}
use Rattle.refusal.specs.Result.{left}
use Rattle.refusal.specs.Run.{state_after, one}
use Rattle.refusal.proofs.Run.{by_answer}
use Rattle.protocol.specs.declared.Server.{Server}
use Rattle.protocol.specs.Version.{owner, count}
use Rattle.protocol.specs.Server.{empty, made, held_own, replaced, commit}
use Rattle.protocol.specs.Commits.{list, commit_of, server_after, accepted_commits, own_sum, CommitsCounted}
use Rattle.protocol.proofs.Held.{held_own_is, held_empty, made_empty, slot_same, slot_other, count_none}
use Rattle.protocol.proofs.Commit.{committed, after_length}

-- Nothing held sums to nothing.
sum_none : (s : Server) (v k : ℕ) → ((w : ℕ) → w < v + k → held_own s w ≡ 0) → own_sum s v k ≡ 0
unfolding own_sum
sum_none s v zero f = refl
sum_none s v (suc k) f = omega (arith, f v (omega arith), sum_none s (suc v) k (λ w l. f w (omega arith)))

-- Lists of the same own counts have the same sum, and one more at one user makes one more in all.
module _ (s t : Server) where
  sum_same : (v k : ℕ) → ((w : ℕ) → v ≤ w → w < v + k → held_own t w ≡ held_own s w) → own_sum t v k ≡ own_sum s v k
  unfolding own_sum
  sum_same v zero f = refl
  sum_same v (suc k) f =
      omega (arith, f v (omega arith) (omega arith), sum_same (suc v) k (λ w a b. f w (omega arith) (omega arith)))

  module _ (o : ℕ) (more : held_own t o ≡ held_own s o + 1) where
    sum_more :
        (v k : ℕ) → v ≤ o → o < v + k → ((w : ℕ) → v ≤ w → w < v + k → (w ≡ o → ⊥) → held_own t w ≡ held_own s w) →
        own_sum t v k ≡ 1 + own_sum s v k
    unfolding own_sum
    sum_more v zero a b f = absurd (omega arith)
    sum_more v (suc k) a b f =
        ⊎_elim
        (λ e.
        omega (
          arith,
          ap (held_own t) e,
          ap (held_own s) e,
          sum_same (suc v) k (λ w c d. f w (omega arith) (omega arith) (λ q. omega arith)),
        ))
        (λ l.
        omega (
          arith,
          f v (omega arith) (omega arith) (λ q. omega arith),
          sum_more (suc v) k l (omega arith) (λ w c d n. f w (omega arith) (omega arith) n),
        ))
        (eq-or-lt_of_le {n = v} {m = o} a)

-- A commit adds one to the sum if it is accepted.
commit_sum :
    (s : Server) (x : List ℕ) (mark : ℕ) → length s.records ≡ 1568 →
    own_sum (left (commit s x mark) s) 0 16 ≡ one (commit s x mark) + own_sum s 0 16
commit_sum s x mark long =
    by_answer (λ n t. own_sum t 0 16 ≡ n + own_sum s 0 16) (commit s x mark)
    (λ t e.
    let c = committed s x mark t e in
    rw c.result
    (sum_more s (replaced s x) (owner x)
    (held_own_is (replaced s x) (owner x) ∙
    (ap (λ (r : List ℕ). count r (owner x)) (slot_same s x long c.whole c.owned) ∙ c.next_own))
    0 16 (omega arith) (omega (arith, c.owned))
    (λ w a b n.
    held_own_is (replaced s x) w ∙
    (ap (λ (r : List ℕ). count r w) (slot_other s x long c.whole c.owned w n) ∙ sym (held_own_is s w)))))
    (omega arith)

none_held : (N : ℕ) → own_sum (made N) 0 16 ≡ 0
none_held N =
    let m = made_empty N in
    rw m.1 (sum_none (empty m.0) 0 16 (λ w l. ap (λ (r : List ℕ). count r w) (held_empty m.0 w l) ∙ count_none w))

pub commits_counted : CommitsCounted
unfolding state_after accepted_commits
commits_counted N [] = none_held N
commits_counted N (list buffer ∷ earlier) = commits_counted N earlier
commits_counted N (commit_of x mark ∷ earlier) =
    omega (arith, commit_sum (server_after N earlier) x mark (after_length N earlier), commits_counted N earlier)
