-- Both theorems of request j) on the forked run: one number tells yes there, and no on both sides of the fork; and the bound on what an
-- accepted list counts is met.
use Rattle.std.specs.Prelude.{◌<◌, ◌≡◌}
use Rattle.protocol.specs.Version.{owner, count}
use Rattle.protocol.specs.List.{records, record_at}
use Rattle.protocol.specs.MemoryFile.{held}
use Rattle.protocol.specs.History.{file, Signed}
use Rattle.protocol.specs.Meaning.{AtOrBefore}
use Rattle.protocol.specs.ForkedRun.{counting, p3, two_signed, forked_run, ForkedRun}
use Rattle.protocol.specs.OneNumber.{CountedIn}

pub record OneNumberSeen : Type 0 where
  -- The run meets the premise. In it A signs [2,1] and B [1,2], and P3's list is accepted.
  pub run : ForkedRun
  -- A's [1,0] is at or before B's [1,1], which counts it.
  pub first_of_a : Signed 2 forked_run 0 (counting 0 1 0)
  pub first_of_b : Signed 2 forked_run 1 (counting 1 1 1)
  pub before : AtOrBefore (counting 0 1 0) (counting 1 1 1)
  pub counted : CountedIn (counting 0 1 0) (counting 1 1 1)
  -- A's [2,1] and B's [1,2] stand apart, and neither counts the other.
  pub a_not_before : AtOrBefore (counting 0 2 1) (counting 1 1 2) → ⊥
  pub a_not_counted : CountedIn (counting 0 2 1) (counting 1 1 2) → ⊥
  pub b_not_before : AtOrBefore (counting 1 1 2) (counting 0 2 1) → ⊥
  pub b_not_counted : CountedIn (counting 1 1 2) (counting 0 2 1) → ⊥
  -- In P3's list, B counts one operation of A, just as many as A remembers.
  pub b_listed : (1 < records p3.list) × (owner (record_at p3.list 1) ≡ 1)
  pub counts_one : count (record_at p3.list 1) 0 ≡ 1
  pub remembers_one : count (held (file 2 two_signed 0)) 0 ≡ 1
