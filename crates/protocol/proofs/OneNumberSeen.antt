-- Both theorems of request j) on the forked run, by computation on its bytes.
use mathlib.Core.Logic.{inl, inr}
use mathlib.Core.Path.{refl}
use native.Mathlib.Omega.{arith}
use Rattle.search.specs.Search.{find, every}
use Rattle.layout.specs.Bytes.{four, bytes4}
use Rattle.layout.specs.Strings.{zeros}
use Rattle.refusal.specs.Order.{in_order}
use Rattle.protocol.specs.Version.{counts, structure, well_formed, counts_before}
use Rattle.protocol.specs.Check.{remembers}
use Rattle.protocol.specs.Create.{length_steps, count_steps}
use Rattle.protocol.specs.MemoryFile.{held, formed, file_of, given_steps, create_file}
use Rattle.protocol.specs.History.{file_from}
use Rattle.protocol.specs.ForkedRun.{counting, two_counts, call_on, making_of, p1, p2, p3, m1, m2}
use Rattle.protocol.specs.OneNumberSeen.{OneNumberSeen}
use Rattle.protocol.proofs.Version.{before_at}
use Rattle.protocol.proofs.ForkedRun.{forked_run_holds}

pub one_number_seen : OneNumberSeen
unfolding
    p1 p2 p3 m1 m2 call_on making_of counting two_counts counts structure well_formed counts_before remembers length_steps count_steps held formed file_of
    given_steps create_file file_from four bytes4 find every zeros in_order
one_number_seen =
    record {
      run = forked_run_holds;
      first_of_a = inr (inr (inr (inr (inr (inr (inl (refl, refl)))))));
      first_of_b = inr (inr (inr (inr (inl (refl, refl)))));
      before = before_at (counting 0 1 0) (counting 1 1 1) refl;
      counted = omega arith;
      a_not_before = λ h. omega (arith, h 0 (omega arith));
      a_not_counted = λ h. omega arith;
      b_not_before = λ h. omega (arith, h 1 (omega arith));
      b_not_counted = λ h. omega arith;
      b_listed = (omega arith, refl);
      counts_one = refl;
      remembers_one = refl;
    }
