-- What an accepted making step made: it was laid out from the counts that were given, which read back.
use Prim.Native.Nat.{ℕ, ◌+◌}
use mathlib.Core.List.{List}
use mathlib.Core.Path.{◌≡◌, ◌∙◌}
use native.Mathlib.Omega.{arith}
use lib.ListN.{get_or}
use lib.Seq.{take_at}
use Rattle.refusal.specs.Answer.{accepted}
use Rattle.protocol.specs.Version.{count, counts, structure}
use Rattle.protocol.specs.History.{Making, created}
use Rattle.protocol.specs.CreateMeaning.{structure_of, MadeMeans}
use Rattle.protocol.proofs.Version.{length_structure, count_structure, owner_structure}
use Rattle.protocol.proofs.CreateMeans.{is_next, create_means}

pub made_means : MadeMeans
unfolding structure
made_means N mem m x e =
    let w = ((create_means N mem m).0 x).0 e in
    let is : x ≡ structure_of m = w.1 in
    let h = w.0.0.0.0.0.1.handle_long in
    let f : ℕ → ℕ = λ v. get_or m.counts v 0 in
    record {
      long = rw is (length_structure m.user m.handle f h);
      kind_one = rw is;
      owned = rw is (owner_structure m.user m.handle f h);
      handle_held = rw is (take_at m.handle (counts f 0 16) 32 h);
      counted = λ v l. rw is (count_structure m.user m.handle f h v l);
    }

-- It counts one operation more of its user than what was remembered.
pub made_one_more : (N : ℕ) (mem : List ℕ) (m : Making) {x : List ℕ} → created N mem m ≡ accepted x → count x m.user ≡ count mem m.user + 1
made_one_more N mem m {x} e =
    let a = (((create_means N mem m).0 x).0 e).0 in
    let u = a.0.0.0.0.0 in
    (made_means N mem m x e).counted m.user (omega (arith, u.1, u.2)) ∙ is_next m.user mem m.counts a.1
