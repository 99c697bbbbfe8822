use Prim.Native.Nat.{ℕ, ◌+◌, ◌<◌}
use mathlib.Core.List.{List}
use mathlib.Core.Path.{◌≡◌, ap, ◌∙◌}
use native.Mathlib.Omega.{arith}
use borrow.Author.Count.{below_more}
use lib.ListN.{length, get_or, set, length-set}
use lib.Seq.{get_or-set_same, get_or-set_other}
use Rattle.protocol.specs.List.{record_at}
use Rattle.version.specs.Version.{fields}
use Rattle.version.specs.declared.Version.{Version}
use Rattle.client.specs.Internal.Stages.{none}
use Rattle.client.proofs.order.read_list.Goals as goal

-- One more record read.
read_more :
    (list : List ℕ) (vs : List Version) (i : ℕ) (x : Version) → i < length vs →
    ((m : ℕ) → m < i → get_or vs m none ≡ fields (record_at list m)) → x ≡ fields (record_at list i) →
    (m : ℕ) → m < i + 1 → get_or (set vs i x) m none ≡ fields (record_at list m)
read_more list vs i x l h e =
    below_more (λ m. get_or (set vs i x) m none ≡ fields (record_at list m)) i
    (λ m k. get_or-set_other vs i m x none (λ q. omega arith) ∙ h m k)
    (get_or-set_same vs i x none l ∙ e)

pub loop-i-preserved : goal.loop-i-preserved
loop-i-preserved c =
    let l = c.loop-i in (
      simp length-set l.invariant.0,
      read_more c.args.list.now l.structures l.i _ (omega arith) l.invariant.1 (c.read.ensures ∙ ap fields c.at.ensures),
    )
