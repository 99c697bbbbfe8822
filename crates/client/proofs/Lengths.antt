-- The first stage: refusal 1 is given unless its condition on the users holds, then 2 unless that on the lengths does.
use Prim.Native.Nat.{ℕ}
use mathlib.Core.List.{List}
use Rattle.refusal.specs.Answer.{accepted}
use Rattle.refusal.specs.Order.{in_order}
use Rattle.refusal.proofs.Means.{Means, Stage, Either, Unless, and_then_means, concludes}
use Rattle.protocol.specs.Check.{size_steps}
use Rattle.protocol.specs.History.{Call}
use Rattle.protocol.specs.Meaning.{Users, Sizes}
use Rattle.protocol.proofs.CheckMeans.{users_stage, sizes_stage}

module _ (N u : ℕ) (mem list marks : List ℕ) where
  abbrev pub call : Call
  call = record { user = u; list = list; marks = marks }

  stage :
      Stage (size_steps N u mem list marks) (Users N u × Sizes N mem call)
      (Either (Users N u) (Unless (Users N u) 1 0 0) (Unless (Sizes N mem call) 2 0 0))
  unfolding size_steps
  stage = and_then_means _ _ (users_stage N u) (λ p. sizes_stage N mem call)

  -- The list is what is given where they hold.
  pub sizes_mean :
      Means (in_order (size_steps N u mem list marks) (accepted list)) list (Users N u × Sizes N mem call)
      (Either (Users N u) (Unless (Users N u) 1 0 0) (Unless (Sizes N mem call) 2 0 0))
  sizes_mean = concludes _ stage list
