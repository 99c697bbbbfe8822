-- The copied rest, the byte 128, zeros and the length are the padded message's last block, or its last two where the rest leaves no room
-- for the length (`closed_one`, `closed_two`). There is no loop: the zeros are what the block is made of.
use native.Mathlib.Omega.{arith}
use Rattle.std.proofs.Common.{◌∙◌}
use Rattle.sha256.proofs.LastBlocks.{closed_one, closed_two}
use Rattle.sha256.proofs.padding.finish.Goals as goal
use Rattle.sha256.proofs.padding.finish.Goals.{then-rest-ge56, else-rest-ge56}

pub returns : goal.returns
returns c =
    elim c.if-rest-ge56.branch [
      | then-rest-ge56 w ↦
          closed_two
          c.args.message.now
          c.requires.0
          c.copy.new.to
          c.if-rest-ge56.last
          w.if-rest-ge56.true
          (c.copy.ensures.copied (omega arith))
          c.requires.1
          (w.v-is ∙ w.compress-v.ensures)
          w.last-is
          c.store.ensures
          c.compress-v-2.ensures
      | else-rest-ge56 w ↦
          closed_one
          c.args.message.now
          c.requires.0
          c.copy.new.to
          c.if-rest-ge56.last
          w.if-rest-ge56.false
          (c.copy.ensures.copied (omega arith))
          (w.v-is ∙ c.requires.1)
          w.last-is
          c.store.ensures
          c.compress-v-2.ensures
    ]
