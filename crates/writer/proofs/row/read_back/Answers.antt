use Rattle.std.proofs.Common.{◌≡◌, ◌∙◌, arith}
use Rattle.layout.specs.Bytes.{parts}
use Rattle.writer.proofs.Children.{read_next}
use Rattle.writer.proofs.row.read_back.Goals as goal

pub loop-j-init : goal.loop-j-init
loop-j-init c = record { first = λ m h. absurd (omega arith); hash = λ m h. absurd (omega arith) }

pub loop-j-preserved : goal.loop-j-preserved
loop-j-preserved c =
    let l = c.loop-j in
    let r = c.requires in
    read_next _ _ _ _ (omega arith) (omega arith) (l.auto.numbers ∙ r.numbers_len) (l.auto.hashes ∙ r.hashes_len) l.invariant _
    c.number.ensures _ _ c.sha256.ensures

pub returns : goal.returns
returns c =
    let e : c.loop-j.j ≡ parts 642 c.args.blocks.now = omega arith in rw e at c.loop-j.invariant
