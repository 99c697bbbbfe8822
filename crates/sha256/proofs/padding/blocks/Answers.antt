use Rattle.std.proofs.Common.{◌≡◌, suc, ◌*◌, ◌/◌, [], ◌∷◌, ◌++◌, length, sym, ap, ◌∙◌, arith, add-one, length-append, length-drop}
use Rattle.sha256.specs.Sha256.{hashed}
use Rattle.sha256.proofs.LastBlocks.{next_within, next_left, next_block}
use Rattle.sha256.proofs.padding.blocks.Goals as goal

pub loop-part-init : goal.loop-part-init
unfolding hashed
loop-part-init c =
    let e = c.into_iter-part-iterator.ensures.into_iter_gives in
    let f = c.chunks_exact-part-items.ensures in
    record { size = cc; within = omega arith; rest = cc; value = c.initial-s.ensures }

pub loop-part-preserved : goal.loop-part-preserved
loop-part-preserved c =
    let m = c.args.message.now in
    let l = c.loop-part in
    let n = length l.yielded in
    let p = c.in-Some.ensures.steps in
    let i = l.invariant in
    let k : length (l.yielded ++ (c.in-Some.part ∷ [])) ≡ suc n = simp length-append (add-one n) in
    let e = sym i.rest ∙ p.1.0 in
    let long = p.1.1 ∙ i.size in
    record {
      size = p.0 ∙ i.size;
      within = rw k (next_within m _ _ n e long);
      rest = rw k (next_left m _ _ n e long);
      value = rw k (next_block m _ _ n e long _ _ i.value c.compress-s.ensures);
    }

pub returns : goal.returns
returns c =
    let m = c.args.message.now in
    let i = c.loop-part.invariant in
    let few = c.in-None.ensures.steps.1.0 in
    let left = ap length i.rest ∙ length-drop (64 * length c.loop-part.yielded) m in
    let all : length c.loop-part.yielded ≡ length m / 64 = omega (arith, few, left) in
    i.value ∙ ap (hashed m) all
