use Prim.Native.Nat.{ℕ, ◌+◌, ◌-◌, ◌≤◌}
use mathlib.Core.List.{List}
use mathlib.Core.Path.{◌≡◌, refl, sym, ap, ◌∙◌}
use native.Mathlib.Omega.{arith}
use borrow.Author.Tests.{eqb-true}
use lib.ListN.{length, take, drop, length-take, length-drop}
use Rattle.std.proofs.lemmas.List.{nil_from_length}
use Rattle.protocol.specs.Server.{held, held_from}
use Rattle.protocol.specs.declared.Server.{Server}
use Rattle.server.proofs.Slots.{held_within, none_more, written_more, put}
use Rattle.server.proofs.held.Lent.write.Goals as goal

pub loop-v-init : goal.loop-v-init
unfolding held_from
loop-v-init c = record { next = refl; written = refl }

pub loop-v-preserved-then-is_empty : goal.loop-v-preserved-then-is_empty
loop-v-preserved-then-is_empty c =
    let l = c.loop-v in
    let s : Server = c.args.self.now in
    let z = nil_from_length _ (eqb-true _ 0 (sym c.if-is_empty.ensures)) in
    let n : held_from s 0 (l.v + 1) ≡ held_from s 0 l.v = none_more s l.v (sym c.held-held.ensures.record ∙ z) in
    record { next = rw n l.invariant.next; written = rw n l.invariant.written }

pub slice_bounds-copy-end : goal.slice_bounds-copy-end
slice_bounds-copy-end c =
    let l = c.loop-v in
    let w = held_within c.args.self.now l.v c.loop-v-test.true in
    let e = ap length c.held-held.ensures.record in
    omega (arith, w, e, l.invariant.next)

pub loop-v-preserved : goal.loop-v-preserved
loop-v-preserved c =
    let l = c.loop-v in
    let s : Server = c.args.self.now in
    let xs : List ℕ = c.held-held.result.now in
    let e : xs ≡ held s l.v = c.held-held.ensures.record in
    let w = held_within s l.v c.loop-v-test.true in
    let within : l.at + length xs ≤ length l.out = rw e (omega (arith, w, l.invariant.next)) in
    let room = l.at + length xs - l.at in
    let fits : length xs ≤ length (take room (drop l.at l.out)) = simp (length-take, length-drop) (omega arith) in
    let p = put xs l.out _ l.at room (omega arith) (c.copy-at.ensures.copied fits) in
    let m = written_more s l.v l.at xs l.out c.args.out.now _ e l.invariant.next l.invariant.written p in
    record { next = m.0; written = m.1 }

pub returns : goal.returns
returns c =
    let e : c.loop-v.v ≡ 16 = omega arith in
    rw (c.loop-v.invariant.next, e) at c.loop-v.invariant.written
