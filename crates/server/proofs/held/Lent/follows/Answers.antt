-- Test 7 at a user, by what is held of that user and the fields of the new record. There is no loop.
use mathlib.Core.Path.{sym, ◌∙◌}
use borrow.Author.Tests.{eq-eqb, ne_eqb}
use Rattle.server.proofs.Follow.{follows_read}
use Rattle.server.proofs.held.Lent.follows.Goals as goal

pub returns-else-in_order : goal.returns-else-in_order
returns-else-in_order c = λ x n.
    let a = c.args in
    let f = follows_read a.self.now x a.v c.requires _ c.held-held.ensures.record a.new.now n _ c.in_order.ensures in
    c.if-in_order.false ∙ sym (rw c.if-in_order.false at f)

pub returns-then-v-new : goal.returns-then-v-new
returns-then-v-new c = λ x n.
    let a = c.args in
    let f = follows_read a.self.now x a.v c.requires _ c.held-held.ensures.record a.new.now n _ c.in_order.ensures in
    let e = eq-eqb _ _ c.if-v-new.true in
    e ∙ sym (rw (c.if-in_order.true, e) at f)

pub returns-else-v-new : goal.returns-else-v-new
returns-else-v-new c = λ x n.
    let a = c.args in
    let f = follows_read a.self.now x a.v c.requires _ c.held-held.ensures.record a.new.now n _ c.in_order.ensures in
    rw c.count.ensures (sym (rw (c.if-in_order.true, ne_eqb _ _ c.if-v-new.false) at f))
