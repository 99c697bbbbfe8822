-- What is held is the place, unless the own count in it is 0. There is no loop.
use mathlib.Core.List.{List}
use mathlib.Core.Path.{sym, ap, ◌∙◌}
use Prim.Native.Nat.{ℕ}
use Rattle.protocol.specs.Version.{count}
use Rattle.protocol.proofs.Held.{held_none, held_slot}
use Rattle.server.proofs.held.Lent.held.Goals as goal

pub returns-then-count-eq0-clause-record : goal.returns-then-count-eq0-clause-record
returns-then-count-eq0-clause-record c =
    let a = c.args in
    let e = c.count.ensures ∙ ap (λ (r : List ℕ). count r a.v) c.slot-slot.ensures.place in
    sym (held_none a.self.now a.v (sym e ∙ c.if-count-eq0.true))

pub returns-clause-record : goal.returns-clause-record
returns-clause-record c =
    let a = c.args in
    let e = c.count.ensures ∙ ap (λ (r : List ℕ). count r a.v) c.slot-slot.ensures.place in
    c.slot-slot.ensures.place ∙ sym (held_slot a.self.now a.v (λ z. c.if-count-eq0.false (e ∙ z)))
