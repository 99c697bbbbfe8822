-- Each return is the first test that fails, in the order of the definition, and the last one is that none does.
-- There is no loop.
use mathlib.Core.Path.{sym, ap, ◌∙◌}
use Rattle.protocol.specs.declared.Server.{Server}
use Rattle.protocol.proofs.Conditions.{owner_below}
use Rattle.server.proofs.Steps.{owner_fields, next_read, other_length, malformed, unsigned, not_next, apart, passes}
use Rattle.server.proofs.held.Lent.commit_check.Goals as goal

pub returns-then-x-ne-SIZE : goal.returns-then-x-ne-SIZE
returns-then-x-ne-SIZE c = other_length c.args.self.now c.args.x.now c.args.mark c.if-x-ne-SIZE.true

-- Whether the record is well formed, as the code tested it for the users in the list.
pub returns-then-not-well_formed : goal.returns-then-not-well_formed
returns-then-not-well_formed c =
    let a = c.args in
    let u = ap (λ (s : Server). s.users) c.self.view_is in
    malformed a.self.now a.x.now a.mark c.if-x-ne-SIZE.false (rw u at (sym c.well_formed-2.ensures ∙ c.if-not-well_formed.true))

pub returns-then-mark-ne1 : goal.returns-then-mark-ne1
returns-then-mark-ne1 c =
    let a = c.args in
    let u = ap (λ (s : Server). s.users) c.self.view_is in
    unsigned a.self.now a.x.now a.mark c.if-x-ne-SIZE.false (rw u at (sym c.well_formed-2.ensures ∙ c.if-not-well_formed.false)) c.if-mark-ne1.true

-- The owner that was read is a user of the sixteen.
pub held-held-requires : goal.held-held-requires
held-held-requires c =
    let x = c.args.x.now in
    let w = sym c.well_formed-2.ensures ∙ c.if-not-well_formed.false in
    rw (c.read-new.ensures, owner_fields x) (owner_below c.self.inside.users x c.if-x-ne-SIZE.false w)

-- What the test of the own count said is the definition's.
pub returns-then-not-is_next : goal.returns-then-not-is_next
returns-then-not-is_next c =
    let a = c.args in
    let s : Server = a.self.now in
    let u = ap (λ (s : Server). s.users) c.self.view_is in
    let w = rw u at (sym c.well_formed-2.ensures ∙ c.if-not-well_formed.false) in
    let e = next_read s a.x.now _ _ _ _ _ c.read-new.ensures c.held-held.ensures.record c.own_count.ensures c.count.ensures c.is_next.ensures in
    not_next s a.x.now a.mark c.if-x-ne-SIZE.false w c.if-mark-ne1.false (e ∙ c.if-not-is_next.true)

-- The user that the last test found is the definition's.
pub returns-in-Some : goal.returns-in-Some
returns-in-Some c =
    let a = c.args in
    let s : Server = a.self.now in
    let u = ap (λ (s : Server). s.users) c.self.view_is in
    let w = rw u at (sym c.well_formed-2.ensures ∙ c.if-not-well_formed.false) in
    let e = next_read s a.x.now _ _ _ _ _ c.read-new.ensures c.held-held.ensures.record c.own_count.ensures c.count.ensures c.is_next.ensures in
    apart s a.x.now a.mark c.if-x-ne-SIZE.false w c.if-mark-ne1.false (e ∙ c.if-not-is_next.false)
    (sym (c.first_apart.ensures a.x.now c.read-new.ensures) ∙ c.in-Some.is)

pub returns : goal.returns
returns c =
    let a = c.args in
    let s : Server = a.self.now in
    let u = ap (λ (s : Server). s.users) c.self.view_is in
    let w = rw u at (sym c.well_formed-2.ensures ∙ c.if-not-well_formed.false) in
    let e = next_read s a.x.now _ _ _ _ _ c.read-new.ensures c.held-held.ensures.record c.own_count.ensures c.count.ensures c.is_next.ensures in
    passes s a.x.now a.mark c.if-x-ne-SIZE.false w c.if-mark-ne1.false (e ∙ c.if-not-is_next.false)
    (sym (c.first_apart.ensures a.x.now c.read-new.ensures) ∙ c.in_default.is)
