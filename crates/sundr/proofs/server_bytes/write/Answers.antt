-- The first byte is set, and the copy into all the others leaves nothing of what was there. There is no loop.
use mathlib.Core.Path.{◌≡◌, ap, ◌∙◌}
use native.Mathlib.Omega.{arith}
use lib.ListN.{length}
use borrow.Author.Rules.{rules}
use Rattle.sundr.specs.Server.{bytes_of}
use Rattle.sundr.proofs.At.{room, written}
use Rattle.sundr.proofs.server_bytes.write.Goals as goal

pub returns : goal.returns
unfolding bytes_of
returns c =
    let a = c.args in
    let p = c.requires in
    let l : length a.server.records ≡ 1568 = search rules in
    written a.out.now a.server.records a.server.users p l _ (c.copy.ensures.copied (room a.out.now a.server.records a.server.users p l))

pub shape_of-out : goal.shape_of-out
unfolding bytes_of
shape_of-out c =
    let a = c.args in
    let p = c.requires in
    let l : length a.server.records ≡ 1568 = search rules in
    ap length (returns c) ∙ omega (arith, l, p)
