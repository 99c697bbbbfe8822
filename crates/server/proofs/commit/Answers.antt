-- The list's records are taken out, committed to, and put back beside the number of users. There is no loop.
use borrow.Author.Rules.{rules}
use mathlib.Core.Path.{◌≡◌}
use lib.ListN.{length}
use Rattle.server.proofs.Lent.{gives_list}
use Rattle.server.proofs.commit.Goals as goal

pub returns : goal.returns
returns c =
    let a = c.args in
    let l : length a.server.records ≡ 1568 = search rules in
    gives_list a.server.users a.server.records a.x.now a.mark l c.commit_into-check.ensures
