-- The answer's number is that of the server's answer, and the list that the records stand in is as the server leaves it. There is no loop.
use Rattle.refusal.proofs.Words.{gives_word}
use Rattle.server.proofs.Lent.{gives_list}
use Rattle.sundr.proofs.server_list.committed.Goals as goal

pub returns : goal.returns
returns c =
    let a = c.args in
    let g = gives_list a.users a.records.now a.x.now a.mark c.requires c.commit_into.ensures in
    (gives_word g c.answer_word.ensures, g.leaves)
