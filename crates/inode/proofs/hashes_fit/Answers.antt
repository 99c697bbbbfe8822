-- The kind, then the most blocks, then the hashes beyond the last block.
use Rattle.std.proofs.Common.{arith}
use Rattle.std.proofs.lemmas.Bool.Decides.{nat_tests}
use Rattle.inode.proofs.Laws.{limit}
use Rattle.inode.proofs.hashes_fit.Goals as goal

pub returns-then-blocks-form : goal.returns-then-blocks-form
returns-then-blocks-form c = let h = limit c.args.form.most c.file_length.result in grind (arith, nat_tests)

pub returns-else-blocks-form : goal.returns-else-blocks-form
returns-else-blocks-form c = let h = limit c.args.form.most c.file_length.result in grind (arith, nat_tests)
