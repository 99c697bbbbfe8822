-- The kind, then the hashes beyond the file's last block, of which the inode names sixteen.
use Rattle.std.proofs.Common.{rules}
use Rattle.itable.specs.LargeInode as large
use Rattle.inode.proofs.large.indirect_formed.Goals as goal

pub returns-then-byte_at-eq-INDIRECT_KIND : goal.returns-then-byte_at-eq-INDIRECT_KIND
unfolding large.indirect_formed
returns-then-byte_at-eq-INDIRECT_KIND c = search rules

pub returns-else-byte_at-eq-INDIRECT_KIND : goal.returns-else-byte_at-eq-INDIRECT_KIND
unfolding large.indirect_formed
returns-else-byte_at-eq-INDIRECT_KIND c = search rules
