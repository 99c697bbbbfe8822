-- Zero is due exactly where the inode's own hashes are enough.
use Rattle.inode.proofs.Laws.{limit}
use Rattle.inode.proofs.large.zero_exactly.Goals as goal

pub returns : goal.returns
returns c = rw (c.file_blocks-suffice.ensures, c.file_length.ensures, limit, c.zero_between-zero.ensures)
