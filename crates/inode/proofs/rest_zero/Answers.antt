-- The bytes from hash m up to the last hash's end.
use Rattle.std.proofs.Common.{◌≡◌, ◌+◌, ◌-◌, ◌*◌, arith}
use Rattle.itable.specs.Inode as inode
use Rattle.inode.proofs.rest_zero.Goals as goal

pub returns : goal.returns
unfolding inode.rest_zero
returns c =
    let a = c.args in
    let d : a.at + 32 * a.n - (a.at + 32 * a.m) ≡ 32 * (a.n - a.m) = omega arith in rw d at c.zero_between.ensures
