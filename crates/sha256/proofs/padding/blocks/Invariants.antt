-- Each turn compresses the block that the definition names next, the first 64 of the bytes that are left. The invariant: these are the
-- bytes after the blocks before it, and `s` is the hash value after those.
use Rattle.std.proofs.Common.{◌≡◌, ◌*◌, ◌≤◌, length, drop}
use Rattle.sha256.specs.Sha256.{hashed}
use Rattle.sha256.proofs.padding.blocks.Given as goal

abbrev pub invariant-loop-part : goal.invariant-loop-part
invariant-loop-part l =
    let n = length l.yielded in
    record {
      size : l.part-iterator.size ≡ 64;
      within : 64 * n ≤ length l.message;
      rest : l.part-iterator.rest.now ≡ drop (64 * n) l.message;
      value : l.s ≡ hashed l.message n;
    }
