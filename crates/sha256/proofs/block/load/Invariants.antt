-- Word t is made of its four bytes and stored at t. The invariant: the words below t are loaded.
use Rattle.std.proofs.Common.{◌≡◌, ◌*◌, length, take}
use Rattle.layout.specs.Bytes.{four, values}
use Rattle.sha256.proofs.block.load.Given as goal

abbrev pub invariant-loop-t : goal.invariant-loop-t
invariant-loop-t l = (length l.w.words ≡ 16) × (take l.t l.w.words ≡ values (λ u. four l.block (4 * u)) 0 l.t)
