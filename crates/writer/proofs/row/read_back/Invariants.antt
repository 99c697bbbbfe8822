-- Each turn reads one block: its first number, and its hash into its own 32 bytes.
-- The invariant: the blocks passed are read back.
use Rattle.writer.specs.Internal.Children.{ReadBack}
use Rattle.writer.proofs.row.read_back.Given as goal

abbrev pub invariant-loop-j : goal.invariant-loop-j
invariant-loop-j l = ReadBack l.blocks l.j l.numbers l.hashes
