-- At most 273 blocks: 256 leaves of sixteen files each, sixteen blocks of kind 4 over them, and the root. How many blocks of a kind there are goes
-- by how many there are below.
use mathlib.Core.Path.{◌≡◌}
use native.Mathlib.Decide.{dec_le}
use native.Mathlib.Omega.{arith}
use Rattle.itable.specs.Answers.{AtMostBlocks}
use Rattle.itable.specs.Table.{wide, leaves, fours, fives, blocks}
use Rattle.itable.proofs.Rows.{no_fours, some_fours, no_fives, some_fives}

pub at_most_blocks : AtMostBlocks
unfolding blocks
at_most_blocks n few =
    elim (dec_le (leaves n) 1) [
      | yes one ↦
          let a : fours n ≡ 0 = no_fours n one in let b : fives n ≡ 0 = no_fives n (omega arith) in omega arith
      | no more ↦
          let a : fours n ≡ wide (leaves n) = some_fours n (omega arith) in
          elim (dec_le (fours n) 1) [
            | yes one ↦ let b : fives n ≡ 0 = no_fives n one in omega arith
            | no more ↦ let b : fives n ≡ wide (fours n) = some_fives n (omega arith) in omega arith
          ]
    ]
