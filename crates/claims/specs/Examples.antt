-- "These twelve are proved about the definitions by one statement over a list of them."
use Rattle.std.specs.Prelude.{ℕ, List, [], ◌∷◌, ◌++◌, ◌≡◌, replicate}
use Rattle.refusal.specs.Answer.{accepted, refused}
use Rattle.itable.specs.Inode.{file_blocks}
use Rattle.itable.specs.Table.{blocks}
use Rattle.protocol.specs.Version.{size}
use Rattle.protocol.specs.MemoryFile.{file_of, next, check_file, create_file}
use Rattle.protocol.specs.ForkedRun.{counting, two_counts}

-- What is due of a check: counts, and the structure that the making step makes of them; or a refusal.
pub data Due : Type 0 where
  makes : List ℕ → List ℕ → Due
  refuses : ℕ → ℕ → ℕ → Due

-- A marked example: what is given, and what is due.
pub data Example : Type 0 where
  -- The client's check for N users, of user u, on its remembered structure, list and marks; and the making step with this handle.
  client_check : ℕ → ℕ → List ℕ → List ℕ → List ℕ → List ℕ → Due → Example
  -- The number of blocks of a table of so many files.
  table : ℕ → ℕ → Example
  -- The number of blocks of a file of so many bytes.
  file : ℕ → ℕ → Example

-- What an example says of the calls, on the file of what is remembered: the counts are the check's, and where it accepts the bytes are the
-- making step's.
abbrev pub Holds : Example → Type 0
Holds (client_check N u mem list marks handle (makes counts new)) =
    (check_file N u (file_of mem) list marks ≡ accepted (next counts)) × (create_file N u (file_of mem) counts handle size ≡ accepted new)
Holds (client_check N u mem list marks handle (refuses n p q)) = check_file N u (file_of mem) list marks ≡ refused n p q
Holds (table files due) = blocks files ≡ due
Holds (file bytes due) = file_blocks bytes ≡ due

-- A check of the examples: N is 2, and the handle is zero.
abbrev pub of_two : ℕ → List ℕ → List ℕ → List ℕ → Due → Example
of_two u mem list marks = client_check 2 u mem list marks (replicate 32 0)

-- Accepted, [a,b], by this owner.
abbrev pub accept : ℕ → ℕ → ℕ → Due
accept u a b = makes (two_counts a b) (counting u a b)

-- [a,b] of A, and of B.
abbrev pub A : ℕ → ℕ → List ℕ
A a b = counting 0 a b

abbrev pub B : ℕ → ℕ → List ℕ
B a b = counting 1 a b

-- P1 to P12, P6 in its two cases.
unfoldable pub examples : List Example
examples =
    -- P1 A, none remembered, empty list: accepted, [1,0].
    of_two 0 [] [] [] (accept 0 1 0) ∷
    -- P2 B, none; A [1,0]: accepted, [1,1].
    of_two 1 [] (A 1 0) (1 ∷ []) (accept 1 1 1) ∷
    -- P3 A remembers [1,0]; A [1,0], B [1,1]: accepted, [2,1].
    of_two 0 (A 1 0) (A 1 0 ++ B 1 1) (1 ∷ 1 ∷ []) (accept 0 2 1) ∷
    -- P4 B remembers [1,1]; A [1,0], B [1,1]: accepted, [1,2]. After P3 this is the fork.
    of_two 1 (B 1 1) (A 1 0 ++ B 1 1) (1 ∷ 1 ∷ []) (accept 1 1 2) ∷
    -- P5 B remembers [1,2]; A [2,1], B [1,2]: 7 with places 0, 1.
    of_two 1 (B 1 2) (A 2 1 ++ B 1 2) (1 ∷ 1 ∷ []) (refuses 7 0 1) ∷
    -- P6 A remembers [2,1]; A [1,0], B [1,1]: 5. With an empty list: 5.
    of_two 0 (A 2 1) (A 1 0 ++ B 1 1) (1 ∷ 1 ∷ []) (refuses 5 0 0) ∷
    of_two 0 (A 2 1) [] [] (refuses 5 0 0) ∷
    -- P7 A, none; B [1,1]: 7 with places 0, 1, for the new [1,1] equals it.
    of_two 0 [] (B 1 1) (1 ∷ []) (refuses 7 0 1) ∷
    -- P8 A, none; B [0,0], mark 0: 3 with place 0, not 4.
    of_two 0 [] (B 0 0) (0 ∷ []) (refuses 3 0 0) ∷
    -- P9 A remembers [4294967294,0]; the same listed: accepted, [4294967295,0].
    of_two 0 (A 4294967294 0) (A 4294967294 0) (1 ∷ []) (accept 0 4294967295 0) ∷
    -- P10 A remembers [4294967295,0]; the same listed: 6.
    of_two 0 (A 4294967295 0) (A 4294967295 0) (1 ∷ []) (refuses 6 0 0) ∷
    -- P11 tables of 0, 16, 17, 256, 257 and 4,096 files take 1, 1, 3, 17, 20 and 273 blocks.
    table 0 1 ∷ table 16 1 ∷ table 17 3 ∷ table 256 17 ∷ table 257 20 ∷ table 4096 273 ∷
    -- P12 files of 0, 1, 8,192, 8,193 and 131,072 bytes have 0, 1, 1, 2 and 16 blocks.
    file 0 0 ∷ file 1 1 ∷ file 8192 1 ∷ file 8193 2 ∷ file 131072 16 ∷ []

-- Every one of a list of examples holds.
abbrev pub All : List Example → Type 0
All [] = Unit
All (e ∷ es) = Holds e × All es

abbrev pub ExamplesHold : Type 0
ExamplesHold = All examples

-- In the manner of P12, of large files: those of 0, 1, 131,072, 131,073 and 1,179,648 bytes have 0, 1, 16, 17 and 144 blocks.
unfoldable pub large_examples : List Example
large_examples = file 0 0 ∷ file 1 1 ∷ file 131072 16 ∷ file 131073 17 ∷ file 1179648 144 ∷ []

abbrev pub LargeExamples : Type 0
LargeExamples = All large_examples
