-- "With N 2, u 0, a zero handle, flag 1 and the structures of P3, every mark 1, the whole output is" `desk 0 of 2` and `accept 2 1`.
use Rattle.std.specs.Prelude.{ℕ, List, [], ◌∷◌, ◌++◌, ◌≡◌, replicate}
use Rattle.protocol.specs.ForkedRun.{counting}
use Rattle.report.specs.Printed.{printed}

-- A remembers [1,0]; the list is A [1,0], B [1,1].
unfoldable pub example_input : List ℕ
example_input = 2 ∷ 0 ∷ (replicate 32 0 ++ (1 ∷ (counting 0 1 0 ++ (1 ∷ (counting 0 1 0 ++ (1 ∷ counting 1 1 1))))))

abbrev pub example_output : List ℕ
example_output =
    (100 ∷ 101 ∷ 115 ∷ 107 ∷ 32 ∷ 48 ∷ 32 ∷ 111 ∷ 102 ∷ 32 ∷ 50 ∷ 10 ∷ []) ++
    (97 ∷ 99 ∷ 99 ∷ 101 ∷ 112 ∷ 116 ∷ 32 ∷ 50 ∷ 32 ∷ 49 ∷ 10 ∷ [])

abbrev pub ExamplePrinted : Type 0
ExamplePrinted = printed example_input ≡ example_output
