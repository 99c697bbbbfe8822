-- The desk program's standard input: its form, and its parts.
use Rattle.std.specs.Prelude.{ℕ, zero, suc, ◌*◌, Bool, cond, ◌&&◌, List, [], ◌++◌, leb, eqb, length, get_or, take, drop}
use Rattle.layout.specs.Bytes.{part, parts, values}
use Rattle.protocol.specs.Version.{size}

-- "It reads standard input: N, u (a byte each), 32 bytes of handle, a flag byte 0 or 1,"
abbrev pub users : List ℕ → ℕ
users input = get_or input 0 0

abbrev pub user : List ℕ → ℕ
user input = get_or input 1 0

abbrev pub handle : List ℕ → List ℕ
handle input = take 32 (drop 2 input)

abbrev pub flag : List ℕ → ℕ
flag input = get_or input 34 0

-- "if 1 the remembered 98 bytes,": the remembered structure, or no bytes for none.
unfoldable pub memory : List ℕ → List ℕ
memory input = cond (eqb (flag input) 1) (take size (drop 35 input)) []

-- The place after it.
unfoldable pub behind_memory : ℕ → ℕ
behind_memory flag = cond (eqb flag 1) 133 35

-- "then up to sixteen times a mark byte and 98 record bytes": what the server sent, of these 99 bytes each.
abbrev pub sent : List ℕ → List ℕ
sent input = drop (behind_memory (flag input)) input

abbrev pub records : List ℕ → ℕ
records input = parts 99 (sent input)

-- The first n marks of what was sent, and the first n records end to end.
unfoldable pub first_marks : List ℕ → ℕ → List ℕ
first_marks sent n = values (λ i. get_or (part 99 sent i) 0 0) 0 n

unfoldable pub first_records : List ℕ → ℕ → List ℕ
first_records sent zero = []
first_records sent (suc n) = first_records sent n ++ drop 1 (part 99 sent n)

abbrev pub marks : List ℕ → List ℕ
marks input = first_marks (sent input) (records input)

abbrev pub list : List ℕ → List ℕ
list input = first_records (sent input) (records input)

-- The input has all these parts and nothing after them, and is not "over 1,717 bytes".
unfoldable pub formed : List ℕ → Bool
formed input =
    leb 35 (length input) &&
    (leb (flag input) 1 &&
    (leb (behind_memory (flag input)) (length input) &&
    (eqb (99 * records input) (length (sent input)) && (leb (records input) 16 && leb (length input) 1717))))
