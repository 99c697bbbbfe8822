-- Along written blocks each question has the path that answers a single lookup as the table does; end to end these paths are one call's.
use Prim.Native.Nat.{ℕ, zero, suc, ◌+◌, ◌*◌, ◌≤◌, ◌<◌}
use mathlib.Core.List.{List, [], ◌∷◌, ◌++◌}
use mathlib.Core.Path.{◌≡◌, refl, ap, ◌∙◌}
use native.Mathlib.Omega.{arith}
use lib.ListN.{length, get_or, take, length-append}
use lib.Seq.{take_at, drop-append-add}
use Rattle.refusal.specs.Answer.{accepted}
use Rattle.sha256.proofs.Laws.{sha256_length}
use Rattle.itable.specs.Block.{size}
use Rattle.itable.specs.Table.{Level, blocks, written, root_hash}
use Rattle.itable.specs.Lookup.{entry_of}
use Rattle.itable.specs.Answers.{IsTable, Answers, path_of}
use Rattle.itable.specs.Many.{total, path_at, single, entry_size, entry_bytes, many}
use Rattle.itable.specs.ManyAsTable.{paths_of, counts_of, entries_of, EachBelow, ManyAsTable}
use Rattle.itable.specs.Internal.Many.{entries_from}
use Rattle.itable.proofs.Rows.{length_written}
use Rattle.itable.proofs.Paths.{path_length}
use Rattle.itable.proofs.WrittenAnswers.{written_answers}
use Rattle.itable.proofs.Many.{entries_behind, all_accepted}
use Rattle.itable.proofs.ManySizes.{sized}

-- The first question's path, and those after it.
module _ (n : ℕ) (counts path paths : List ℕ) (h : length path ≡ size * n) where
  path_front : path_at (n ∷ counts) (path ++ paths) 0 ≡ path
  unfolding total
  path_front = take_at path paths (size * n) h

  path_behind : (q : ℕ) → path_at (n ∷ counts) (path ++ paths) (suc q) ≡ path_at counts paths q
  unfolding total
  path_behind q =
      let before : ℕ = total (take q counts) in
      let e : size * (n + before) ≡ length path + size * before = omega arith in
      rw (e, drop-append-add path paths (size * before))

-- What the table says of each number, as a row.
entries_of_is : (T : Level) (numbers : List ℕ) → entries_from (λ q. entry_of T (get_or numbers q 0)) 0 (length numbers) ≡ entries_of T numbers
unfolding entries_from entries_of
entries_of_is T [] = refl
entries_of_is T (i ∷ is) =
    ap (entry_bytes (entry_of T i) ++◌)
    (entries_behind (λ q. entry_of T (get_or (i ∷ is) q 0)) 0 (length is) ∙ entries_of_is T is)

module _ (T : Level) (t : IsTable T) where
  abbrev n : ℕ
  n = blocks T.count

  abbrev handle : List ℕ
  handle = root_hash (written T) n

  -- For each number the blocks of a path that answers it.
  answer : (i : ℕ) → Answers (written T) n i (entry_of T i)
  answer = written_answers T t

  indices_for : List ℕ → List (List ℕ)
  indices_for [] = []
  indices_for (i ∷ is) = (answer i).indices ∷ indices_for is

  abbrev counts : List ℕ → List ℕ
  counts numbers = counts_of (indices_for numbers)

  abbrev path : ℕ → List ℕ
  path i = path_of (written T) (answer i).indices

  abbrev paths : List ℕ → List ℕ
  paths numbers = paths_of (written T) (indices_for numbers)

  path_long : (i : ℕ) → length (path i) ≡ size * length (answer i).indices
  path_long i = path_length (written T) n (omega (arith, length_written T t.sized)) (answer i).indices (answer i).are_written

  each_below : (numbers : List ℕ) → EachBelow n (indices_for numbers)
  unfolding indices_for
  each_below [] = tt
  each_below (i ∷ is) = ((answer i).are_written, each_below is)

  count_each : (numbers : List ℕ) → length numbers ≡ length (counts numbers)
  unfolding indices_for counts_of
  count_each [] = refl
  count_each (i ∷ is) = ap suc (count_each is)

  filled : (numbers : List ℕ) → size * total (counts numbers) ≡ length (paths numbers)
  unfolding indices_for counts_of paths_of total
  filled [] = refl
  filled (i ∷ is) = simp length-append (omega (arith, path_long i, filled is))

  each :
      (numbers : List ℕ) (q : ℕ) → q < length numbers →
      single handle numbers (counts numbers) (paths numbers) q ≡ accepted (entry_of T (get_or numbers q 0))
  unfolding indices_for counts_of paths_of
  each [] q l = absurd (omega arith)
  each (i ∷ is) zero l = rw (path_front _ (counts is) (path i) (paths is) (path_long i)) (answer i).answers
  each (i ∷ is) (suc q) l = rw (path_behind _ (counts is) (path i) (paths is) (path_long i) q) (each is q (omega arith))

  answers :
      (numbers : List ℕ) → length numbers ≤ 64 →
      many handle numbers (counts numbers) (paths numbers) (entry_size * length numbers) ≡ accepted (entries_of T numbers)
  answers numbers few =
      sized handle numbers (counts numbers) (paths numbers) (entry_size * length numbers)
      (record {
        handle_long = sha256_length _;
        count_each = count_each numbers;
        at_most = few;
        filled = filled numbers;
        room_due = refl;
      }) ∙
      (all_accepted (single handle numbers (counts numbers) (paths numbers)) (λ q. entry_of T (get_or numbers q 0)) 0 (length numbers)
      (λ j a b. each numbers j (omega arith)) ∙
      ap accepted (entries_of_is T numbers))

pub many_as_table : ManyAsTable
many_as_table T t numbers few =
    record { indices = indices_for T t numbers; are_written = each_below T t numbers; answers = answers T t numbers few }
