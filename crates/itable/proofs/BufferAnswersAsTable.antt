-- Both theorems about the buffer that the writer leaves: an accepted call had a table, and its blocks stand at the front of the buffer.
use Prim.Native.Nat.{ℕ, suc, ◌-◌, ◌*◌, ◌≤◌, ◌<◌}
use mathlib.Core.Bool.{true, not}
use mathlib.Core.List.{List, [], ◌∷◌, ◌++◌}
use mathlib.Core.Logic.{⊎_elim}
use mathlib.Core.Path.{◌≡◌, refl, ap, ap₂, subst}
use native.Mathlib.Omega.{arith}
use lib.Dec.{leb, ltb, eqb}
use lib.ListN.{length, get_or, drop}
use borrow.Author.Tests.{leb-true, ltb-true, eqb-true}
use Rattle.layout.specs.Bytes.{part}
use Rattle.layout.proofs.Parts.{part_append, length_of_part}
use Rattle.search.specs.Search.{find, every}
use Rattle.search.proofs.Search.{every_at}
use Rattle.search.proofs.Bool.{either_true}
use Rattle.refusal.proofs.Order.{Passing, passed, unless_passed}
use Rattle.sha256.specs.Sha256.{sha256}
use Rattle.itable.specs.Block.{size}
use Rattle.itable.specs.Table.{files, blocks, written, root_hash}
use Rattle.itable.specs.Write.{number_above, write_steps, blocks_given, writing}
use Rattle.itable.specs.Lookup.{Entry}
use Rattle.itable.specs.Answers.{IsTable, Answers, AllBelow, Collision, path_of, BufferAnswersAsTable}
use Rattle.itable.proofs.Rows.{length_written}
use Rattle.itable.proofs.WrittenAnswers.{written_answers}
use Rattle.itable.proofs.OtherwiseCollides.{otherwise_collides}

-- What the writer's tests say.
module _ (nums handles : List ℕ) (room : ℕ) (p : Passing (write_steps nums handles room)) where
  above_last : (j : ℕ) → suc j < length nums → get_or nums j 0 < get_or nums (suc j) 0
  unfolding write_steps number_above
  above_last j h =
      let e : every (number_above nums) 0 (length nums) ≡ true =
      unless_passed (every (number_above nums) 0 (length nums)) 11 (find (λ i. not (number_above nums i)) 0 (length nums)) 0 p.1.1.0 in
      let g : suc j - 1 ≡ j = omega arith in
      ⊎_elim (λ z. absurd (omega (arith, eqb-true (suc j) 0 z)))
      (λ l. subst (λ x. get_or nums x 0 < get_or nums (suc j) 0) g (ltb-true (get_or nums (suc j - 1) 0) (get_or nums (suc j) 0) l))
      (either_true (eqb (suc j) 0) (ltb (get_or nums (suc j - 1) 0) (get_or nums (suc j) 0))
      (every_at (number_above nums) 0 (length nums) e (suc j) (omega arith) (omega arith)))

  is_table : IsTable (files nums handles)
  unfolding write_steps files
  is_table =
      let few : length nums ≤ 4096 = leb-true (length nums) 4096 (unless_passed (leb (length nums) 4096) 2 0 0 p.0) in
      let l : length handles ≡ 32 * length nums =
      eqb-true (length handles) (32 * length nums) (unless_passed (eqb (length handles) (32 * length nums)) 2 0 0 p.1.0) in
      record {
        few = few;
        ascends = above_last;
        sized = λ j h. length_of_part 32 handles j (omega arith);
      }

-- Blocks at the front of longer bytes.
module _ (bytes rest : List ℕ) (n : ℕ) (h : size * n ≤ length bytes) (pos : 0 < n) where
  front : (w : ℕ) → w < n → part size (bytes ++ rest) w ≡ part size bytes w
  front w l = part_append size bytes rest w (omega arith)

  path_front : (ws : List ℕ) → AllBelow n ws → path_of (bytes ++ rest) ws ≡ path_of bytes ws
  unfolding path_of
  path_front [] b = refl
  path_front (w ∷ ws) b = ap₂ ◌++◌ (front w b.0) (path_front ws b.1)

  root_front : root_hash (bytes ++ rest) n ≡ root_hash bytes n
  root_front = ap sha256 (front (n - 1) (omega arith))

  answers_front : {i : ℕ} {e : Entry} → Answers bytes n i e → Answers (bytes ++ rest) n i e
  answers_front a =
      record {
        indices = a.indices;
        are_written = a.are_written;
        answers = rw (root_front, path_front a.indices a.are_written) a.answers;
      }

  collision_front : {path : List ℕ} → Collision bytes n path → Collision (bytes ++ rest) n path
  collision_front c =
      record {
        d = c.d;
        w = c.w;
        in_path = c.in_path;
        is_written = c.is_written;
        differ = rw (front c.w c.is_written) c.differ;
        equal_hash = rw (front c.w c.is_written) c.equal_hash;
      }

some_blocks : (n : ℕ) → 0 < blocks n
unfolding blocks
some_blocks n = omega arith

pub buffer_answers : BufferAnswersAsTable
unfolding blocks_given writing files
buffer_answers nums handles buffer out b g w i =
    let n : ℕ = blocks (length nums) in
    let p = passed (write_steps nums handles (length buffer)) g in
    let eb : n ≡ b = cc p.1 in
    let rest : List ℕ = drop (size * n) buffer in
    let eo : written (files nums handles) ++ rest ≡ out = cc (passed (write_steps nums handles (length buffer)) w).1 in
    let t : IsTable (files nums handles) = is_table nums handles (length buffer) p.0 in
    let l : size * n ≤ length (written (files nums handles)) = omega (arith, length_written (files nums handles) t.sized) in
    let pos : 0 < n = some_blocks (length nums) in
    rw (← eb, ← eo)
    (record {
      as_table = answers_front (written (files nums handles)) rest n l pos (written_answers (files nums handles) t i);
      otherwise = λ path e h ne.
          collision_front (written (files nums handles)) rest n l pos
          (otherwise_collides (files nums handles) t i path e (rw (root_front (written (files nums handles)) rest n l pos) at h) ne);
    })
