-- The answers of a client's check, of its making step and of a server's calls are read back: no position is above 16, and no list has more
-- records.
use Prim.Native.Nat.{ℕ, suc, zero, ◌+◌, ◌*◌, ◌≤◌, ◌<◌}
use mathlib.Core.Bool.{Bool, true, false, cond}
use mathlib.Core.List.{List, []}
use mathlib.Core.Logic.{⊎_elim}
use mathlib.Core.Path.{◌≡◌, refl, ap}
use native.Mathlib.Omega.{arith}
use lib.Dec.{leb, eqb}
use borrow.Author.Tests.{ne_eqb}
use lib.ListN.{length, drop, length-append, length-take}
use Rattle.refusal.specs.Answer.{Answer, accepted, refused, and_then}
use Rattle.protocol.specs.Version.{size, owner, count, own, well_formed, Standing, equal, before, after, apart, standing}
use Rattle.protocol.specs.List.{records}
use Rattle.protocol.specs.MemoryFile.{Verdict, next, again, over, back, sent, pend, create_file}
use Rattle.protocol.specs.History.{Call, Making, created_on}
use Rattle.protocol.specs.CreateFileMeaning as Create
use Rattle.protocol.specs.CheckFileMeaning.{ToSizes, Why, users, lengths, malformed, placed, unmarked, not_current, last, unordered}
use Rattle.protocol.specs.MemoryMeaning as File
use Rattle.protocol.proofs.FileForm.{held_length}
use Rattle.protocol.proofs.MemoryMeans.{over_means, back_means, sent_means, pend_means}
use Rattle.protocol.proofs.CheckFileMeans.{check_file_means}
use Rattle.protocol.proofs.CreateFileMeans.{create_file_means}
use Rattle.protocol.specs.Server.{make_steps, make, empty, slot, held, held_own, held_from, all_held, list_steps, listed, follows, replaced, commit_steps, commit}
use Rattle.protocol.specs.declared.Server.{Server}
use Rattle.version.specs.Version.{count_in}
use Rattle.sundr.specs.Check.{check_into, send_again, verdict_word}
use Rattle.sundr.specs.Compare.{compared, standing_number}
use Rattle.sundr.specs.Server.{size_steps, server_in, bytes_of, make_at, listed_at}
use Rattle.sundr.specs.Read.{IsRead, IsReadPlain, verdict_in, said}
use Rattle.sundr.proofs.Counts.{into_refused}
use Rattle.sundr.proofs.Fits.{Fits, small, small_fits, each_fits, parts_read, result_read, answer_read, in_order_read, plain_read, plain_then}

-- The check's refusals, by their reasons: a list that is looked at has no more records than there are users, sixteen at most.
module _ (N : ℕ) (f : List ℕ) (c : Call) where
  few : ToSizes N f c → records c.list ≤ 16
  few w = omega (arith, w.0.1, w.1.0.at_most)

  why_fits : (n p q : ℕ) → Why N f c n p q → (n ≤ 17) × Fits n p q
  why_fits n p q (users x) = (omega arith, small 1 0 refl)
  why_fits n p q (lengths w x) = (omega arith, small 2 0 refl)
  why_fits n p q (malformed w x) = (omega arith, small 3 16 refl)
  why_fits n p q (placed i w x) = (omega arith, (omega arith, omega arith, omega (arith, x.within, few w.0), omega arith))
  why_fits n p q (unmarked i w x) = (omega arith, (omega arith, omega arith, omega (arith, x.within, few w.0.0), omega arith))
  why_fits n p q (not_current w x s) = (omega arith, small 5 0 refl)
  why_fits n p q (last w x) = (omega arith, small 6 0 refl)
  why_fits n p q (unordered i j w x) =
      let h = few w.0.0.0.0.0 in
      (omega arith, (omega arith, omega arith, omega (arith, x.below, x.within, h), omega (arith, x.within, h)))

-- The three answers of a check are told apart, since no refusal has the number of "send again".
abbrev VerdictRead : Answer Verdict → Type 0
VerdictRead x = verdict_in (verdict_word x) ≡ said x

refusal_told : (n p q : ℕ) → n ≤ 17 → Fits n p q → VerdictRead (refused n p q)
unfolding verdict_in
refusal_told n p q l f =
    let t = parts_read n p q f.1 f.2 f.3 in
    rw (t.0, t.1, t.2, ne_eqb n 0 (omega (arith, f.0)), ne_eqb n send_again (omega arith))

verdict_read : (x : Answer Verdict) → ((n p q : ℕ) → x ≡ refused n p q → (n ≤ 17) × Fits n p q) → VerdictRead x
unfolding verdict_in
verdict_read (accepted (next counts)) g = refl
verdict_read (accepted (again x)) g = refl
verdict_read (refused n p q) g = let h = g n p q refl in refusal_told n p q h.0 h.1

pub check_read : (N u : ℕ) (f list marks : List ℕ) (countsRoom againRoom : ℕ) → VerdictRead (check_into N u f list marks countsRoom againRoom)
check_read N u f list marks countsRoom againRoom =
    let c : Call = record { user = u; list = list; marks = marks } in
    verdict_read (check_into N u f list marks countsRoom againRoom)
    (λ n p q e.
    ⊎_elim (λ r. rw (r.0, r.1, r.2) (omega arith, small 1 0 refl))
    (⊎_elim (λ r. rw (r.0, r.1, r.2) (omega arith, small 2 0 refl)) (λ r. why_fits N f c n p q (((check_file_means N f c).2 n p q).0 r)))
    (into_refused N u countsRoom againRoom f list marks n p q e))

making_fits : (N : ℕ) (f : List ℕ) (m : Making) (n p q : ℕ) → Create.Why N f m n p q → Fits n p q
making_fits N f m n p q (Create.users x) = small 1 0 refl
making_fits N f m n p q (Create.lengths w x) = small 2 0 refl
making_fits N f m n p q (Create.malformed w x) = small 3 16 refl
making_fits N f m n p q (Create.beyond w x) = small 3 0 refl
making_fits N f m n p q (Create.last w x) = small 6 0 refl
making_fits N f m n p q (Create.not_next w x) = small 16 0 refl

pub create_read : (N u : ℕ) (f counts handle : List ℕ) (room : ℕ) → IsReadPlain (create_file N u f counts handle room)
create_read N u f counts handle room =
    let m : Making = record { user = u; counts = counts; handle = handle; room = room } in
    answer_read (λ a. 0) (λ a. 0) (created_on N f m) (λ a e. (omega arith, omega arith))
    (λ n p q e. making_fits N f m n p q (((create_file_means N f m).1 n p q).0 e))

-- The calls that write a file, by the reasons that they share.
file_fits : (N u : ℕ) {L F G : Type 0} (n p q : ℕ) → File.Why N u L F G n p q → Fits n p q
file_fits N u n p q (File.users x) = small 1 0 refl
file_fits N u n p q (File.lengths w x) = small 2 0 refl
file_fits N u n p q (File.malformed w l x) = small 3 16 refl
file_fits N u n p q (File.pending w l f x) = small 17 0 refl

pub pend_read : (N u : ℕ) (x : List ℕ) (room : ℕ) → IsReadPlain (pend N u x room)
pend_read N u x room =
    answer_read (λ a. 0) (λ a. 0) (pend N u x room) (λ a e. (omega arith, omega arith))
    (λ n p q e. file_fits N u n p q (((pend_means N u x room).1 n p q).0 e))

pub sent_read : (N u : ℕ) (f : List ℕ) → IsReadPlain (sent N u f)
sent_read N u f =
    answer_read (λ a. 0) (λ a. 0) (sent N u f) (λ a e. (omega arith, omega arith))
    (λ n p q e. file_fits N u n p q (((sent_means N u f).0.1 n p q).0 e))

pub over_read : (N u : ℕ) (old : List ℕ) (room : ℕ) → IsReadPlain (over N u old room)
over_read N u old room =
    answer_read (λ a. 0) (λ a. 0) (over N u old room) (λ a e. (omega arith, omega arith))
    (λ n p q e. file_fits N u n p q (((over_means N u old room).1 n p q).0 e))

pub back_read : (N u : ℕ) (f : List ℕ) (room : ℕ) → IsRead length (λ x. 0) (back N u f room)
back_read N u f room =
    answer_read length (λ x. 0) (back N u f room)
    (λ a e.
    let w = ((back_means N u f room).0 a).0 e in
    (⊎_elim (λ z. omega (arith, ap length w.1)) (λ z. omega (arith, ap length w.1)) (held_length f w.0.1.0), omega arith))
    (λ n p q e. file_fits N u n p q (((back_means N u f room).1 n p q).0 e))

number_small : (s : Standing) → standing_number s < 4
number_small equal = omega arith
number_small before = omega arith
number_small after = omega arith
number_small apart = omega arith

pub compare_read : (x y : List ℕ) → IsRead standing_number (λ s. 0) (compared x y)
compare_read x y =
    let s = standing (count_in x) (count_in y) in
    result_read standing_number (λ t. 0) s (omega (arith, number_small s)) (omega arith)

pub make_read : (N : ℕ) (b : List ℕ) → IsReadPlain (make_at N b)
unfolding make_at make make_steps size_steps
make_read N b =
    in_order_read (λ a. 0) (λ a. 0) (size_steps b) (and_then (make N) (λ s. accepted (bytes_of s))) (small_fits (eqb (length b) 1569) 2 0 refl, tt)
    (λ t.
    plain_then (make N) bytes_of
    (plain_read (make_steps N) (empty N)
    (small_fits (leb 1 N) 1 0 refl, (small_fits (leb N 16) 1 0 refl, tt))))

-- Sixteen places hold sixteen records at most, whatever their bytes are.
module _ (s : Server) where
  place_short : (v : ℕ) (b : Bool) → length (cond b [] (slot s v)) ≤ size
  place_short v true = omega arith
  place_short v false = omega (arith, length-take size (drop (size * v) s.records))

  held_short : (v k : ℕ) → length (held_from s v k) ≤ size * k
  unfolding held_from held
  held_short v zero = omega arith
  held_short v (suc k) =
      let a = place_short v (eqb (count (slot s v) v) 0) in let b = held_short (suc v) k in simp length-append (omega arith)

pub list_read : (b : List ℕ) (room : ℕ) → IsRead (λ n. n) (λ n. 0) (listed_at b room)
unfolding listed_at size_steps listed list_steps
list_read b room =
    let s : Server = server_in b in
    in_order_read (λ n. n) (λ n. 0) (size_steps b) (listed s room) (small_fits (eqb (length b) 1569) 2 0 refl, tt)
    (λ t.
    in_order_read (λ n. n) (λ n. 0) (list_steps s room) (accepted (records (all_held s))) (small_fits (leb (length (all_held s)) room) 12 0 refl, tt)
    (λ u. result_read (λ n. n) (λ n. 0) (records (all_held s)) (omega (arith, held_short s 0 16)) (omega arith)))

pub commit_read : (s : Server) (x : List ℕ) (mark : ℕ) → IsReadPlain (commit s x mark)
unfolding commit commit_steps
commit_read s x mark =
    plain_read (commit_steps s x mark) (replaced s x) (
      small_fits (eqb (length x) size) 2 0 refl,
      (
        small_fits (well_formed s.users x) 3 0 refl,
        (
          small_fits (eqb mark 1) 4 0 refl,
          (
            small_fits (eqb (own x) (held_own s (owner x) + 1)) 5 0 refl,
            (each_fits (follows s x) 16 7 (omega arith) (omega arith) (omega arith), tt),
          ),
        ),
      ),
    )
