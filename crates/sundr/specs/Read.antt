-- What a caller in C reads in an answer's number, with the functions that include/sundr.h gives for it.
use Rattle.std.specs.Prelude.{ℕ, ◌/◌, ◌%◌, ◌^◌, cond, List, ◌≡◌, eqb, length}
use Rattle.refusal.specs.Answer.{Answer, accepted, refused, and_then}
use Rattle.refusal.specs.Word.{answer_word}
use Rattle.sha256.specs.Hash.{hash}
use Rattle.protocol.specs.MemoryFile.{Verdict, next, again, over, back, sent, pend, create_file}
use Rattle.protocol.specs.Server.{commit}
use Rattle.protocol.specs.declared.Server.{Server}
use Rattle.itable.specs.Write.{blocks_given}
use Rattle.itable.specs.Many.{many}
use Rattle.itable.specs.Inode.{Span, block_check}
use Rattle.itable.specs.LargeInode.{large_check}
use Rattle.cache.specs.Choose.{choose}
use Rattle.store.specs.Calls.{make as store_make, store as store_block, retrieve, Unreferenced, unreference}
use Rattle.sundr.specs.Check.{check_into, send_again, verdict_word}
use Rattle.sundr.specs.Compare.{compared, standing_number}
use Rattle.sundr.specs.Choose.{part_number, part_length}
use Rattle.sundr.specs.Server.{make_at, listed_at}
use Rattle.sundr.specs.Lookup.{looked_up, is_found}

-- `sundr_refusal`: bits 0 to 7.
abbrev pub refusal_in : ℕ → ℕ
refusal_in w = w % 2 ^ 8

-- `sundr_first`: bits 8 to 31.
abbrev pub first_in : ℕ → ℕ
first_in w = w / 2 ^ 8 % 2 ^ 24

-- `sundr_second`: bits 32 to 63.
abbrev pub second_in : ℕ → ℕ
second_in w = w / 2 ^ 32 % 2 ^ 32

-- The two results of an accepted call.
pub record Results : Type 0 where
  pub first : ℕ
  pub second : ℕ

-- The answer that a caller reads: accepted where the refusal is 0, with two results; else refused, with two positions.
unfoldable pub answer_in : ℕ → Answer Results
answer_in w =
    cond (eqb (refusal_in w) 0) (accepted (record { first = first_in w; second = second_in w }))
    (refused (refusal_in w) (first_in w) (second_in w))

-- What is read in the number of an answer is that answer, with its result as the two numbers that tell it.
abbrev pub IsRead : {A : Type 0} → (A → ℕ) → (A → ℕ) → Answer A → Type 0
IsRead first second x =
    answer_in (answer_word first second x) ≡ and_then x (λ a. accepted (record { first = first a; second = second a }))

-- The same where no number tells the result: both are 0.
abbrev pub IsReadPlain : {A : Type 0} → Answer A → Type 0
IsReadPlain = IsRead (λ a. 0) (λ a. 0)

-- The three answers of a check, as a caller reads them: `sundr_refusal` is 0, or 255, or a refusal's number.
pub data Said : Type 0 where
  accepts : Said
  sends_it_again : Said
  refuses : ℕ → ℕ → ℕ → Said

unfoldable pub verdict_in : ℕ → Said
verdict_in w =
    cond (eqb (refusal_in w) 0) accepts
    (cond (eqb (refusal_in w) send_again) sends_it_again
    (refuses (refusal_in w) (first_in w) (second_in w)))

abbrev pub said : Answer Verdict → Said
said (accepted (next counts)) = accepts
said (accepted (again x)) = sends_it_again
said (refused n p q) = refuses n p q

-- So it is with every call of include/sundr.h, whatever is given: no number, position or result is too large for its bits. The numbers are
-- those of the contracts in src/.
pub record AnswersRead : Type 0 where
  pub sha256 : (message : List ℕ) (room : ℕ) → IsReadPlain (hash message room)
  pub check :
      (users user : ℕ) (file list marks : List ℕ) (countsRoom againRoom : ℕ) →
      verdict_in (verdict_word (check_into users user file list marks countsRoom againRoom)) ≡
      said (check_into users user file list marks countsRoom againRoom)
  pub create : (users user : ℕ) (file counts handle : List ℕ) (room : ℕ) → IsReadPlain (create_file users user file counts handle room)
  pub pend : (users user : ℕ) (x : List ℕ) (room : ℕ) → IsReadPlain (pend users user x room)
  pub sent : (users user : ℕ) (file : List ℕ) → IsReadPlain (sent users user file)
  pub over : (users user : ℕ) (old : List ℕ) (room : ℕ) → IsReadPlain (over users user old room)
  pub back : (users user : ℕ) (file : List ℕ) (room : ℕ) → IsRead length (λ x. 0) (back users user file room)
  pub compare : (x y : List ℕ) → IsRead standing_number (λ s. 0) (compared x y)
  pub make : (users : ℕ) (server : List ℕ) → IsReadPlain (make_at users server)
  pub list : (server : List ℕ) (room : ℕ) → IsRead (λ n. n) (λ n. 0) (listed_at server room)
  pub commit : (server : Server) (x : List ℕ) (mark : ℕ) → IsReadPlain (commit server x mark)
  pub write : (numbers : List ℕ) (handles : List ℕ) (room : ℕ) → IsRead (λ n. n) (λ n. 0) (blocks_given numbers handles room)
  pub lookup : (handle : List ℕ) (number : ℕ) (path : List ℕ) (room : ℕ) → IsRead is_found (λ e. 0) (looked_up handle number path room)
  pub many : (handle numbers counts paths : List ℕ) (room : ℕ) → IsReadPlain (many handle numbers counts paths room)
  pub block :
      (handle inode : List ℕ) (index : ℕ) (block : List ℕ) →
      IsRead (λ (a : Span). a.offset) (λ a. a.size) (block_check handle inode index block)
  pub large_block :
      (handle inode : List ℕ) (index : ℕ) (indirect block : List ℕ) →
      IsRead (λ (a : Span). a.offset) (λ a. a.size) (large_check handle inode index indirect block)
  pub choose : (wanted reply cached : List ℕ) → IsRead part_number (part_length reply cached) (choose wanted reply cached)
  pub make_store : (store : List ℕ) → IsReadPlain (store_make store)
  pub store : (store : List ℕ) (user : ℕ) (block : List ℕ) → IsReadPlain (store_block store user block)
  pub retrieve : (store hash : List ℕ) (room : ℕ) → IsRead length (λ b. 0) (retrieve store hash room)
  pub unreference :
      (store : List ℕ) (user : ℕ) (hash : List ℕ) → IsRead (λ (t : Unreferenced). t.took) (λ t. 0) (unreference store user hash)
