-- What a caller in C is handed: a pointer and a length, with the functions that include/sundr.h gives for them.
use Rattle.std.specs.Prelude.{ℕ, cond, List, ◌≡◌, eqb, length}
use Rattle.std.specs.Borrow.{Bor}
use Rattle.refusal.specs.Word.{answer_word}
use Rattle.cache.specs.Choose.{choose}
use Rattle.cache.specs.HandedBack.{HandedBack}
use Rattle.sundr.specs.Choose.{part_number, part_length}
use Rattle.sundr.specs.Read.{first_in, second_in}

-- `sundr_chosen`: one of two pointers, by the first number alone. `sundr_chosen_len` is the second number, `second_in`.
abbrev pub pointer_in : {A : Type 0} → ℕ → A → A → A
pointer_in w reply cached = cond (eqb (first_in w) 0) reply cached

-- They are those of the slice r that `cache::block` hands back, whether the answer is accepted or refused: C is told where it begins, and how long it
-- is.
abbrev pub ChosenRead : Type 0
ChosenRead =
    (wanted : List ℕ) (reply cached r : Bor (List ℕ)) (w : ℕ) → HandedBack (choose wanted reply.now cached.now) reply cached r →
    w ≡ answer_word part_number (part_length reply.now cached.now) (choose wanted reply.now cached.now) →
    (pointer_in w reply.ref_ptr cached.ref_ptr ≡ r.ref_ptr) × (second_in w ≡ length r.now)
