-- The pointer and the length that C makes of a choice's number are those of the slice that is handed back.
use Prim.Native.Nat.{ℕ}
use mathlib.Core.Bool.{cond}
use mathlib.Core.List.{List}
use mathlib.Core.Path.{◌≡◌, refl, sym, ◌∙◌}
use native.Mathlib.Omega.{arith}
use lib.Dec.{eqb}
use lib.ListN.{length}
use denote.Ref.{Bor}
use Rattle.refusal.specs.Answer.{Answer, accepted, refused}
use Rattle.refusal.specs.Word.{answer_word}
use Rattle.cache.specs.Choose.{Choice, from_reply, from_cache, choose, chosen}
use Rattle.cache.specs.ChooseMeaning.{Why, lengths, neither}
use Rattle.cache.specs.HandedBack.{HandedBack}
use Rattle.cache.proofs.ChooseMeans.{choose_means}
use Rattle.sundr.specs.Choose.{part_number, part_length}
use Rattle.sundr.specs.Chosen.{pointer_in, ChosenRead}
use Rattle.sundr.specs.Read.{second_in}
use Rattle.sundr.proofs.Fits.{parts_read}
use Rattle.sundr.proofs.ReadChoose.{part_fits}

module _ (wanted : List ℕ) (reply cached r : Bor (List ℕ)) where
  abbrev number_of : Answer Choice → ℕ
  number_of = answer_word part_number (part_length reply.now cached.now)

  abbrev Told : ℕ → Type 0
  Told w = (pointer_in w reply.ref_ptr cached.ref_ptr ≡ r.ref_ptr) × (second_in w ≡ length r.now)

  -- Of either part, the number leads to its pointer, and its bytes are those that are counted.
  by_part :
      (c : Choice) →
      (cond (eqb (part_number c) 0) reply.ref_ptr cached.ref_ptr ≡ (chosen c reply cached).ref_ptr) ×
      (part_length reply.now cached.now c ≡ length (chosen c reply cached).now)
  by_part from_reply = (refl, refl)
  by_part from_cache = (refl, refl)

  -- A refusal's positions are 0: read as an accepted answer's results, they are the reply, and no bytes of it.
  by_reason :
      (n i j : ℕ) → Why wanted reply.now cached.now n i j → HandedBack (refused n i j) reply cached r → Told (number_of (refused n i j))
  by_reason n i j (lengths f) h = (sym h.1, rw h.0)
  by_reason n i j (neither s f g) h = (sym h.1, rw h.0)

  by_answer :
      (x : Answer Choice) → choose wanted reply.now cached.now ≡ x → HandedBack x reply cached r → Told (number_of x)
  by_answer (accepted c) e h =
      let f = part_fits wanted reply.now cached.now c (((choose_means wanted reply.now cached.now).0 c).0 e) in
      let t = parts_read 0 (part_number c) (part_length reply.now cached.now c) (omega arith) f.0 f.1 in
      (rw (t.1, h) (by_part c).0, t.2 ∙ rw h (by_part c).1)
  by_answer (refused n i j) e h = by_reason n i j (((choose_means wanted reply.now cached.now).1 n i j).0 e) h

pub chosen_read : ChosenRead
chosen_read wanted reply cached r w h e = rw e (by_answer wanted reply cached r (choose wanted reply.now cached.now) refl h)
