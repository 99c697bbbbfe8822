-- The four calls by their stages: after tests that pass, each is what is left to do.
use Prim.Native.Nat.{ℕ, ◌≤◌}
use mathlib.Core.Bool.{Bool, true, false, not, ◌&&◌, ◌||◌}
use mathlib.Core.List.{List, [], ◌∷◌}
use mathlib.Core.Logic.{⊎_elim}
use mathlib.Core.Path.{◌≡◌, sym, ◌∙◌}
use native.Mathlib.Omega.{arith}
use lib.Dec.{eqb}
use lib.ListN.{length, set, length-drop}
use Rattle.std.specs.Prelude.{Result, Ok, Err}
use Rattle.search.proofs.Bool.{bool_cases}
use Rattle.refusal.specs.Answer.{Answer, accepted}
use Rattle.refusal.specs.Order.{unless, in_order, tried}
use Rattle.refusal.specs.Refusal.{refusal, said}
use Rattle.refusal.specs.declared.Refusal.{Refusal}
use Rattle.refusal.specs.declared.Refusal.TheVariants.{Pending}
use Rattle.refusal.proofs.Stage.{stage_passed, stage_refused}
use Rattle.protocol.specs.Version.{size}
use Rattle.protocol.specs.Check.{remembers}
use Rattle.protocol.specs.MemoryFile.{file_size, state, held, own_formed, formed, file_of, pending_of, sent_of, file_steps, over, back, sent, pend}

-- What is left after the tests, as the code makes them: `long` and `good` are what it found of the lengths and of the form.
module _ (N u : ℕ) (x : List ℕ) (room : ℕ) (long good : Bool) where
  pub over_due :
      long ≡ ((eqb (length x) 0 || eqb (length x) size) && eqb room file_size) → good ≡ remembers N u x →
      over N u x room ≡ in_order (file_steps N u long good) (accepted (file_of x))
  unfolding over
  over_due l g = rw (l, g)

  pub pend_due :
      long ≡ (eqb (length x) size && eqb room file_size) → good ≡ own_formed N u x →
      pend N u x room ≡ in_order (file_steps N u long good) (accepted (pending_of x))
  unfolding pend
  pend_due l g = rw (l, g)

pub sent_due :
    (N u : ℕ) (f : List ℕ) (good : Bool) → good ≡ formed N u f →
    sent N u f ≡ in_order (file_steps N u (eqb (length f) file_size) good) (accepted (sent_of f))
unfolding sent
sent_due N u f good g = rw g

-- A pending file is set to sent, and any other stays.
module _ (f : List ℕ) (p : Bool) (e : p ≡ eqb (state f) 1) where
  pub sent_kept : p ≡ false → f ≡ sent_of f
  unfolding sent_of
  sent_kept n = rw (sym e ∙ n)

pub sent_set : (f : List ℕ) (p : Bool) → p ≡ eqb (state f) 1 → p ≡ true → length f ≡ 100 → set f 1 0 ≡ sent_of f
unfolding sent_of
sent_set [] p e t l = absurd (omega arith)
sent_set (a ∷ []) p e t l = absurd (omega arith)
sent_set (a ∷ b ∷ f) p e t l = rw (sym e ∙ t)

-- A file's structure is not longer than what is behind its state.
pub held_short : (f : List ℕ) → length f ≡ 100 → length (held f) ≤ 98
unfolding held
held_short f l =
    ⊎_elim (λ e. rw e (omega arith)) (λ e. rw e (simp length-drop (omega arith))) (bool_cases (eqb (state f) 2))

-- Moving back.
module _ (N u : ℕ) (f : List ℕ) (room : ℕ) (long good : Bool) (l : long ≡ (eqb (length f) file_size && eqb room size)) (g : good ≡ formed N u f)
    (c : Result Unit Refusal) (e : said c ≡ tried (file_steps N u long good)) where
  abbrev later : Answer (List ℕ)
  later = in_order (unless (not (eqb (state f) 1)) 17 0 0 ∷ []) (accepted (held f))

  back_due : back N u f room ≡ in_order (file_steps N u long good) later
  unfolding back
  back_due = rw (l, g)

  pub back_refused : {r : Refusal} → c ≡ Err r → back N u f room ≡ refusal r
  back_refused q = back_due ∙ stage_refused (file_steps N u long good) c e later q

  module _ {v : Unit {0}} (q : c ≡ Ok v) (p : Bool) (ep : p ≡ eqb (state f) 1) where
    back_later : back N u f room ≡ later
    back_later = back_due ∙ stage_passed (file_steps N u long good) c e later q

    pub back_pending : p ≡ true → back N u f room ≡ refusal Pending
    unfolding in_order
    back_pending t = back_later ∙ rw (sym ep ∙ t)

    pub back_held : p ≡ false → back N u f room ≡ accepted (held f)
    unfolding in_order
    back_held t = back_later ∙ rw (sym ep ∙ t)
