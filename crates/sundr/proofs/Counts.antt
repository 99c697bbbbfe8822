-- A check's counts in a lent array, and its bytes in a lent buffer: why there is no check where one is of another length, and what is there
-- where neither is.
use Prim.Native.Nat.{ℕ}
use mathlib.Core.Bool.{◌&&◌}
use mathlib.Core.List.{List, [], ◌∷◌}
use mathlib.Core.Logic.{◌⊎◌, inl, inr, ⊎_elim}
use mathlib.Core.Path.{◌≡◌, refl, sym, ap, ◌∙◌}
use lib.Dec.{eqb}
use borrow.Author.Tests.{eqb-true, eq-eqb}
use Rattle.search.proofs.Bool.{both_true}
use Rattle.std.specs.Prelude.{Result, Ok, Err}
use Rattle.refusal.specs.Answer.{Answer, refused, and_then}
use Rattle.refusal.specs.Order.{tried}
use Rattle.refusal.specs.Refusal.{refusal}
use Rattle.refusal.specs.Word.{plain_word}
use Rattle.refusal.specs.declared.Refusal.{Refusal}
use Rattle.refusal.proofs.Means as Means
use Rattle.refusal.proofs.Means.{Stage, Either, Unless, and_then_means, tests_mean}
use Rattle.refusal.proofs.Numbered.{numbered, ends}
use Rattle.refusal.proofs.Order.{in_stage}
use Rattle.protocol.specs.Version.{size}
use Rattle.protocol.specs.MemoryFile.{Verdict as Due, check_file}
use Rattle.protocol.specs.History.{Call}
use Rattle.protocol.specs.Meaning.{Users}
use Rattle.protocol.specs.CheckFileMeaning.{users}
use Rattle.protocol.proofs.CheckMeans.{users_stage}
use Rattle.protocol.proofs.CheckFileMeans.{check_file_means}
use Rattle.client.specs.Judged.{told}
use Rattle.client.specs.declared.Verdict.{Verdict}
use Rattle.client.specs.declared.Verdict.TheVariants.{Next, Again}
use Rattle.sundr.specs.Check.{room_steps, check_into, send_again, verdict_word, counts_left, again_left}

-- The answer `due` is told by this number, and array and buffer are these after it.
abbrev pub Tells : Answer Due → ℕ → List ℕ → List ℕ → List ℕ → List ℕ → Type 0
Tells due w counts again counts-after again-after =
    (w ≡ verdict_word due) × ((counts-after ≡ counts_left due counts) × (again-after ≡ again_left due again))

pub tells_refusal :
    {due : Answer Due} {w : ℕ} {counts again : List ℕ} (r : Refusal) → due ≡ refusal r → w ≡ plain_word {A = Unit} (refusal r) →
    Tells due w counts again counts again
tells_refusal r d e = let n = numbered r in (rw (d, n.3 Due) (e ∙ rw (n.3 Unit)), (rw (d, n.3 Due), rw (d, n.3 Due)))

module _ (N u room bytes : ℕ) where
  -- There is room for both.
  abbrev Room : Type 0
  Room = (room ≡ 16) × (bytes ≡ size)

  room_means : Stage (room_steps N u room bytes) (Users N u × Room) (Either (Users N u) (Unless (Users N u) 1 0 0) (Unless Room 2 0 0))
  unfolding room_steps
  room_means =
      and_then_means _ _ (users_stage N u)
      (λ w.
      tests_mean ((eqb room 16 && eqb bytes size) ∷ []) 2 0 0
      (λ t. let p = both_true (eqb room 16) (eqb bytes size) t.0 in (eqb-true room 16 p.0, eqb-true bytes size p.1))
      (λ e. (rw (eq-eqb room 16 e.0, eq-eqb bytes size e.1), tt)))

  pub no_user : (Users N u → ⊥) → tried (room_steps N u room bytes) ≡ refused 1 0 0
  no_user f = room_means.refuses (inl (f, refl, refl, refl))

  pub other_room : Users N u → (Room → ⊥) → tried (room_steps N u room bytes) ≡ refused 2 0 0
  other_room w f = room_means.refuses (inr (w, (f, refl, refl, refl)))

  -- The call, by its lengths, and where they are right by the check's answer.
  module _ (file list marks : List ℕ) where
    abbrev due : Answer Due
    due = check_into N u file list marks room bytes

    abbrev judged : Answer Due
    judged = check_file N u file list marks

    pub room_refuses :
        (r : Refusal) {w : ℕ} {counts again : List ℕ} → tried (room_steps N u room bytes) ≡ refusal r → w ≡ plain_word {A = Unit} (refusal r) →
        Tells due w counts again counts again
    unfolding check_into
    room_refuses r e n =
        tells_refusal r
        (in_stage (room_steps N u room bytes) judged ∙
        (ap (λ (a : Answer Unit). and_then a (λ z. judged)) e ∙ ends r (λ (z : Unit {0}). judged)))
        n

    -- A refusal is one of the two before the check, or the check's.
    pub into_refused :
        (n p q : ℕ) → due ≡ refused n p q →
        ((n ≡ 1) × (p ≡ 0) × (q ≡ 0)) ⊎ (((n ≡ 2) × (p ≡ 0) × (q ≡ 0)) ⊎ (judged ≡ refused n p q))
    unfolding check_into
    into_refused n p q e =
        ⊎_elim (λ w. inr (inr (sym (Means.goes_on_to (room_steps N u room bytes) room_means judged w) ∙ e)))
        (λ r.
        let x : refused r.0 r.1 r.2 ≡ refused n p q =
        sym (Means.ends (room_steps N u room bytes) room_means judged r.3) ∙ e
        in
        let a : r.0 ≡ n = cc in
        let b : r.1 ≡ p = cc in
        let c : r.2 ≡ q = cc in
        ⊎_elim (λ h. inl (sym a ∙ h.1, sym b ∙ h.2, sym c ∙ h.3)) (λ h. inr (inl (sym a ∙ h.1.1, sym b ∙ h.1.2, sym c ∙ h.1.3))) r.3)
        room_means.cases

    module _ (e : Room) (j : Result Verdict Refusal) (g : told j ≡ judged) where
      -- Whoever is no user, the check refuses in the same way.
      same_due : due ≡ judged
      unfolding check_into
      same_due =
          let c : Call = record { user = u; list = list; marks = marks } in
          ⊎_elim (λ w. Means.goes_on_to (room_steps N u room bytes) room_means judged (w, e))
          (λ r.
          let f : Users N u → ⊥ = r.3.0 in
          Means.ends (room_steps N u room bytes) room_means judged (inl (f, refl, refl, refl)) ∙
          sym (((check_file_means N file c).2 1 0 0).1 (users f)))
          (users_stage N u).cases

      says : {v : Result Verdict Refusal} → j ≡ v → due ≡ told v
      says q = same_due ∙ (sym g ∙ ap told q)

      pub tells_next :
          {w : ℕ} {given : List ℕ} (counts again after : List ℕ) → j ≡ Ok (Next given) → w ≡ 0 → after ≡ given → Tells due w counts again after again
      tells_next counts again after q z a = rw (says q) (z, (a, refl))

      pub tells_again :
          {w : ℕ} {bytes : List ℕ} (counts again after : List ℕ) → j ≡ Ok (Again bytes) → w ≡ send_again → after ≡ bytes → Tells due w counts again counts after
      tells_again counts again after q z a = rw (says q) (z, (refl, a))

      pub tells_refused :
          {w : ℕ} {counts again : List ℕ} (r : Refusal) → j ≡ Err r → w ≡ plain_word {A = Unit} (refusal r) → Tells due w counts again counts again
      tells_refused r q = tells_refusal r (says q)
