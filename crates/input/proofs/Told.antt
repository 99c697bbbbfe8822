-- The answer of the whole input.
use Prim.Native.Nat.{ℕ}
use mathlib.Core.List.{List}
use mathlib.Core.Logic.{◌⊎◌}
use mathlib.Core.Path.{◌≡◌, refl, sym, ap, ◌∙◌}
use lib.ListN.{length}
use Rattle.std.specs.Prelude.{Result, Ok, Err, Option, None, Some, is_some, IfSome, MatchOption}
use Rattle.std.specs.Option.{IsSomeAnd}
use Rattle.layout.specs.Bytes.{parts}
use Rattle.std.specs.Result.{IsErrAnd}
use Rattle.protocol.specs.Check.{check}
use Rattle.protocol.specs.MemoryFile.{file_of, Verdict as Due, check_file, create_file}
use Rattle.protocol.specs.Moved.{as_verdict}
use Rattle.protocol.proofs.FileCalls.{accepted_counts, refusal_of, not_again}
use Rattle.protocol.proofs.Moved.{moved}
use Rattle.client.specs.Judged.{told}
use Rattle.client.specs.declared.Verdict.{Verdict}
use Rattle.client.specs.declared.Verdict.TheVariants.{Next, Again}
use Rattle.refusal.specs.Answer.{accepted, and_then}
use Rattle.refusal.specs.Refusal.{said, checked}
use Rattle.refusal.specs.declared.Refusal.{Refusal}
use Rattle.refusal.proofs.Match.{returned}
use Rattle.refusal.proofs.Numbered.{numbered, ends}
use Rattle.input.specs.Form.{users, user, handle, memory, sent, first_marks, first_records, formed}
use Rattle.input.specs.Report.{answer, sixteen, answered, judgement, told as told_by}
use Rattle.input.specs.declared.Parts.{Parts}

-- The answer of the two calls on the file of what is remembered is the one that the definition gives: that of a refused check, or of the making
-- step after an accepted one. The file is never answered with "send again".
module _
    (N u : ℕ)
    (mem f list marks : List ℕ)
    (long : (length mem ≡ 0) ⊎ (length mem ≡ 98))
    (of : f ≡ file_of mem)
    (j : Result Verdict Refusal)
    (g : told j ≡ check_file N u f list marks)
  where
    -- What is judged, as the verdict that it is.
    judged_as : {v : Result Verdict Refusal} → j ≡ v → as_verdict (check N u mem list marks) ≡ told v
    judged_as e =
        sym (moved.check_moved N u mem list marks long) ∙
        (ap (λ (x : List ℕ). check_file N u x list marks) (sym of) ∙ (sym g ∙ ap told e))

    pub told_again : {A : Type 0} {bytes : List ℕ} → j ≡ Ok (Again bytes) → A
    told_again {bytes = bytes} e = absurd (not_again (check N u mem list marks) bytes (judged_as e))

    module _ (handle : List ℕ) where
      pub told_check :
          {r : Refusal} (a : Result (List ℕ) Refusal) → j ≡ Err r → IsErrAnd a (λ s. s ≡ r) →
          answer (said a) ≡ answered N u mem list marks handle
      unfolding answered
      told_check {r} a e h =
          let q = numbered r in
          rw (returned h, refusal_of (check N u mem list marks) q.0 q.1 q.2 (judged_as e ∙ q.3 Due)) (ap answer (q.3 (List ℕ)))

      module _ {counts : List ℕ} (e : j ≡ Ok (Next counts)) (new : List ℕ) (m : Result Unit Refusal)
          (k : checked new m ≡ create_file N u f counts handle 98) where
        made : answered N u mem list marks handle ≡ answer (and_then (checked new m) (λ s. accepted (sixteen s)))
        unfolding answered
        made =
            rw (
              accepted_counts (check N u mem list marks) counts (judged_as e),
              k ∙ (ap (λ (x : List ℕ). create_file N u x counts handle 98) of ∙ moved.create_moved N u mem counts handle 98 long),
            )

        pub told_unmade : {r : Refusal} (a : Result (List ℕ) Refusal) → m ≡ Err r → IsErrAnd a (λ s. s ≡ r) → answer (said a) ≡ answered N u mem list marks handle
        told_unmade {r} a n h = rw (returned h, made, n) (ap answer (sym (ends r (λ s. accepted (sixteen s)))))

        pub told_made : {x : Unit {0}} (cs : List ℕ) → m ≡ Ok x → cs ≡ sixteen new → answer (accepted cs) ≡ answered N u mem list marks handle
        told_made cs n q = rw (made, n, q)

-- What is answered of an input's parts is answered of the input.
pub told_parts :
    (input : List ℕ) (p : Option Parts) (r : Option (Result (List ℕ) Refusal)) →
    is_some p ≡ formed input →
    IfSome p (λ x. x.handle.now ≡ handle input) →
    IfSome p (λ x. x.memory.now ≡ memory input) →
    IfSome p (λ x. x.sent.now ≡ sent input) →
    MatchOption p (r ≡ None)
    (λ x.
    IsSomeAnd r
    (λ a.
    answer (said a) ≡
    answered (users input) (user input) x.memory.now (first_records x.sent.now (parts 99 x.sent.now)) (first_marks x.sent.now (parts 99 x.sent.now))
    x.handle.now)) →
    told_by r ≡ judgement input
unfolding judgement
told_parts input None r f h m s c = rw (c, ← f) refl
told_parts input (Some x) None f h m s c = absurd c
told_parts input (Some x) (Some a) f h m s c = rw (← f) (c ∙ rw (h, m, s) refl)
