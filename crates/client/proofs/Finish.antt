-- The stages one after the other: a stage's refusal is that of the whole check, and where stages have passed their conditions hold.
use Prim.Native.Nat.{ℕ, ◌<◌}
use mathlib.Core.Bool.{Bool, true}
use mathlib.Core.List.{List, []}
use mathlib.Core.Path.{◌≡◌, refl, sym, ap, ◌∙◌}
use native.Mathlib.Omega.{arith}
use Rattle.std.specs.Prelude.{Result, Ok, Err}
use lib.Dec.{eqb}
use lib.ListN.{length, length-drop}
use borrow.Author.Tests.{eqb-true}
use Rattle.refusal.specs.Answer.{Answer, accepted, and_then}
use Rattle.refusal.specs.Order.{in_order, tried}
use Rattle.refusal.specs.Refusal.{refusal, said}
use Rattle.refusal.specs.declared.Refusal.{Refusal}
use Rattle.refusal.proofs.Means.{means_accepted}
use Rattle.refusal.proofs.Order.{passed, unless_passed, then_in}
use Rattle.refusal.proofs.Numbered.{ends}
use Rattle.refusal.proofs.Stage.{refuses, goes_on_to}
use Rattle.protocol.specs.Version.{size, owner}
use Rattle.protocol.specs.List.{records, record_at}
use Rattle.protocol.specs.Check.{size_steps, remembers, form_steps}
use Rattle.protocol.specs.MemoryFile.{file_size, state, held, formed, given_steps, sends_again, Verdict as Due, check_file}
use Rattle.protocol.specs.Meaning.{Users, Sizes}
use Rattle.protocol.proofs.FileForm.{formed_remembers, held_behind}
use Rattle.client.specs.Internal.Stages.{is_before, goes_on}
use Rattle.client.proofs.Lengths.{call, sizes_mean}
use Rattle.client.proofs.Placed.{owners_below}

module _ (N u : ℕ) (file list marks : List ℕ) where
  abbrev due : Answer Due
  due = check_file N u file list marks

  abbrev third : Answer Due
  third = goes_on u (held file) (eqb (state file) 1) list

  abbrev second : Answer Due
  second = in_order (form_steps N u (held file) list marks) third

  stages : due ≡ in_order (size_steps N u [] list marks) (in_order (given_steps N u file) second)
  unfolding check_file sends_again goes_on is_before
  stages = refl

  module _ (s : Result (List ℕ) Refusal) (es : said s ≡ in_order (size_steps N u [] list marks) (accepted list)) where
    left : due ≡ and_then (said s) (λ l. in_order (given_steps N u file) second)
    left =
        stages ∙
        (sym (then_in (size_steps N u [] list marks) (accepted list) (λ l. in_order (given_steps N u file) second)) ∙
        ap (λ (a : Answer (List ℕ)). and_then a (λ l. in_order (given_steps N u file) second)) (sym es))

    pub sizes_refuse : {r : Refusal} → s ≡ Err r → due ≡ refusal r
    sizes_refuse {r} h = left ∙ rw h (ends r (λ (l : List ℕ). in_order (given_steps N u file) second))

    module _ {l : List ℕ} (ps : s ≡ Ok l) where
      sized : (Users N u × Sizes N [] (call N u [] list marks)) × (l ≡ list)
      sized = means_accepted (sizes_mean N u [] list marks) (sym es ∙ ap said ps)

      -- What is given is the list.
      same : l ≡ list
      same = sized.1

      pub user_below : u < 16
      user_below = let t = sized.0.0 in omega arith

      pub one_mark_each : length marks ≡ records l
      one_mark_each = rw same sized.0.1.one_mark_each

      to_given : due ≡ in_order (given_steps N u file) second
      to_given = left ∙ rw ps

      module _ (g : Result Unit Refusal) (eg : said g ≡ tried (given_steps N u file)) where
        pub given_refuse : {r : Refusal} → g ≡ Err r → due ≡ refusal r
        given_refuse = refuses _ _ to_given g eg

        module _ {w : Unit {0}} (pg : g ≡ Ok w) where
          -- The file's length and form.
          good : (length file ≡ file_size) × (formed N u file ≡ true)
          unfolding given_steps
          good =
              let p = (passed (given_steps N u file) (sym eg ∙ ap said pg)).0 in
              (eqb-true (length file) file_size (unless_passed (eqb (length file) file_size) 2 0 0 p.0), unless_passed (formed N u file) 3 16 0 p.1.0)

          -- A pending structure is whole.
          pub held_whole : (mem : List ℕ) (p : Bool) → mem ≡ held file → p ≡ eqb (state file) 1 → p ≡ true → length mem ≡ size
          held_whole mem p em ep t =
              let q : state file ≡ 1 = eqb-true (state file) 1 (sym ep ∙ t) in
              ap length em ∙ (ap length (held_behind file (λ z. omega arith)) ∙ (length-drop 2 file ∙ omega (arith, good.0)))

          to_forms : due ≡ second
          to_forms = goes_on_to _ _ to_given g eg pg

          module _
              (f : Result Unit Refusal)
              (ef : (v : ℕ) (mem : List ℕ) → remembers N v mem ≡ true → said f ≡ tried (form_steps N v mem l marks))
            where
              placed : said f ≡ tried (form_steps N u (held file) list marks)
              placed = rw same at (ef u (held file) (formed_remembers N u file good.1))

              pub forms_refuse : {r : Refusal} → f ≡ Err r → due ≡ refusal r
              forms_refuse = refuses _ _ to_forms f placed

              module _ {x : Unit {0}} (pf : f ≡ Ok x) where
                pub owned : (i : ℕ) → i < records l → owner (record_at l i) < 16
                owned =
                    rw same
                    (λ i h.
                    let b = owners_below N u (held file) list marks (sym placed ∙ ap said pf) i h in let t = sized.0.0 in omega arith)

                -- The third stage's answer is the check's.
                pub order_answers : (mem : List ℕ) (p : Bool) → mem ≡ held file → p ≡ eqb (state file) 1 → goes_on u mem p l ≡ due
                order_answers mem p em ep = rw (same, em, ep) (sym (goes_on_to _ _ to_forms f placed pf))
