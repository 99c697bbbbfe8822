-- An accepted check's counts are made into a structure, from which they are read back; a refused check is told as it is.
use Prim.Native.Nat.{ℕ}
use mathlib.Core.List.{List}
use mathlib.Core.Path.{◌≡◌, refl, sym, ◌∙◌}
use native.Mathlib.Omega.{arith}
use lib.ListN.{length, get_or, drop, length-drop}
use lib.Seq.{ext_get_or, length-take-le}
use Rattle.layout.specs.Bytes.{values}
use Rattle.layout.proofs.Values.{length_values, value_at}
use Rattle.refusal.specs.Answer.{Answer, accepted, refused}
use Rattle.protocol.specs.Version.{count, structure}
use Rattle.protocol.specs.Check.{check}
use Rattle.protocol.specs.History.{Call}
use Rattle.protocol.proofs.Version.{count_structure}
use Rattle.protocol.proofs.CheckMeans.{check_means}
use Rattle.protocol.proofs.NewMeans.{new_means}
use Rattle.protocol.proofs.CreateAfterCheck.{create_after_check}
use Rattle.input.specs.Form.{handle}
use Rattle.input.specs.Report.{answer, answered, sixteen, judgement}
use Rattle.input.specs.CheckTold.{CheckTold}
use Rattle.input.proofs.Conditions.{form_facts}

module _ (N u : ℕ) (mem list marks handle : List ℕ) (h : length handle ≡ 32) where
  read_back : (c : List ℕ) → length c ≡ 16 → sixteen (structure u handle (λ v. get_or c v 0)) ≡ c
  read_back c l =
      let g : ℕ → ℕ = count (structure u handle (λ v. get_or c v 0)) in
      let k = length_values g 0 16 in
      ext_get_or 0 (values g 0 16) c (k ∙ sym l)
      (λ v b. value_at g 16 v (omega (arith, k)) ∙ count_structure u handle (λ v. get_or c v 0) h v (omega (arith, k)))

  by_answer : (a : Answer (List ℕ)) → check N u mem list marks ≡ a → answered N u mem list marks handle ≡ answer a
  unfolding answered
  by_answer (accepted c) e =
      let call : Call = record { user = u; list = list; marks = marks } in
      let w = ((check_means N mem call).0 c).0 e in
      let long : length c ≡ 16 = rw w.1 (new_means N mem call w.0.0.0.0.0).sixteen in
      rw (e, create_after_check.accepts N u mem list marks c handle e h, read_back c long)
  by_answer (refused n p q) e = rw e

pub check_told : CheckTold
unfolding judgement
check_told input f =
    let long : length (handle input) ≡ 32 = length-take-le 32 (drop 2 input) (omega (arith, length-drop 2 input, (form_facts input f).head)) in
    rw f (by_answer _ _ _ _ _ (handle input) long _ refl)
