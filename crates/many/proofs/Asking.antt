-- All questions in their turn: the answers are the entries where every lookup is accepted, and otherwise the first refusal.
use Prim.Native.Nat.{ℕ, ◌+◌, ◌-◌, ◌*◌, ◌≤◌, ◌<◌}
use mathlib.Core.List.{List}
use mathlib.Core.Path.{◌≡◌, refl, sym, ap, ◌∙◌}
use native.Mathlib.Omega.{arith}
use lib.ListN.{length, get_or, take}
use Rattle.std.specs.Result.{MatchResult, IsErrAnd}
use Rattle.std.proofs.lemmas.Result.{err_from_is_err_and}
use Rattle.layout.specs.Bytes.{part}
use Rattle.refusal.specs.Answer.{Answer, accepted}
use Rattle.refusal.specs.Refusal.{refusal, checked}
use Rattle.std.specs.Prelude.{Option, Result, Ok, Err}
use Rattle.refusal.specs.declared.Refusal.{Refusal}
use Rattle.refusal.proofs.Numbered.{numbered}
use Rattle.itable.specs.Block.{size}
use Rattle.itable.specs.Lookup.{Entry, lookup}
use Rattle.itable.specs.Many.{total, path_at, single, at_question}
use Rattle.itable.specs.Internal.Many.{entry_at}
use Rattle.itable.proofs.LookupMeans.{lookup_means}
use Rattle.itable.proofs.Many.{total_front, path_at_long, all_accepted, first_refused}
use Rattle.many.specs.Internal.Judged.{entry_to, Judged}
use Rattle.many.specs.Internal.Walk.{path_from, Says}
use Rattle.many.specs.declared.AtQuestion.{AtQuestion}
use Rattle.many.specs.declared.Known.{Known}

-- The path of question q lies within the bytes.
pub within :
    (counts paths : List ℕ) (q first n : ℕ) → size * total counts ≡ length paths → first ≡ total (take q counts) → n ≡ get_or counts q 0 →
    size * (first + n) ≤ length paths
within counts paths q first n filled f m = omega (arith, total_front counts q)

-- `map_err`: a refusal is named by what each call of its closure gives, and what passed has passed.
module _ (P : Refusal → AtQuestion → Type 0) where
  pub told_at :
      (x : Result Unit Refusal) (y : Result Unit AtQuestion) → MatchResult x (λ u. y ≡ Ok u) (λ r. IsErrAnd y (λ e. P r e)) →
      {e : AtQuestion} → y ≡ Err e → (r : Refusal) × (x ≡ Err r) × P r e
  told_at (Ok u) y m w = cc
  told_at (Err r) (Ok u) m w = absurd m
  told_at (Err r) (Err e) m {e = f} w = let z : e ≡ f = cc in (r, refl, rw z at m)

  pub told_passed :
      (x : Result Unit Refusal) (y : Result Unit AtQuestion) → MatchResult x (λ u. y ≡ Ok u) (λ r. IsErrAnd y (λ e. P r e)) →
      {u : Unit {0}} → y ≡ Ok u → x ≡ Ok u
  told_passed (Ok u) y m w = cc
  told_passed (Err r) (Ok u) m w = absurd m
  told_passed (Err r) (Err e) m w = cc

module _ (handle numbers counts paths : List ℕ) where
  -- The question q is asked with its own number and path.
  pub asked :
      (q first n i : ℕ) {known : List (Option Known)} {r c : Result Unit Refusal} → first ≡ total (take q counts) → n ≡ get_or counts q 0 → i ≡ get_or numbers q 0 →
      Says (lookup handle i (path_from paths first n)) (entry_at (part size paths (first + n - 1)) i) paths r known → r ≡ c →
      checked (entry_to numbers counts paths q) c ≡ single handle numbers counts paths q
  asked q first n i f m e g a = rw (← f, ← m, ← e, ← a) g.answers

  -- A path that is accepted has a block.
  pub some_block :
      (q : ℕ) {e : Entry} → size * total counts ≡ length paths → single handle numbers counts paths q ≡ accepted e → 1 ≤ get_or counts q 0
  some_block q {e} filled h =
      omega (arith, path_at_long counts paths q filled, (((lookup_means handle (get_or numbers q 0) (path_at counts paths q)).0 e).0 h).0.some)

  -- Every question before q is accepted.
  abbrev pub AcceptedBefore : ℕ → Type 0
  AcceptedBefore q =
      (j : ℕ) → j < q → (single handle numbers counts paths j ≡ accepted (entry_to numbers counts paths j)) × (1 ≤ get_or counts j 0)

  pub all_asked : (q : ℕ) → length numbers ≤ q → AcceptedBefore q → Judged handle numbers counts paths (Ok tt)
  all_asked q l h =
      record {
        answers =
            sym
            (all_accepted (single handle numbers counts paths) (entry_to numbers counts paths) 0 (length numbers)
            (λ j a b. (h j (omega arith)).0));
        counted = λ e j b. (h j (omega arith)).1;
      }

  pub refused_at :
      (q : ℕ) {r : Refusal} → q < length numbers → AcceptedBefore q → single handle numbers counts paths q ≡ refusal r →
      Judged handle numbers counts paths (Err (record { question = q; refusal = r }))
  refused_at q {r} l h e =
      let w = numbered r in
      record {
        answers =
            ap (λ (a : Answer (List ℕ)). at_question q a) (w.3 (List ℕ)) ∙
            sym
            (first_refused (single handle numbers counts paths) (length numbers) q (λ j b. (entry_to numbers counts paths j, (h j b).0)) l
            (e ∙ w.3 Entry));
        counted = λ z. cc;
      }

  -- The same, as `?` hands it on.
  pub hands_on :
      (q : ℕ) {r : Refusal} {e : AtQuestion} → q < length numbers → AcceptedBefore q → refusal r ≡ single handle numbers counts paths q →
      e ≡ record { question = q; refusal = r } → (x : Result Unit AtQuestion) → IsErrAnd x (λ f. f ≡ e) → Judged handle numbers counts paths x
  hands_on q l h s w x k = let p = err_from_is_err_and x k in rw (p.1, p.2, w) (refused_at q l h (sym s))
