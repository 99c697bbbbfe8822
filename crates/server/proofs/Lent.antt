-- Laws of a commit to records that are lent by themselves: its tests are those of a commit to the list that they stand in, and what it leaves of
-- the records is what such a commit leaves of the list.
use Prim.Native.Nat.{ℕ}
use mathlib.Core.List.{List, [], ◌∷◌}
use mathlib.Core.Path.{◌≡◌, refl, sym, ap, subst, ◌∙◌}
use Rattle.std.specs.Prelude.{Result, Ok, Err}
use Rattle.refusal.specs.declared.Refusal.{Refusal}
use lib.ListN.{length}
use borrow.Author.Tests.{eq-eqb, ne_eqb}
use Rattle.refusal.specs.Answer.{Answer, accepted, refused, and_then}
use Rattle.refusal.specs.Order.{Step, pass, stop, in_order}
use Rattle.refusal.specs.Refusal.{checked}
use Rattle.refusal.specs.Result.{Gives, left}
use Rattle.refusal.proofs.Numbered.{ends}
use Rattle.protocol.specs.Server.{commit_steps, replaced, commit}
use Rattle.protocol.specs.declared.Server.{Server}
use Rattle.server.specs.Commit.{commit_into}

-- A result is told as f has it.
module _ {A B : Type 0} (f : A → B) where
  abbrev through : Answer A → Answer B
  through due = and_then due (λ a. accepted (f a))

  through_order : (ts : List Step) (a : A) → through (in_order ts (accepted a)) ≡ in_order ts (accepted (f a))
  unfolding in_order
  through_order [] a = refl
  through_order (pass ∷ ts) a = through_order ts a
  through_order (stop n p q ∷ ts) a = refl

  through_checked : (c : Result Unit Refusal) (a : A) → checked (f a) c ≡ through (checked a c)
  through_checked (Ok u) a = refl
  through_checked (Err r) a = sym (ends r (λ a. accepted (f a)))

  through_left : (due : Answer A) (a : A) → f (left due a) ≡ left (through due) (f a)
  through_left (accepted b) a = refl
  through_left (refused n p q) a = refl

  through_gives : {due : Answer A} {before after : A} {c : Result Unit Refusal} → Gives due before after c → Gives (through due) (f before) (f after) c
  through_gives {due} {before} {after} {c} g =
      record { answers = through_checked c after ∙ ap through g.answers; leaves = ap f g.leaves ∙ through_left due before }

module _ (N : ℕ) where
  abbrev with_records : List ℕ → Server
  with_records r = record { users = N; records = r }

module _ (N : ℕ) (b x : List ℕ) (mark : ℕ) where
  abbrev list : Server
  list = with_records N b

  pub other_size : (length b ≡ 1568 → ⊥) → commit_into N b x mark ≡ refused 2 0 0
  unfolding commit_into in_order
  other_size n = rw (ne_eqb (length b) 1568 n)

  module _ (l : length b ≡ 1568) where
    pub by_steps : commit_into N b x mark ≡ in_order (commit_steps list x mark) (accepted (replaced list x).records)
    unfolding commit_into in_order commit
    by_steps = rw (eq-eqb (length b) 1568 l) (through_order (λ (s : Server). s.records) (commit_steps list x mark) (replaced list x))

    in_list : through (with_records N) (commit_into N b x mark) ≡ commit list x mark
    unfolding commit replaced
    in_list = rw by_steps (through_order (with_records N) (commit_steps list x mark) (replaced list x).records)

    -- What such a commit gives, the list has.
    pub gives_list :
        {after : List ℕ} {c : Result Unit Refusal} → Gives (commit_into N b x mark) b after c →
        Gives (commit list x mark) list (record { users = N; records = after }) c
    gives_list {after} {c} g =
        subst (λ (due : Answer Server). Gives due list (with_records N after) c) in_list (through_gives (with_records N) g)
