-- The first stage by its conditions, the two others by their tests, and the making step by the three.
use Prim.Native.Nat.{ℕ, ◌+◌, ◌-◌}
use mathlib.Core.Bool.{Bool, true, false}
use mathlib.Core.List.{List, []}
use mathlib.Core.Path.{◌≡◌, refl, sym, ap, ◌∙◌}
use borrow.Author.Tests.{eq-eqb, ne_eqb}
use lib.Dec.{eqb}
use lib.ListN.{get_or}
use Rattle.std.specs.Prelude.{Result, Ok}
use Rattle.search.specs.Search.{every}
use Rattle.refusal.specs.Answer.{Answer, accepted, refused}
use Rattle.refusal.specs.Order.{in_order, tried}
use Rattle.refusal.specs.Refusal.{said}
use Rattle.refusal.specs.declared.Refusal.{Refusal}
use Rattle.refusal.proofs.Means.{Stage, means_accepted}
use Rattle.protocol.specs.Version.{count, structure}
use Rattle.protocol.specs.Check.{last_count, remembers}
use Rattle.protocol.specs.Create.{length_steps, count_steps}
use Rattle.protocol.specs.MemoryFile.{held, given_steps, create_file}
use Rattle.protocol.specs.History.{Making}
use Rattle.protocol.specs.CreateMeaning.{ToLengths}
use Rattle.protocol.proofs.CreateMeans.{Sized, length_stages}
use Rattle.protocol.proofs.FileForm.{formed_remembers}
use Rattle.protocol.proofs.FileCalls.{given_passed}

module _ (N u : ℕ) (mem counts handle : List ℕ) (room : ℕ) where
  abbrev pub making : Making
  making = record { user = u; counts = counts; handle = handle; room = room }

  pub lengths_mean : Stage (length_steps N u mem counts handle room) (ToLengths N mem making) (Sized N mem making)
  lengths_mean = length_stages N mem making

  -- What holds once the first stage has passed.
  pub sized : (c : Result Unit Refusal) → said c ≡ tried (length_steps N u mem counts handle room) → {v : Unit {0}} → c ≡ Ok v → ToLengths N mem making
  sized c e h = (means_accepted lengths_mean (sym e ∙ ap said h)).0

module _ (N u : ℕ) (f : List ℕ) where
  -- What is held is remembered rightly, once the second stage has passed.
  pub holds_remembered : (c : Result Unit Refusal) → said c ≡ tried (given_steps N u f) → {v : Unit {0}} → c ≡ Ok v → (mem : List ℕ) → mem ≡ held f → remembers N u mem ≡ true
  holds_remembered c e h mem q = rw q (formed_remembers N u f (given_passed N u f (sym e ∙ ap said h)).1)

-- The making step in its three stages; the third judges what the file holds.
module _ (N u : ℕ) (f counts handle : List ℕ) (room : ℕ) where
  pub in_stages :
      create_file N u f counts handle room ≡
      in_order (length_steps N u [] counts handle room)
      (in_order (given_steps N u f) (in_order (count_steps N u (held f) counts) (accepted (structure u handle (λ v. get_or counts v 0)))))
  unfolding create_file
  in_stages = refl

-- The third stage's tests, tried in order: which of them fails, or that none does.
module _ (N u : ℕ) (mem counts : List ℕ) where
  abbrev due : Answer Unit
  due = tried (count_steps N u mem counts)

  module _ (t : remembers N u mem ≡ true) (z : Bool) (ez : z ≡ every (λ v. eqb (get_or counts v 0) 0) N (16 - N)) where
    pub counts_beyond : z ≡ false → refused 3 0 0 ≡ due
    unfolding count_steps in_order
    counts_beyond f = rw (t, sym ez ∙ f)

    module _ (tz : z ≡ true) (n : ℕ) (en : n ≡ count mem u) where
      pub last_version : n ≡ last_count → refused 6 0 0 ≡ due
      unfolding count_steps in_order
      last_version l = rw (t, sym ez ∙ tz, eq-eqb (count mem u) last_count (sym en ∙ l))

      module _ (nl : n ≡ last_count → ⊥) where
        pub not_next : (get_or counts u 0 ≡ n + 1 → ⊥) → refused 16 0 0 ≡ due
        unfolding count_steps in_order
        not_next h =
            rw (
              t,
              sym ez ∙ tz,
              ne_eqb (count mem u) last_count (λ y. nl (en ∙ y)),
              ne_eqb (get_or counts u 0) (count mem u + 1) (λ y. h (y ∙ ap (◌+ 1) (sym en))),
            )

        pub is_next : get_or counts u 0 ≡ n + 1 → accepted tt ≡ due
        unfolding count_steps in_order
        is_next h =
            rw (
              t,
              sym ez ∙ tz,
              ne_eqb (count mem u) last_count (λ y. nl (en ∙ y)),
              eq-eqb (get_or counts u 0) (count mem u + 1) (h ∙ ap (◌+ 1) en),
            )
