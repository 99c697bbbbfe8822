-- What a client's file holds is the structure that was written last, and every other counted one has a smaller own count.
use Prim.Native.Nat.{ℕ, ◌≤◌}
use mathlib.Core.List.{List, [], ◌∷◌}
use mathlib.Core.Logic.{◌⊎◌, inl, inr, ⊎_elim}
use mathlib.Core.Path.{◌≡◌, refl, sym, ◌∙◌}
use native.Mathlib.Omega.{arith}
use lib.Dec.{eqb}
use borrow.Author.Tests.{eqb-true, eqb-false, eq-eqb}
use Rattle.search.proofs.Bool.{bool_cases}
use Rattle.protocol.specs.Version.{owner, count}
use Rattle.protocol.specs.MemoryFile.{state, behind, held, none}
use Rattle.protocol.specs.MemoryMeaning.{Stated, is_sent, is_pending, is_none}
use Rattle.protocol.specs.History.{Event, user_of, Write, nothing, writes, file_from, writing_from, file, Signed}
use Rattle.protocol.specs.Brings.{Brings, SendsSigned}
use Rattle.protocol.proofs.List.{none_counted}
use Rattle.protocol.proofs.FileForm.{held_behind}
use Rattle.protocol.proofs.Moved.{of_holds}
use Rattle.protocol.proofs.CheckFileMeans.{check_file_means}
use Rattle.protocol.proofs.History.{held_after, memory_here, counted_event, signed_most}
use Rattle.protocol.proofs.OnePerCount.{own_counted}

-- None, with nothing counted; or one that is.
abbrev Held : ℕ → List Event → ℕ → List ℕ → Type 0
Held N run a x = ((x ≡ []) × ((y : List ℕ) → Signed N run a y → ⊥)) ⊎ Signed N run a x

module _ (N : ℕ) where
  -- An event that writes nothing into a's file leaves what was held and what was counted.
  still :
      (e : Event) (earlier : List Event) (a : ℕ) (x : List ℕ) → (user_of e ≡ a → writing_from N none earlier e ≡ nothing) →
      Held N earlier a x → Held N (e ∷ earlier) a x
  still e earlier a x n =
      ⊎_elim
      (λ h.
      inl (
        h.0,
        λ y s.
            ⊎_elim (λ w. let k = sym (n w.0) ∙ w.1 in let z : ◌≡◌ {A = ℕ} 0 1 = cc in absurd (omega arith)) (h.1 y) s,
      ))
      (λ s. inr (inr s))

  written_here :
      (e : Event) (earlier : List Event) (w : Write) → writing_from N none earlier e ≡ w → Held N earlier (user_of e) (held (file N earlier (user_of e))) →
      Held N (e ∷ earlier) (user_of e) (held (file N (e ∷ earlier) (user_of e)))
  unfolding file_from
  written_here e earlier (writes x) h s = rw (memory_here N none e earlier h) (inr (inl (refl, h)))
  written_here e earlier nothing h s =
      let f : List ℕ = file N earlier (user_of e) in
      let same : held (file N (e ∷ earlier) (user_of e)) ≡ held f = rw (eq-eqb (user_of e) (user_of e) refl) (held_after N f e ∙ rw h) in
      rw same (still e earlier (user_of e) (held f) (λ u. h) s)

  holds : (run : List Event) (a : ℕ) → Held N run a (held (file N run a))
  unfolding file_from
  holds [] a = inl (of_holds [], λ y s. s)
  holds (e ∷ earlier) a =
      ⊎_elim
      (λ t. let u : user_of e ≡ a = eqb-true (user_of e) a t in rw (← u) (written_here e earlier (writing_from N none earlier e) refl (holds earlier (user_of e))))
      (λ t. rw t (still e earlier a (held (file N earlier a)) (λ u. absurd (eqb-false (user_of e) a t u)) (holds earlier a)))
      (bool_cases (eqb (user_of e) a))

pub brings : Brings
brings N run a =
    let x : List ℕ = held (file N run a) in
    ⊎_elim inl
    (λ s.
    inr (
      s,
      λ y c.
          let p = counted_event N none run c in
          let most = signed_most N none p.2 p.4 in
          let at : count y a ≤ count x a = rw p.3 at most in
          omega (arith, own_counted N none run a y c, own_counted N none run a x s),
    ))
    (holds N run a)

-- A pending file holds a structure that counts an operation.
pending_counts : (N u : ℕ) (f : List ℕ) → Stated N u f → state f ≡ 1 → held f ≡ [] → ⊥
pending_counts N u f (is_sent e w) p z = omega arith
pending_counts N u f (is_pending e w) p z =
    w.0.own_counted (none_counted (behind f) (owner (behind f)) (sym (held_behind f (λ q. omega arith)) ∙ z))
pending_counts N u f (is_none e w) p z = omega arith

pub sends_signed : SendsSigned
sends_signed N run c x e =
    let f : List ℕ = file N run c.user in
    let w = ((check_file_means N f c).1 x).0 e in
    let is : x ≡ held f = w.1 in
    ⊎_elim (λ h. absurd (pending_counts N c.user f w.0.0.0.0.1.1 w.0.1.0 h.0)) (λ s. rw is s) (holds N run c.user)
