-- Laws of a run: what a client's file holds is the last structure that its user made and whose pending write came whole, and its own count
-- never falls. All that they know of an event is what it writes into its client's file.
use Prim.Native.Nat.{ℕ, ◌+◌, ◌≤◌, ◌<◌}
use mathlib.Core.List.{List, [], ◌∷◌}
use mathlib.Core.Logic.{inl, inr, ⊎_elim}
use mathlib.Core.Path.{◌≡◌, refl, sym, ◌∙◌}
use native.Mathlib.Decide.{dec_lt}
use native.Mathlib.Omega.{arith}
use lib.Dec.{eqb}
use lib.ListN.{length}
use borrow.Author.Tests.{eqb-true, eq-eqb}
use Rattle.search.proofs.Bool.{bool_cases}
use Rattle.refusal.specs.Answer.{Answer, accepted, refused}
use Rattle.refusal.specs.Result.{left}
use Rattle.refusal.proofs.Run.{Came, last, older, came_once, came_before}
use Rattle.protocol.specs.Version.{count}
use Rattle.protocol.specs.MemoryFile.{file_size, held, sent_of, next, sent}
use Rattle.protocol.specs.History.{Call, Making, whole, absent, Event, checks, creates, marks_sent, user_of, created_on}
use Rattle.protocol.specs.History.{Write, nothing, writes, written, write_of, after_write, after_event, file_from, writing_from, Counted, answer, Gave}
use Rattle.protocol.proofs.MadeMeans.{made_one_more}
use Rattle.protocol.proofs.FileCalls.{makes_held}
use Rattle.protocol.proofs.MemoryMeans.{sent_means}

-- Only an accepted answer writes, and it writes its structure.
pub written_accepted : (a : Answer (List ℕ)) {x : List ℕ} → written a ≡ writes x → a ≡ accepted x
written_accepted (accepted y) e = cc
written_accepted (refused n p q) e = let z : ◌≡◌ {A = ℕ} 0 1 = cc in absurd (omega arith)

-- What is remembered after an event.
abbrev remembers_then : Write → List ℕ → List ℕ
remembers_then nothing mem = mem
remembers_then (writes x) mem = x

-- A pending write holds its structure, and a sent write what was held.
held_written : (a : Answer (List ℕ)) (f : List ℕ) → held (after_write (written a) f) ≡ remembers_then (written a) (held f)
unfolding held
held_written (accepted x) f = refl
held_written (refused n p q) f = refl

pub held_sent : (f : List ℕ) → length f ≡ file_size → held (sent_of f) ≡ held f
unfolding held sent_of
held_sent [] l = absurd (omega arith)
held_sent (k ∷ []) l = absurd (omega arith)
held_sent (k ∷ s ∷ x) l = ⊎_elim (λ e. rw (e, eqb-true s 1 e)) (λ e. rw e) (bool_cases (eqb s 1))

held_marked : (N u : ℕ) (f : List ℕ) (a : Answer (List ℕ)) → sent N u f ≡ a → held (left a f) ≡ held f
held_marked N u f (accepted g) e = let w = ((sent_means N u f).0.0 g).0 e in rw w.1 (held_sent f w.0.1)
held_marked N u f (refused n p q) e = refl

module _ (N : ℕ) where
  pub held_after : (f : List ℕ) (e : Event) → held (after_event N f e) ≡ remembers_then (write_of N f e) (held f)
  held_after f (checks c) = refl
  held_after f (creates m whole) = held_written (created_on N f m) f
  held_after f (creates m absent) = refl
  held_after f (marks_sent u whole) = held_marked N u f (sent N u f) refl
  held_after f (marks_sent u absent) = refl

  -- What is written counts one operation more of its user than what was held.
  pub one_more : (f : List ℕ) (e : Event) {x : List ℕ} → write_of N f e ≡ writes x → count x (user_of e) ≡ count (held f) (user_of e) + 1
  one_more f (checks c) h = let z : ◌≡◌ {A = ℕ} 0 1 = cc in absurd (omega arith)
  one_more f (creates m whole) {x} h =
      made_one_more N (held f) m (makes_held N m.user f m.counts m.handle m.room x (written_accepted _ h))
  one_more f (creates m absent) h = let z : ◌≡◌ {A = ℕ} 0 1 = cc in absurd (omega arith)
  one_more f (marks_sent u w) h = let z : ◌≡◌ {A = ℕ} 0 1 = cc in absurd (omega arith)

  -- What a check of the run gave, as an event of it.
  pub gave_call :
      (run : List Event) {a : ℕ} {counts : List ℕ} → Gave N run a counts →
      (earlier : List Event) × (c : Call) × Came run earlier (checks c) × (c.user ≡ a) × (answer N earlier c ≡ accepted (next counts))
  gave_call [] g = absurd g
  gave_call (d ∷ ds) (inl w) = (ds, w.0, rw w.1 last, w.2, w.3)
  gave_call (d ∷ ds) (inr g) = let s = gave_call ds g in (s.0, s.1, older s.2, s.3, s.4)

module _ (N : ℕ) (start : List ℕ) where
  -- Only a making step writes whose write comes whole.
  pub writes_made :
      (earlier : List Event) (e : Event) {x : List ℕ} → writing_from N start earlier e ≡ writes x →
      (m : Making) × (e ≡ creates m whole) × (created_on N (file_from N start earlier m.user) m ≡ accepted x)
  writes_made earlier (checks c) h = let z : ◌≡◌ {A = ℕ} 0 1 = cc in absurd (omega arith)
  writes_made earlier (creates m whole) h = (m, refl, written_accepted _ h)
  writes_made earlier (creates m absent) h = let z : ◌≡◌ {A = ℕ} 0 1 = cc in absurd (omega arith)
  writes_made earlier (marks_sent u w) h = let z : ◌≡◌ {A = ℕ} 0 1 = cc in absurd (omega arith)

  -- What was counted in the run, as an event of it.
  pub counted_event :
      (run : List Event) {a : ℕ} {x : List ℕ} → Counted N start run a x →
      (earlier : List Event) × (e : Event) × Came run earlier e × (user_of e ≡ a) × (writing_from N start earlier e ≡ writes x)
  counted_event [] m = absurd m
  counted_event (d ∷ ds) (inl e) = (ds, d, last, e.0, e.1)
  counted_event (d ∷ ds) (inr m) = let s = counted_event ds m in (s.0, s.1, older s.2, s.3, s.4)

  -- What client a's file holds after a run.
  abbrev pub memory : List Event → ℕ → List ℕ
  memory run a = held (file_from N start run a)

  -- The memory is what was written last, and its own count never falls.
  pub memory_here : (e : Event) (earlier : List Event) {x : List ℕ} → writing_from N start earlier e ≡ writes x → memory (e ∷ earlier) (user_of e) ≡ x
  unfolding file_from
  memory_here e earlier h = rw (eq-eqb (user_of e) (user_of e) refl) (held_after N (file_from N start earlier (user_of e)) e ∙ rw h)

  kept_grows : (w : Write) (mem : List ℕ) (a : ℕ) → ((x : List ℕ) → w ≡ writes x → count x a ≡ count mem a + 1) → count mem a ≤ count (remembers_then w mem) a
  kept_grows nothing mem a f = omega arith
  kept_grows (writes x) mem a f = omega (arith, f x refl)

  pub memory_grows : (e : Event) (earlier : List Event) (a : ℕ) → count (memory earlier a) a ≤ count (memory (e ∷ earlier) a) a
  unfolding file_from
  memory_grows e earlier a =
      ⊎_elim
      (λ t. let u : user_of e ≡ a = eqb-true (user_of e) a t in
      let f : List ℕ = file_from N start earlier (user_of e) in
      rw (t, ← u, held_after N f e) (kept_grows (write_of N f e) (held f) (user_of e) (λ x h. one_more N f e h)))
      (λ f. rw f (omega arith)) (bool_cases (eqb (user_of e) a))

  pub signed_most :
      {run earlier : List Event} {e : Event} {x : List ℕ} → Came run earlier e → writing_from N start earlier e ≡ writes x →
      count x (user_of e) ≤ count (memory run (user_of e)) (user_of e)
  signed_most {earlier = earlier} {e = e} last h = rw (memory_here e earlier h) (omega arith)
  signed_most {e = e} (older {d} {run = run} m) h =
      let k = signed_most m h in let g = memory_grows d run (user_of e) in omega arith

  later_counts_more :
      {earlier f : List Event} {b : Event} (c : Event) {x y : List ℕ} → Came f earlier b → user_of b ≡ user_of c → writing_from N start earlier b ≡ writes x →
      writing_from N start f c ≡ writes y → count x (user_of c) < count y (user_of c)
  later_counts_more {f = f} c m u p q =
      let h = rw u at (signed_most m p) in let g = one_more N (file_from N start f (user_of c)) c q in omega arith

  -- A user signs one structure for each own count.
  pub signed_once :
      {run e f : List Event} {b c : Event} {x y : List ℕ} → Came run e b → Came run f c → user_of b ≡ user_of c →
      writing_from N start e b ≡ writes x → writing_from N start f c ≡ writes y → count x (user_of c) ≡ count y (user_of c) → x ≡ y
  signed_once {e = e} {f = f} {b = b} {c = c} {x = x} {y = y} m n u p q h =
      elim (dec_lt (length e) (length f)) [
        | yes l ↦ let g = later_counts_more c (came_before m n l) u p q in absurd (omega arith)
        | no l ↦
            elim (dec_lt (length f) (length e)) [
              | yes k ↦ let g = later_counts_more b (came_before n m k) (sym u) q p in let z = rw u at g in absurd (omega arith)
              | no k ↦ let same = came_once m n (omega arith) in let r : writing_from N start f c ≡ writes x = rw (← same.0, ← same.1) p in cc
            ]
      ]
