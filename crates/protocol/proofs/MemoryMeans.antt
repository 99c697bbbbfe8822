-- The four calls on a memory file mean what MemoryMeaning says: the users, the lengths and the form, one after the other, whatever these are.
use Prim.Native.Nat.{ℕ, zero, suc}
use mathlib.Core.Bool.{Bool, true, not, ◌&&◌}
use mathlib.Core.List.{List, [], ◌∷◌, ◌++◌, append-nil}
use mathlib.Core.Logic.{◌⊎◌, ◌↔◌, inl, inr, ⊎_elim}
use mathlib.Core.Path.{◌≡◌, refl, sym, ap, ◌∙◌}
use native.Mathlib.Decide.{ℕ_discrete}
use native.Mathlib.Omega.{arith}
use lib.Dec.{eqb}
use lib.ListN.{length, get_or, take, drop, drop_of_length-le}
use borrow.Author.Tests.{eqb-true, eqb-false, eq-eqb, ne_eqb, not-true}
use Rattle.search.proofs.Bool.{both_true}
use Rattle.refusal.specs.Answer.{Answer, accepted, refused, and_then}
use Rattle.refusal.specs.Order.{Step, unless, in_order}
use Rattle.refusal.proofs.Means.{Stage, Either, Unless, in_append, and_then_means, concludes, test_means, exactly}
use Rattle.protocol.specs.Version.{size}
use Rattle.protocol.specs.MemoryFile.{file_size, state, behind, held, file_of, pending_of, sent_of, formed, file_steps, over, back, back_into, sent, pend}
use Rattle.protocol.specs.Meaning.{Users}
use Rattle.protocol.specs.MemoryMeaning.{Formed, NotPending, Why, users, lengths, malformed, pending, Exactly}
use Rattle.protocol.specs.MemoryMeaning.{OverMeans, BackMeans, BackIntoMeans, PendMeans, SetSent, SentMeans}
use Rattle.protocol.proofs.Conditions.{both_intro, no_bytes, none_or_one, remembers_means}
use Rattle.protocol.proofs.CheckMeans.{users_stage}
use Rattle.protocol.proofs.FileForm.{own_formed_is, formed_means, held_length}

-- Any lengths L, form F and last condition G, by their tests.
module _ (N u : ℕ) {L F G : Type 0} (long good last : Bool) (l : (long ≡ true) ↔ L) (f : (good ≡ true) ↔ F) (g : (last ≡ true) ↔ G) where
  abbrev Given : ℕ → ℕ → ℕ → Type 0
  Given =
      Either ((Users N u × L) × F) (Either (Users N u × L) (Either (Users N u) (Unless (Users N u) 1 0 0) (Unless L 2 0 0)) (Unless F 3 16 0))
      (Unless G 17 0 0)

  all_stages : Stage (file_steps N u long good ++ (unless last 17 0 0 ∷ [])) (((Users N u × L) × F) × G) Given
  unfolding file_steps
  all_stages =
      and_then_means _ _
      (and_then_means _ _ (and_then_means _ _ (users_stage N u) (λ w. test_means long 2 0 0 l)) (λ w. test_means good 3 16 0 f))
      (λ w. test_means last 17 0 0 g)

  why_given : (n p q : ℕ) → Given n p q → Why N u L F G n p q
  why_given n p q =
      ⊎_elim
      (⊎_elim
      (⊎_elim (λ w. rw (w.1, w.2, w.3) (users w.0)) (λ w. rw (w.1.1, w.1.2, w.1.3) (lengths w.0 w.1.0)))
      (λ w. rw (w.1.1, w.1.2, w.1.3) (malformed w.0.0 w.0.1 w.1.0)))
      (λ w. rw (w.1.1, w.1.2, w.1.3) (pending w.0.0.0 w.0.0.1 w.0.1 w.1.0))

  given_why : (n p q : ℕ) → Why N u L F G n p q → Given n p q
  given_why n p q (users x) = inl (inl (inl (x, refl, refl, refl)))
  given_why n p q (lengths w x) = inl (inl (inr (w, (x, refl, refl, refl))))
  given_why n p q (malformed w m x) = inl (inr ((w, m), (x, refl, refl, refl)))
  given_why n p q (pending w m k x) = inr (((w, m), k), (x, refl, refl, refl))

  pub file_call :
      (result : List ℕ) →
      Exactly N u L F G (in_order (file_steps N u long good) (in_order (unless last 17 0 0 ∷ []) (accepted result))) result
  file_call result =
      let first : List Step = file_steps N u long good in
      let second : List Step = unless last 17 0 0 ∷ [] in
      let M = rw (in_append first second (accepted result)) at (concludes (first ++ second) all_stages result) in
      let E = exactly M (λ a. a ≡ result) (λ w. refl) (λ b w e. e) why_given given_why in (
        λ a. (
          λ e. let w = (E.0 a).0 e in ((w.0.0.0.0, w.0.0.0.1, w.0.0.1, w.0.1), w.1),
          λ w. (E.0 a).1 ((((w.0.0, w.0.1), w.0.2), w.0.3), w.1),
        ),
        E.1,
      )

-- Two lengths.
both_mean : {P Q : Type 0} {a b : Bool} → (a ≡ true) ↔ P → (b ≡ true) ↔ Q → ((a && b) ≡ true) ↔ (P × Q)
both_mean {a = a} {b = b} p q = (
  λ e. let w = both_true a b e in (p.0 w.0, q.0 w.1),
  λ w. both_intro a b (p.1 w.0) (q.1 w.1),
)

pub equal_means : (m n : ℕ) → (eqb m n ≡ true) ↔ (m ≡ n)
equal_means m n = (eqb-true m n, eq-eqb m n)

-- The two stages that a check and a making step have for a file.
pub length_stage : (f : List ℕ) → Stage (unless (eqb (length f) file_size) 2 0 0 ∷ []) (length f ≡ file_size) (Unless (length f ≡ file_size) 2 0 0)
length_stage f = test_means (eqb (length f) file_size) 2 0 0 (equal_means (length f) file_size)

pub form_stage : (N u : ℕ) (f : List ℕ) → Stage (unless (formed N u f) 3 16 0 ∷ []) (Formed N u f) (Unless (Formed N u f) 3 16 0)
form_stage N u f = test_means (formed N u f) 3 16 0 (formed_means N u f)

-- Nothing is refused with 17.
nothing_left : (true ≡ true) ↔ Unit {0}
nothing_left = (λ e. tt, λ w. refl)

not_pending : (f : List ℕ) → (not (eqb (state f) 1) ≡ true) ↔ NotPending f
not_pending f = (
  λ t. eqb-false (state f) 1 (not-true (eqb (state f) 1) t),
  λ n. ap not (ne_eqb (state f) 1 n),
)

pub over_means : OverMeans
unfolding over in_order
over_means N u old room =
    file_call N u _ _ true (both_mean (none_or_one old) (equal_means room file_size)) (remembers_means N u old) nothing_left (file_of old)

pub back_means : BackMeans
unfolding back
back_means N u f room =
    file_call N u _ _ _ (both_mean (equal_means (length f) file_size) (equal_means room size)) (formed_means N u f) (not_pending f) (held f)

-- What is moved back is as long as the buffer, or none.
into_front : (old buffer : List ℕ) → length buffer ≡ size → (length old ≡ 0) ⊎ (length old ≡ size) →
    ((old ≡ []) × ((old ++ drop (length old) buffer) ≡ buffer)) ⊎ ((length old ≡ size) × ((old ++ drop (length old) buffer) ≡ old))
into_front old buffer l h =
    ⊎_elim (λ e. let z = no_bytes old e in inl (z, rw z))
    (λ e. inr (e, ap (λ (b : List ℕ). old ++ b) (drop_of_length-le buffer {i = length old} (omega arith)) ∙ append-nil old)) h

module _ (N u : ℕ) (f buffer : List ℕ) where
  abbrev Into : List ℕ → List ℕ → Type 0
  Into old b = ((old ≡ []) × (b ≡ buffer)) ⊎ ((length old ≡ size) × (b ≡ old))

  back_long : (old : List ℕ) → back N u f (length buffer) ≡ accepted old → Into old (old ++ drop (length old) buffer)
  back_long old e =
      let w = ((back_means N u f (length buffer)).0 old).0 e in
      into_front old buffer w.0.1.1 (rw w.1 (held_length f w.0.1.0))

  only_into : (old b : List ℕ) → back N u f (length buffer) ≡ accepted old → Into old b → b ≡ (old ++ drop (length old) buffer)
  only_into old b e h =
      ⊎_elim
      (λ k. k.1 ∙ rw k.0)
      (λ k. let w = ((back_means N u f (length buffer)).0 old).0 e in
      k.1 ∙ sym (ap (λ (c : List ℕ). old ++ c) (drop_of_length-le buffer {i = length old} (omega (arith, k.0, w.0.1.1))) ∙ append-nil old))
      h

  into_answer :
      (a : Answer (List ℕ)) → back N u f (length buffer) ≡ a → back_into N u f buffer ≡ and_then a (λ old. accepted (old ++ drop (length old) buffer))
  unfolding back_into
  into_answer a e = rw e

  into_accepted :
      (a : Answer (List ℕ)) → back N u f (length buffer) ≡ a → (b : List ℕ) → back_into N u f buffer ≡ accepted b →
      (old : List ℕ) × (back N u f (length buffer) ≡ accepted old) × Into old b
  into_accepted (accepted old) e b h =
      let is : b ≡ (old ++ drop (length old) buffer) = cc (sym h ∙ into_answer (accepted old) e) in (old, e, rw is (back_long old e))
  into_accepted (refused n p q) e b h = let k = sym h ∙ into_answer (refused n p q) e in let z : ◌≡◌ {A = ℕ} 0 1 = cc in absurd (omega arith)

  into_refused :
      (a : Answer (List ℕ)) → back N u f (length buffer) ≡ a → (n p q : ℕ) → back_into N u f buffer ≡ refused n p q →
      back N u f (length buffer) ≡ refused n p q
  into_refused (accepted old) e n p q h =
      let k = sym h ∙ into_answer (accepted old) e in let z : ◌≡◌ {A = ℕ} 0 1 = cc in absurd (omega arith)
  into_refused (refused m i j) e n p q h = e ∙ cc (sym (into_answer (refused m i j) e) ∙ h)

pub back_into_means : BackIntoMeans
back_into_means N u f buffer = (
  λ b. (
    into_accepted N u f buffer (back N u f (length buffer)) refl b,
    λ w. into_answer N u f buffer (accepted w.0) w.1 ∙ ap accepted (sym (only_into N u f buffer w.0 b w.1 w.2)),
  ),
  λ n p q. (into_refused N u f buffer (back N u f (length buffer)) refl n p q, into_answer N u f buffer (refused n p q)),
)

pub pend_means : PendMeans
unfolding pend in_order
pend_means N u x room =
    file_call N u _ _ true (both_mean (equal_means (length x) size) (equal_means room file_size)) (own_formed_is N u x) nothing_left (pending_of x)

-- The bytes of a file after its state is set, one by one.
set_length : (f : List ℕ) (b : ℕ) → length f ≡ file_size → length (take 1 f ++ (b ∷ behind f)) ≡ length f
set_length [] b e = absurd (omega arith)
set_length (k ∷ []) b e = absurd (omega arith)
set_length (k ∷ s ∷ x) b e = refl

set_state : (f : List ℕ) (b : ℕ) → length f ≡ file_size → state (take 1 f ++ (b ∷ behind f)) ≡ b
set_state [] b e = absurd (omega arith)
set_state (k ∷ x) b e = refl

set_others : (f : List ℕ) (b : ℕ) → length f ≡ file_size → (i : ℕ) → (i ≡ 1 → ⊥) → get_or (take 1 f ++ (b ∷ behind f)) i 0 ≡ get_or f i 0
set_others [] b e i n = absurd (omega arith)
set_others (k ∷ []) b e i n = absurd (omega arith)
set_others (k ∷ s ∷ x) b e zero n = refl
set_others (k ∷ s ∷ x) b e (suc zero) n = absurd (n refl)
set_others (k ∷ s ∷ x) b e (suc (suc i)) n = refl

-- What is pending is set, and what is not stays.
pub sent_pending : (f : List ℕ) → state f ≡ 1 → sent_of f ≡ (take 1 f ++ (0 ∷ behind f))
unfolding sent_of
sent_pending f e = rw (eq-eqb (state f) 1 e)

pub sent_other : (f : List ℕ) → NotPending f → sent_of f ≡ f
unfolding sent_of
sent_other f n = rw (ne_eqb (state f) 1 n)

pub set_sent : (f : List ℕ) → length f ≡ file_size → SetSent f (sent_of f)
set_sent f l =
    elim (ℕ_discrete (state f) 1) [
      | yes e ↦
          rw (sent_pending f e)
          (record {
            as_long = set_length f 0 l;
            becomes_sent = λ p. set_state f 0 l;
            else_kept = λ n. absurd (n e);
            others_kept = set_others f 0 l;
          })
      | no n ↦
          rw (sent_other f n)
          (record { as_long = refl; becomes_sent = λ e. absurd (n e); else_kept = λ m. refl; others_kept = λ i m. refl })
    ]

pub sent_means : SentMeans
unfolding sent in_order
sent_means N u f = (
  file_call N u _ _ true (equal_means (length f) file_size) (formed_means N u f) nothing_left (sent_of f),
  set_sent f,
)
