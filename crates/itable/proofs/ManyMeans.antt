-- Many lookups mean what ManyMeaning says: where the lengths fit, every question's lookup is accepted or one is the first that is refused, and the
-- buffer is fixed by its parts.
use Prim.Native.Nat.{ℕ, zero, suc, ◌+◌, ◌*◌, ◌<◌}
use mathlib.Core.List.{List, ◌++◌}
use mathlib.Core.Logic.{◌⊎◌, inl, inr, ⊎_elim}
use mathlib.Core.Path.{◌≡◌, refl, sym, ap, ap₂, ◌∙◌}
use native.Mathlib.Omega.{arith}
use lib.ListN.{length, drop, length-drop, take-append-drop}
use lib.Seq.{take_all, drop-drop}
use borrow.Author.Count.{below_more}
use Rattle.layout.specs.Bytes.{part}
use Rattle.layout.proofs.Parts.{part_front, part_behind}
use Rattle.search.specs.First.{First}
use Rattle.refusal.specs.Answer.{Answer, accepted, refused}
use Rattle.refusal.proofs.Means.{Means, means_accepted, means_refused}
use Rattle.itable.specs.declared.Link.{Link}
use Rattle.itable.specs.Lookup.{Entry, absent}
use Rattle.itable.specs.LookupMeaning.{Ends, in_leaf, not_in_leaf, none_leads, Says, ends, leads}
use Rattle.itable.specs.Many.{single, entry_size, entry_bytes, many}
use Rattle.itable.specs.ManyMeaning.{ManySizes, IsAccepted, Answered, WhyMany, lengths, question, ManyMeans}
use Rattle.itable.specs.Internal.Many.{entries_from}
use Rattle.itable.proofs.LookupMeans.{lookup_means}
use Rattle.itable.proofs.Many.{entries_behind, entries_length, all_accepted, first_refused, found_long}
use Rattle.itable.proofs.ManySizes.{sizes_stage, sized, unsized}

-- Entries of 33 bytes each are the parts of the bytes that they make, and only of these.
entries_part :
    (entry : ℕ → Entry) → ((j : ℕ) → length (entry_bytes (entry j)) ≡ entry_size) → (k j : ℕ) → j < k →
    part entry_size (entries_from entry 0 k) j ≡ entry_bytes (entry j)
unfolding entries_from
entries_part entry long zero j l = absurd (omega arith)
entries_part entry long (suc k) zero l = part_front entry_size (entry_bytes (entry 0)) (entries_from entry 1 k) (long 0)
entries_part entry long (suc k) (suc j) l =
    part_behind entry_size (entry_bytes (entry 0)) (entries_from entry 1 k) j (long 0) ∙
    rw (entries_behind entry 0 k) (entries_part (λ m. entry (suc m)) (λ m. long (suc m)) k j (omega arith))

by_parts :
    (entry : ℕ → Entry) (k : ℕ) (out : List ℕ) → length out ≡ entry_size * k →
    ((j : ℕ) → j < k → part entry_size out j ≡ entry_bytes (entry j)) → out ≡ entries_from entry 0 k
unfolding entries_from
by_parts entry zero out l h = sym (take_all 0 out (omega arith))
by_parts entry (suc k) out l h =
    let behind : drop entry_size out ≡ entries_from (λ j. entry (suc j)) 0 k =
    by_parts (λ j. entry (suc j)) k (drop entry_size out) (simp length-drop (omega arith))
    (λ j m.
    let e : entry_size + entry_size * j ≡ entry_size * suc j = omega arith in
    rw (drop-drop (entry_size * j) entry_size out, e) (h (suc j) (omega arith)))
    in sym (take-append-drop entry_size out) ∙ ap₂ ◌++◌ (h 0 (omega arith)) (behind ∙ sym (entries_behind entry 0 k))

-- What an accepted lookup says has 33 bytes.
ends_long : {b : List ℕ} {i : ℕ} {e : Entry} → Ends b i e → length (entry_bytes e) ≡ entry_size
ends_long {b} (in_leaf j leaf l same) = found_long b j
ends_long (not_in_leaf leaf f) = refl
ends_long (none_leads inner f) = refl

says_long : {path : List ℕ} {i d : ℕ} {k : Link} {e : Entry} → Says path i d k e → length (entry_bytes e) ≡ entry_size
says_long (ends w f last) = ends_long f
says_long (leads j w l says) = says_long says

-- The entry of an accepted lookup. A refused one has none, for which absent stands here.
abbrev given : Answer Entry → Entry
given (accepted e) = e
given (refused n p r) = absent

is_given : (a : Answer Entry) → IsAccepted a → a ≡ accepted (given a)
is_given a w = rw w.1

given_long : (a : Answer Entry) → ((e : Entry) → a ≡ accepted e → length (entry_bytes e) ≡ entry_size) → length (entry_bytes (given a)) ≡ entry_size
given_long (accepted e) h = h e refl
given_long (refused n p r) h = refl

-- A lookup is accepted or refused; so all of the first k are accepted, or one is the first that is refused.
abbrev IsRefused : Answer Entry → Type 0
IsRefused a = (n : ℕ) × (p : ℕ) × (r : ℕ) × (a ≡ refused n p r)

decided : (a : Answer Entry) → IsAccepted a ⊎ IsRefused a
decided (accepted e) = inl (e, refl)
decided (refused n p r) = inr (n, p, r, refl)

not_accepted : {a : Answer Entry} → IsRefused a → IsAccepted a → ⊥
not_accepted w v = let z : ◌≡◌ {A = ℕ} 0 1 = cc (w.3, v.1) in omega arith

all_or_first :
    (ask : ℕ → Answer Entry) (k : ℕ) →
    ((j : ℕ) → j < k → IsAccepted (ask j)) ⊎ ((q : ℕ) × First (λ j. IsAccepted (ask j)) k q × IsRefused (ask q))
all_or_first ask zero = inl (λ j l. absurd (omega arith))
all_or_first ask (suc k) =
    ⊎_elim
    (λ all.
    ⊎_elim (λ a. inl (λ j l. below_more (λ m. IsAccepted (ask m)) k all a j (omega arith)))
    (λ w. inr (k, record { within = omega arith; before = all; fails = not_accepted w }, w)) (decided (ask k)))
    (λ w.
    let f = w.1 in
    inr (w.0, record { within = omega (arith, f.within); before = f.before; fails = f.fails }, w.2))
    (all_or_first ask k)

module _ (handle numbers counts paths : List ℕ) (room : ℕ) where
  abbrev call : Answer (List ℕ)
  call = many handle numbers counts paths room

  abbrev ask : ℕ → Answer Entry
  ask = single handle numbers counts paths

  abbrev questions : ℕ
  questions = length numbers

  abbrev entry : ℕ → Entry
  entry j = given (ask j)

  entry_long : (j : ℕ) → length (entry_bytes (entry j)) ≡ entry_size
  entry_long j = given_long (ask j) (λ e h. says_long (((lookup_means _ _ _).0 e).0 h).1)

  refuses : (n q p : ℕ) → WhyMany handle numbers counts paths room n q p → call ≡ refused n q p
  refuses n q p (lengths f) = unsized handle numbers counts paths room f
  refuses n q p (question s f e) = sized handle numbers counts paths room s ∙ first_refused ask questions q f.before f.within e

  means :
      Means call (entries_from entry 0 questions)
      (ManySizes handle numbers counts paths room × ((j : ℕ) → j < questions → IsAccepted (ask j)))
      (WhyMany handle numbers counts paths room)
  means =
      record {
        accepts = λ w.
            sized handle numbers counts paths room w.0 ∙
            all_accepted ask entry 0 questions (λ j a b. is_given (ask j) (w.1 j (omega arith)));
        refuses = λ {n} {p} {q} w. refuses n p q w;
        cases =
            ⊎_elim
            (λ s.
            ⊎_elim (λ all. inl (s, all)) (λ w. let r = w.2 in inr (r.0, w.0, r.1, question s w.1 r.3))
            (all_or_first ask questions))
            (λ w. inr (2, 0, 0, lengths w.3.0)) (sizes_stage handle numbers counts paths room).cases;
      }

  answered : (out : List ℕ) → call ≡ accepted out → Answered handle numbers counts paths room out
  answered out h =
      let w = means_accepted means h in
      let s : ManySizes handle numbers counts paths room = w.0.0 in
      record {
        sizes = s;
        whole = rw w.1 (entries_length entry questions (λ j l. entry_long j) ∙ sym s.room_due);
        answers = λ q l. (entry q, is_given (ask q) (w.0.1 q l), rw w.1 (entries_part entry entry_long questions q l));
      }

  accepts : (out : List ℕ) → Answered handle numbers counts paths room out → call ≡ accepted out
  accepts out w =
      let e : out ≡ entries_from entry 0 questions =
      by_parts entry questions out (w.whole ∙ w.sizes.room_due)
      (λ j l. let a = w.answers j l in a.2 ∙ ap entry_bytes (sym (ap given a.1)))
      in means.accepts (w.sizes, λ j l. let a = w.answers j l in (a.0, a.1)) ∙ ap accepted (sym e)

pub many_means : ManyMeans
many_means handle numbers counts paths room = (
  λ out. (answered handle numbers counts paths room out, accepts handle numbers counts paths room out),
  λ n q p. (means_refused (means handle numbers counts paths room), refuses handle numbers counts paths room n q p),
)
