-- What a call leaves of a sound store: it stays sound, and the sum of its counts is one more after an accepted store, and less by what an
-- unreference took. For each changes one count of one place by one, and no other.
use Prim.Native.Nat.{ℕ, ◌+◌, ◌<◌}
use mathlib.Core.List.{List}
use mathlib.Core.Path.{◌≡◌, refl, ap}
use native.Mathlib.Omega.{arith}
use Rattle.refusal.specs.Answer.{Answer, accepted, refused, and_then}
use Rattle.refusal.specs.Result.{left}
use Rattle.refusal.specs.Run.{one}
use Rattle.refusal.proofs.Run.{always, by_answer}
use Rattle.store.specs.Place.{place, count, recount}
use Rattle.store.specs.Calls.{store, Unreferenced, unreference, after_unreference}
use Rattle.store.specs.Meaning.{Takes}
use Rattle.store.specs.Runs.{StoreCall, store_of, retrieve_of, unreference_of, leaves, store_after, took_one, counts_of, references}
use Rattle.store.proofs.Changed.{recounted, recounted_once}
use Rattle.store.proofs.UnreferenceMeans.{unreference_means}
use Rattle.store.proofs.Sum.{sum_more}
use Rattle.store.proofs.Kept.{Sound, OneMore, made_sound}
use Rattle.store.proofs.OneCount.{recount_sound, recount_less}
use Rattle.store.proofs.Accepted.{store_accepted}

pub reference_more : {p u : ℕ} {s t : List ℕ} → OneMore p u s t → references t ≡ references s + 1
reference_more {p} {u} {s} {t} m =
    sum_more (λ q. counts_of (place t q)) (λ q. counts_of (place s q)) p
    (sum_more (count (place t p)) (count (place s p)) u m.more 16 m.user m.other_users) 64 m.within
    (λ q l n. ap counts_of (m.other_places q n))

-- The store t after a call of s that counts so many more, and takes so many.
pub record After (s : List ℕ) (added taken : ℕ) (t : List ℕ) : Type 0 where
  pub sound : Sound t
  pub counted : references t + taken ≡ references s + added

unchanged : {s : List ℕ} → Sound s → After s 0 0 s
unchanged w = record { sound = w; counted = omega arith }

-- The two ways of unreferencing.
unreferenced_after :
    (s : List ℕ) → Sound s → (u : ℕ) → u < 16 → (p : ℕ) → p < 64 → (t : Unreferenced) → Takes s p u t →
    After s 0 t.took t.after
unreferenced_after s w u hu p h t (Takes.one n e k r) =
    rw (k, recounted_once t.after (recount s p u n) r (recounted s w.long p h u hu n))
    (record { sound = recount_sound s w p h u hu n; counted = omega (arith, reference_more (recount_less s w p h u hu n e)) })
unreferenced_after s w u hu p h t (Takes.nothing e k r) = rw (k, r) (unchanged w)

-- Every store, and every unreference, refused ones included.
module _ (s : List ℕ) (w : Sound s) (u : ℕ) where
  pub store_after_is : (b : List ℕ) → After s (one (store s u b)) 0 (left (store s u b) s)
  store_after_is b =
      by_answer (λ n t. After s n 0 t) (store s u b)
      (λ t e. let a = store_accepted s u b t e in record { sound = a.sound; counted = omega (arith, reference_more a.more) })
      (unchanged w)

  pub unreference_after :
      (hash : List ℕ) → After s 0 (took_one (unreference s u hash)) (left (after_unreference s u hash) s)
  unreference_after hash =
      by_cases (unreference s u hash)
      (λ t e.
      let m = ((unreference_means s u hash).0 t).0 e in
      unreferenced_after s w u (omega (arith, m.0.0.0.0)) m.1.0 m.1.1.within t m.1.2)
    where
      by_cases :
          (a : Answer Unreferenced) → ((t : Unreferenced) → a ≡ accepted t → After s 0 t.took t.after) →
          After s 0 (took_one a) (left (and_then a (λ t. accepted t.after)) s)
      by_cases (accepted t) f = f t refl
      by_cases (refused n i j) f = unchanged w

-- So a made store is sound after every run.
pub after_sound : (calls : List StoreCall) → Sound (store_after calls)
after_sound = always Sound made_sound call_sound
  where
    call_sound : (s : List ℕ) (c : StoreCall) → Sound s → Sound (leaves s c)
    call_sound s (store_of u b) w = (store_after_is s w u b).sound
    call_sound s (retrieve_of hash room) w = w
    call_sound s (unreference_of u hash) w = (unreference_after s w u hash).sound
