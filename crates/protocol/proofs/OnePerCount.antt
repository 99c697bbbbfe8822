-- One structure for each own count, from any file: a whole write moves the file to the next own count, and nothing else moves it.
use Prim.Native.Nat.{ℕ, ◌≤◌}
use mathlib.Core.List.{List, [], ◌∷◌}
use mathlib.Core.Logic.{inl, ⊎_elim}
use mathlib.Core.Path.{◌≡◌, sym, ap, ◌∙◌}
use native.Mathlib.Omega.{arith}
use Rattle.refusal.specs.Answer.{accepted}
use Rattle.protocol.specs.Version.{owner, count, own}
use Rattle.protocol.specs.MemoryFile.{file_size, held, over}
use Rattle.protocol.specs.History.{Making, Event, user_of, writes, file_from, writing_from, Counted}
use Rattle.protocol.specs.Meaning.{Remembered}
use Rattle.protocol.specs.OnePerCount.{Begins, OnePerCount}
use Rattle.protocol.proofs.List.{none_counted}
use Rattle.protocol.proofs.MadeMeans.{made_means}
use Rattle.protocol.proofs.FileCalls.{makes_held}
use Rattle.protocol.proofs.MemoryMeans.{over_means}
use Rattle.protocol.proofs.Moved.{of_holds}
use Rattle.protocol.proofs.History.{one_more, writes_made, counted_event, memory, memory_grows, signed_once}

module _ (N : ℕ) (start : List ℕ) where
  -- What is written is its user's own.
  own_written : (earlier : List Event) (e : Event) {x : List ℕ} → writing_from N start earlier e ≡ writes x → own x ≡ count x (user_of e)
  own_written earlier e {x} h =
      let w = writes_made N start earlier e h in
      let m : Making = w.0 in
      let f : List ℕ = file_from N start earlier m.user in
      let made = makes_held N m.user f m.counts m.handle m.room x w.2 in
      ap (count x) ((made_means N (held f) m x made).owned ∙ ap user_of (sym w.1))

  pub own_counted : (run : List Event) (a : ℕ) (x : List ℕ) → Counted N start run a x → own x ≡ count x a
  own_counted run a x c = let p = counted_event N start run c in own_written p.0 p.1 p.4 ∙ ap (count x) p.3

  -- The own count never falls below that of the file at first.
  from_start : (run : List Event) (a : ℕ) → count (held start) a ≤ count (memory N start run a) a
  unfolding file_from
  from_start [] a = omega arith
  from_start (e ∷ earlier) a = omega (arith, from_start earlier a, memory_grows N start e earlier a)

-- A file at first holds none, or its user's own.
own_begins : (N u : ℕ) (f : List ℕ) → Begins N u f → own (held f) ≡ count (held f) u
own_begins N u f b =
    let of-remembered : (x : List ℕ) → Remembered N u x → own x ≡ count x u =
    λ x r. ⊎_elim (λ e. none_counted x (owner x) e ∙ sym (none_counted x u e)) (λ w. ap (count x) w.1) r
    in
    ⊎_elim (λ e. of-remembered (held f) (inl (ap held e ∙ of_holds [])))
    (λ (o : (old : List ℕ) × (over N u old file_size ≡ accepted f)).
    let w = ((over_means N u o.0 file_size).0 f).0 o.1 in
    let h : held f ≡ o.0 = ap held w.1 ∙ of_holds o.0 in rw h (of-remembered o.0 w.0.2))
    b

pub one_per_count : OnePerCount
one_per_count N u f b run = (
  λ x y cx cy e.
      let p = counted_event N f run cx in
      let q = counted_event N f run cy in
      let ox : own x ≡ count x (user_of p.1) = own_written N f p.0 p.1 p.4 in
      let oy : own y ≡ count y (user_of q.1) = own_written N f q.0 q.1 q.4 in
      let users : user_of p.1 ≡ user_of q.1 = p.3 ∙ sym q.3 in
      signed_once N f p.2 q.2 users p.4 q.4 (ap (count x) (sym users) ∙ (sym ox ∙ (e ∙ oy))),
  λ x cx.
      let p = counted_event N f run cx in
      let ox : own x ≡ count x (user_of p.1) = own_written N f p.0 p.1 p.4 in
      let more = one_more N (file_from N f p.0 (user_of p.1)) p.1 p.4 in
      let start = rw (sym p.3) at (own_begins N u f b) in
      omega (arith, from_start N f p.0 (user_of p.1)),
)
