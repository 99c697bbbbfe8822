-- Laws of a server's list in lent bytes: what the test of the length leaves of a call, and the bytes as they are read and written.
use Prim.Native.Nat.{ℕ, ◌+◌, ◌-◌, ◌≤◌}
use mathlib.Core.List.{List, [], ◌∷◌, ◌++◌, append-nil}
use mathlib.Core.Path.{◌≡◌, refl, sym, ap, ◌∙◌}
use native.Mathlib.Omega.{arith}
use lib.ListN.{length, take, drop, set, length-set, length-drop, drop_of_length-le}
use lib.Seq.{length-take-le, take_all, take-length}
use borrow.Author.Tests.{eq-eqb, ne_eqb}
use Rattle.std.specs.Prelude.{Result, Ok, Err, is_ok, true, false}
use Rattle.search.proofs.Bool.{not_both}
use Rattle.refusal.specs.Answer.{Answer, accepted, refused, and_then}
use Rattle.refusal.specs.Order.{in_order}
use Rattle.refusal.specs.Refusal.{checked}
use Rattle.refusal.specs.Result.{Gives}
use Rattle.refusal.specs.declared.Refusal.{Refusal}
use Rattle.refusal.proofs.Match.{gives_refused}
use Rattle.refusal.proofs.Numbered.{ends}
use Rattle.protocol.specs.Server.{make, listed, listing}
use Rattle.protocol.specs.declared.Server.{Server}
use Rattle.sundr.specs.Server.{size_steps, server_in, bytes_of, make_at, listed_at, listing_at}
use Rattle.layout.proofs.Copied.{copied}

module _ {A : Type 0} (b : List ℕ) (a : Answer A) where
  pub sized : length b ≡ 1569 → in_order (size_steps b) a ≡ a
  unfolding in_order size_steps
  sized h = rw (eq-eqb (length b) 1569 h)

  pub unsized : (length b ≡ 1569 → ⊥) → in_order (size_steps b) a ≡ refused 2 0 0
  unfolding in_order size_steps
  unsized h = rw (ne_eqb (length b) 1569 h)

-- What a call answered, by the test for it.
pub was_ok : (c : Result Unit Refusal) → is_ok c ≡ true → (u : Unit {0}) × (c ≡ Ok u)
was_ok (Ok u) h = (u, refl)
was_ok (Err r) h = absurd (not_both h refl)

pub was_err : (c : Result Unit Refusal) → is_ok c ≡ false → (r : Refusal) × (c ≡ Err r)
was_err (Ok u) h = absurd (not_both refl h)
was_err (Err r) h = (r, refl)

-- A list that is made, and one that is not, in bytes.
module _ (N : ℕ) (b : List ℕ) {e s : Server} {c : Result Unit Refusal} (g : Gives (make N) e s c) (h : length b ≡ 1569) where
  as_bytes : {due : Answer Server} → make N ≡ due → make_at N b ≡ and_then due (λ t. accepted (bytes_of t))
  unfolding make_at
  as_bytes d = sized b (and_then (make N) (λ t. accepted (bytes_of t))) h ∙ ap (λ (x : Answer Server). and_then x (λ t. accepted (bytes_of t))) d

  pub makes : {u : Unit {0}} → c ≡ Ok u → Gives (make_at N b) b (bytes_of s) c
  makes p =
      let d : make_at N b ≡ accepted (bytes_of s) = as_bytes (sym g.answers ∙ ap (checked s) p) in
      record { answers = rw (d, p); leaves = rw d }

  pub makes_not : {r : Refusal} → c ≡ Err r → Gives (make_at N b) b b c
  makes_not {r} p = gives_refused (as_bytes (sym g.answers ∙ ap (checked s) p) ∙ ends r (λ t. accepted (bytes_of t))) p

pub not_sized : (N : ℕ) (b : List ℕ) → (length b ≡ 1569 → ⊥) → make_at N b ≡ refused 2 0 0
unfolding make_at
not_sized N b h = unsized b (and_then (make N) (λ s. accepted (bytes_of s))) h

-- A listing of the list that the bytes are.
module _ (b out : List ℕ) where
  pub listed_at_is :
      length b ≡ 1569 →
      (listed_at b (length out) ≡ listed (server_in b) (length out)) × (listing_at b out ≡ listing (server_in b) out)
  unfolding listed_at listing_at
  listed_at_is h = (sized b (listed (server_in b) (length out)) h, sized b (listing (server_in b) out) h)

  pub not_listed : (length b ≡ 1569 → ⊥) → (listed_at b (length out) ≡ refused 2 0 0) × (listing_at b out ≡ refused 2 0 0)
  unfolding listed_at listing_at
  not_listed h = (unsized b (listed (server_in b) (length out)) h, unsized b (listing (server_in b) out) h)

-- A copy of all bytes but the first, into as many.
pub read_back :
    (b old new : List ℕ) → length b ≡ 1569 → length old ≡ 1568 →
    new ≡ take (length (take (length b - 1) (drop 1 b))) (take (length b - 1) (drop 1 b)) ++ drop (length (take (length b - 1) (drop 1 b))) old →
    new ≡ drop 1 b
read_back b old new h l e =
    let n : length (drop 1 b) ≡ length b - 1 = length-drop 1 b in
    let s : take (length b - 1) (drop 1 b) ≡ drop 1 b = take_all (length b - 1) (drop 1 b) (omega arith) in
    e ∙ rw (s, take-length (drop 1 b), drop_of_length-le old {i = length (drop 1 b)} (omega arith), append-nil)

-- The first byte set, and a copy into all the others.
module _ (out xs : List ℕ) (u : ℕ) (h : length out ≡ 1569) (l : length xs ≡ 1568) where
  abbrev others : List ℕ
  others = take (length (set out 0 u) - 1) (drop 1 (set out 0 u))

  pub room : length xs ≤ length others
  room =
      let a = length-set out 0 u in
      let b = length-drop 1 (set out 0 u) in
      let c = length-take-le (length (set out 0 u) - 1) (drop 1 (set out 0 u)) (omega arith) in
      omega arith

  first : (o : List ℕ) → 1 ≤ length o → take 1 (set o 0 u) ≡ u ∷ []
  first [] k = absurd (omega arith)
  first (x ∷ o) k = refl

  pub written :
      (part : List ℕ) → part ≡ take (length xs) xs ++ drop (length xs) others →
      take 1 (set out 0 u) ++ (part ++ drop (length (set out 0 u) - 1) (drop 1 (set out 0 u))) ≡ u ∷ xs
  written part e =
      let a = length-set out 0 u in
      copied xs (set out 0 u) part 1 (length (set out 0 u) - 1) (omega arith) (omega arith) e ∙
      rw (drop_of_length-le (set out 0 u) {i = 1 + length xs} (omega arith), append-nil, first out (omega arith))
