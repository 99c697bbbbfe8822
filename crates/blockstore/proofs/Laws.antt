-- What the calls' proofs cite: the counts of a place as bytes, its slice of the store, and a search that goes up place by place.
use Prim.Native.Nat.{ℕ, min, ◌+◌, ◌-◌, ◌*◌, ◌/◌, ◌%◌, ◌≤◌, ◌<◌}
use mathlib.Core.Bool.{Bool, true, false}
use mathlib.Core.List.{List, ◌++◌}
use mathlib.Core.Logic.{◌↔◌, ⊎_elim}
use mathlib.Core.Path.{◌≡◌, sym, ap, ◌∙◌}
use native.Mathlib.Decide.{ℕ_discrete, dec_lt}
use native.Mathlib.Omega.{arith}
use lib.ListN.{length, get_or, take, drop, replicate, length-drop, drop_of_length-le}
use lib.Seq.{take-length, take_all}
use borrow.Author.Tests.{eq-eqb, ne_eqb, lt-ltb, le-ltb}
use Rattle.std.specs.Prelude.{Ok}
use Rattle.search.proofs.Bool.{not_both, bool_cases}
use Rattle.search.proofs.First.{not_holding}
use Rattle.layout.specs.Bytes.{two, bytes2, put_at}
use Rattle.layout.specs.Strings.{zeros}
use Rattle.layout.proofs.Zeros.{zeros_mean}
use Rattle.layout.proofs.Bytes.{two_part}
use Rattle.refusal.specs.Answer.{Answer, accepted, refused}
use Rattle.refusal.specs.Order.{in_order}
use Rattle.refusal.specs.Result.{Gives}
use Rattle.sha256.specs.Hash.{is_hash}
use Rattle.sha256.proofs.Laws.{is_hash_means}
use Rattle.store.specs.Place.{place_size, store_size, place, made, count, block_in, free, holds, first_free, with_block, with_place, recount}
use Rattle.store.specs.Calls.{make, unreferenced}
use Rattle.store.specs.Meaning.{Free}
use Rattle.store.proofs.Changed.{recount_put, sized_length, block_put}
use Rattle.store.proofs.Lowest.{free_means}
use Rattle.blockstore.specs.Internal.Stages.{counted_once, filled_free}

-- Tests that decide the same are equal.
alike : {P : Type 0} (a b : Bool) → (a ≡ true) ↔ P → (b ≡ true) ↔ P → a ≡ b
alike a b f g = ⊎_elim (λ t. t ∙ sym (g.1 (f.0 t))) (λ e. e ∙ sym (not_holding b (λ t. absurd_of e (f.1 (g.0 t))))) (bool_cases a)
  where
    absurd_of : a ≡ false → a ≡ true → ⊥
    absurd_of e t = not_both t e

-- Sixteen counts are zero where their 32 bytes are.
module _ (x : List ℕ) where
  pub zeros_count : (zeros x 2 32 ≡ true) ↔ Free x
  unfolding two
  zeros_count =
      let z = zeros_mean x 2 32 in (
        λ e v l.
            let a : 2 + 2 * v + 1 ≡ 2 + (2 * v + 1) = omega arith in
            rw (a, z.0 e (2 * v) (omega arith), z.0 e (2 * v + 1) (omega arith)),
        λ f. z.1 (λ j l. byte j (f (j / 2) (omega arith))),
      )
    where
      byte : (j : ℕ) → count x (j / 2) ≡ 0 → get_or x (2 + j) 0 ≡ 0
      byte j e =
          elim (ℕ_discrete (j % 2) 0) [
            | yes q ↦ let a : 2 + j ≡ 2 + 2 * (j / 2) = omega arith in rw a (omega arith)
            | no q ↦ let a : 2 + j ≡ 2 + 2 * (j / 2) + 1 = omega arith in rw a (omega arith)
          ]

  pub free_bytes : zeros x 2 32 ≡ free x
  free_bytes = alike (zeros x 2 32) (free x) zeros_count (free_means x)

-- The slice of place p is its part of the store.
pub part_there :
    (s : List ℕ) (p : ℕ) → take (place_size * p + place_size - place_size * p) (drop (place_size * p) s) ≡ place s p
part_there s p = let e : place_size * p + place_size - place_size * p ≡ place_size = omega arith in rw e

-- A part that is cut off at the end of the bytes is what there is of it.
module _ (x : List ℕ) (a n : ℕ) where
  cut_start : drop (min a (length x)) x ≡ drop a x
  cut_start =
      elim (dec_lt a (length x)) [
        | yes l ↦ let e : min a (length x) ≡ a = omega arith in rw e
        | no l ↦
            let e : min a (length x) ≡ length x = omega arith in
            rw (e, drop_of_length-le x {i = length x} (omega arith), drop_of_length-le x {i = a} (omega arith))
      ]

  cut_end : take (min (a + n) (length x) - min a (length x)) (drop a x) ≡ take n (drop a x)
  cut_end =
      let l = length-drop a x in
      elim (dec_lt (a + n) (length x)) [
        | yes h ↦ let e : min (a + n) (length x) - min a (length x) ≡ n = omega arith in rw e
        | no h ↦ take_all _ (drop a x) (omega (arith, l)) ∙ sym (take_all n (drop a x) (omega (arith, l)))
      ]

  pub cut : (i j : ℕ) → i ≡ min a (length x) → j ≡ min (a + n) (length x) → take (j - i) (drop i x) ≡ take n (drop a x)
  cut i j ei ej = rw (ei, ej, cut_start) cut_end

-- The block of a place, hashed where somebody counts it.
pub block_hashed :
    (x hash b : List ℕ) (r : Bool) → b ≡ block_in x → length b < 65536 → free x ≡ false → r ≡ is_hash b hash → r ≡ holds x hash
unfolding holds
block_hashed x hash b r e short n h = h ∙ (is_hash_means b hash (omega arith) ∙ rw (n, e))

-- A count of a place, where it stands in the store.
pub count_there : (s : List ℕ) (p u : ℕ) → u < 16 → two s (place_size * p + 2 + 2 * u) ≡ count (place s p) u
count_there s p u h =
    let e : place_size * p + (2 + 2 * u) ≡ place_size * p + 2 + 2 * u = omega arith in
    sym (two_part s (place_size * p) place_size (2 + 2 * u) (omega arith) ∙ ap (two s) e)

-- A block in a place: its length, a count and its bytes are put there one after the other.
module _ (s : List ℕ) (long : length s ≡ store_size) (p : ℕ) (h : p < 64) (u : ℕ) (user : u < 16) (b : List ℕ) (short : length b ≤ 8192) where
  pub block_there :
      (w y z n : List ℕ) → n ≡ bytes2 (length b) → w ≡ put_at s (place_size * p + 0) n → y ≡ recount w p u 1 → z ≡ put_at y (place_size * p + 34) b →
      z ≡ with_place s p (with_block (place s p) u b)
  block_there w y z n en ew ey ez =
      let e : place_size * p + 0 ≡ place_size * p = omega arith in
      let g : w ≡ put_at s (place_size * p) (bytes2 (length b)) = ew ∙ rw (e, en) in
      let l : length w ≡ store_size = ap length g ∙ (sized_length s long p h u user b short ∙ long) in
      let f : y ≡ put_at w (place_size * p + 2 + 2 * u) (bytes2 1) = ey ∙ recount_put w l p h u user 1 in
      rw (ez, f, g) (sym (block_put s long p h u user b short))

-- A block copied to the front of a buffer.
pub front_copied : (b out t : List ℕ) → t ≡ take (length b) b ++ drop (length b) out → t ≡ b ++ drop (length b) out
front_copied b out t e = e ∙ rw (take-length b)

-- A call that leaves what is due.
pub accepts : {A : Type 0} {due : Answer A} {before after a : A} → due ≡ accepted a → after ≡ a → Gives due before after (Ok tt)
accepts d e = record { answers = rw (d, e); leaves = rw (d, e) }

-- Making: refused, and where zeros are written from the first byte on.
module _ (s : List ℕ) where
  pub make_refused : (length s ≡ store_size → ⊥) → make s ≡ refused 2 0 0
  unfolding make in_order
  make_refused n = rw (ne_eqb (length s) store_size n)

  make_accepted : length s ≡ store_size → make s ≡ accepted made
  unfolding make in_order
  make_accepted long = rw (eq-eqb (length s) store_size long)

  zeros_made : length s - 0 ≡ store_size → take 0 s ++ replicate (length s - 0) 0 ≡ made
  unfolding made
  zeros_made e = ap (λ (n : ℕ). replicate n 0) e

  pub make_cleared : (t : List ℕ) → length s ≡ store_size → t ≡ take 0 s ++ replicate (length s - 0) 0 → Gives (make s) s t (Ok tt)
  make_cleared t long e = accepts (make_accepted long) (e ∙ zeros_made (omega arith))

-- A user's count at place p, by what it is.
module _ (s : List ℕ) (p u : ℕ) where
  pub last_refused : count (place s p) u ≡ 65535 → counted_once s p u ≡ refused 14 0 0
  unfolding counted_once in_order
  last_refused e = rw (eq-eqb (count (place s p) u) 65535 e)

  pub counts_once : (count (place s p) u ≡ 65535 → ⊥) → counted_once s p u ≡ accepted (recount s p u (count (place s p) u + 1))
  unfolding counted_once in_order
  counts_once n = rw (ne_eqb (count (place s p) u) 65535 n)

  pub takes_none : count (place s p) u ≡ 0 → unreferenced s p u ≡ record { took = 0; after = s }
  unfolding unreferenced
  takes_none e = rw (eq-eqb (count (place s p) u) 0 e)

  pub takes_one :
      (count (place s p) u ≡ 0 → ⊥) → unreferenced s p u ≡ record { took = 1; after = recount s p u (count (place s p) u - 1) }
  unfolding unreferenced
  takes_one n = rw (ne_eqb (count (place s p) u) 0 n)

-- A block for user u, by whether there is a free place.
module _ (s : List ℕ) (u : ℕ) (b : List ℕ) where
  pub full_refused : first_free s ≡ 64 → filled_free s u b ≡ refused 13 0 0
  unfolding filled_free in_order
  full_refused e = rw (le-ltb (first_free s) 64 (omega arith))

  module _ (p : ℕ) (e : first_free s ≡ p) where
    fills : p < 64 → filled_free s u b ≡ accepted (with_place s p (with_block (place s p) u b))
    unfolding filled_free in_order
    fills l = rw (lt-ltb (first_free s) 64 (omega arith), e)

    pub free_filled :
        (t : List ℕ) → p < 64 → t ≡ with_place s p (with_block (place s p) u b) → Gives (filled_free s u b) s t (Ok tt)
    free_filled t l h = accepts (fills l) h
