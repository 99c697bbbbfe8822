-- What a change leaves, byte by byte. Another count, and another block, in a place of a store are bytes put over as many of the store; and no other
-- bytes are what a change leaves, since each byte is told.
use Prim.Native.Nat.{ℕ, ◌+◌, ◌-◌, ◌*◌, ◌≤◌, ◌<◌}
use mathlib.Core.List.{List}
use mathlib.Core.Logic.{inl, inr}
use mathlib.Core.Path.{◌≡◌, sym, ap, ◌∙◌}
use native.Mathlib.Decide.{dec_lt}
use native.Mathlib.Omega.{arith}
use lib.ListN.{length, get_or}
use lib.Seq.{ext_get_or}
use Rattle.layout.specs.Bytes.{bytes2, put_at}
use Rattle.layout.proofs.Bytes.{length_bytes2}
use Rattle.layout.proofs.Put.{put_length, put_new, put_kept, put_within, put_in_part}
use Rattle.layout.proofs.Put.{number_length, number_high, number_low, number_kept}
use Rattle.store.specs.Place.{place_size, store_size, place, with_count, with_block, with_place, recount}
use Rattle.store.specs.Meaning.{Outside, length_at, count_at, block_at, Recounted, Filled}
use Rattle.store.proofs.Places.{place_length}

-- Two strings with the same bytes in a range, and outside it, have the same.
module _ (t r : List ℕ) (i : ℕ) where
  in_or_out :
      (at n : ℕ) → ((j : ℕ) → j < n → get_or t (at + j) 0 ≡ get_or r (at + j) 0) → (Outside at n i → get_or t i 0 ≡ get_or r i 0) →
      get_or t i 0 ≡ get_or r i 0
  in_or_out at n inside outside =
      elim (dec_lt i at) [
        | yes l ↦ outside (inl l)
        | no g ↦
            elim (dec_lt i (at + n)) [
              | yes l ↦ let e : at + (i - at) ≡ i = omega arith in rw e at (inside (i - at) (omega arith))
              | no m ↦ outside (inr (omega arith))
            ]
      ]

  -- A range of two bytes.
  two_or_out :
      (at : ℕ) → get_or t at 0 ≡ get_or r at 0 → get_or t (at + 1) 0 ≡ get_or r (at + 1) 0 → (Outside at 2 i → get_or t i 0 ≡ get_or r i 0) →
      get_or t i 0 ≡ get_or r i 0
  two_or_out at high low outside =
      in_or_out at 2
      (λ j l.
      elim (dec_lt j 1) [
        | yes z ↦ let e : at + j ≡ at = omega arith in rw e high
        | no g ↦ let e : at + j ≡ at + 1 = omega arith in rw e low
      ]) outside

-- There is one such store at most.
pub recounted_once : {s : List ℕ} {p v n : ℕ} (t r : List ℕ) → Recounted s p v n t → Recounted s p v n r → t ≡ r
recounted_once {p = p} {v = v} t r f g =
    ext_get_or 0 t r (f.same_length ∙ sym g.same_length)
    (λ i l.
    two_or_out t r i (count_at p v) (f.high ∙ sym g.high) (f.low ∙ sym g.low)
    (λ o. f.others_kept i o ∙ sym (g.others_kept i o)))

pub filled_once : {s : List ℕ} {p u : ℕ} {b : List ℕ} (t r : List ℕ) → Filled s p u b t → Filled s p u b r → t ≡ r
filled_once {p = p} {u = u} {b = b} t r f g =
    ext_get_or 0 t r (f.same_length ∙ sym g.same_length)
    (λ i l.
    two_or_out t r i (length_at p) (f.length_high ∙ sym g.length_high) (f.length_low ∙ sym g.length_low)
    (λ x.
    two_or_out t r i (count_at p u) (f.count_high ∙ sym g.count_high) (f.count_low ∙ sym g.count_low)
    (λ y.
    in_or_out t r i (block_at p) (length b) (λ j k. f.block_bytes j k ∙ sym (g.block_bytes j k))
    (λ z. f.others_kept i x y z ∙ sym (g.others_kept i x y z)))))

module _ (s : List ℕ) (long : length s ≡ store_size) (p : ℕ) (h : p < 64) (v : ℕ) (user : v < 16) where
  place_fits : place_size * p + place_size ≤ length s
  place_fits = omega arith

  count_fits : count_at p v + 2 ≤ length s
  count_fits = omega arith

  module _ (n : ℕ) where
    pub recount_put : recount s p v n ≡ put_at s (count_at p v) (bytes2 n)
    unfolding with_place with_count
    recount_put =
        let e : place_size * p + (2 + 2 * v) ≡ count_at p v = omega arith in
        put_in_part place_size s p place_fits (2 + 2 * v) (bytes2 n) (omega (arith, length_bytes2 n)) ∙ ap (λ k. put_at s k (bytes2 n)) e

    pub recounted : Recounted s p v n (recount s p v n)
    recounted =
        rw recount_put
        (record {
          same_length = number_length s (count_at p v) n count_fits;
          high = number_high s (count_at p v) n count_fits;
          low = number_low s (count_at p v) n count_fits;
          others_kept = number_kept s (count_at p v) n count_fits;
        })

  -- A block is put after its length and its user's count.
  module _ (b : List ℕ) (lb : length b ≤ 8192) where
    abbrev pub sized : List ℕ
    sized = put_at s (length_at p) (bytes2 (length b))

    abbrev pub owned : List ℕ
    owned = put_at sized (count_at p v) (bytes2 1)

    length_fits : length_at p + 2 ≤ length s
    length_fits = omega arith

    pub sized_length : length sized ≡ length s
    sized_length = number_length s (length_at p) (length b) length_fits

    owned_fits : count_at p v + 2 ≤ length sized
    owned_fits = omega (arith, sized_length)

    owned_length : length owned ≡ length s
    owned_length = number_length sized (count_at p v) 1 owned_fits ∙ sized_length

    block_fits : block_at p + length b ≤ length owned
    block_fits = omega (arith, owned_length)

    pub block_put : with_place s p (with_block (place s p) v b) ≡ put_at owned (block_at p) b
    unfolding with_place with_block with_count
    block_put =
        let lx : length (place s p) ≡ place_size = place_length s long p h in
        let length-put : List ℕ = put_at (place s p) 0 (bytes2 (length b)) in
        let ll : length length-put ≡ place_size = number_length (place s p) 0 (length b) (omega arith) ∙ lx in
        let count-put : List ℕ = put_at length-put (2 + 2 * v) (bytes2 1) in
        let lc : length count-put ≡ place_size = number_length length-put (2 + 2 * v) 1 (omega arith) ∙ ll in
        let z : place_size * p + 0 ≡ length_at p = omega arith in
        let e : place_size * p + (2 + 2 * v) ≡ count_at p v = omega arith in
        let is-sized : put_at s (place_size * p) length-put ≡ sized =
        put_in_part place_size s p place_fits 0 (bytes2 (length b)) (omega (arith, length_bytes2 (length b))) ∙
        ap (λ k. put_at s k (bytes2 (length b))) z in
        let is-owned : put_at s (place_size * p) count-put ≡ owned =
        put_within s (place_size * p) length-put (2 + 2 * v) (bytes2 1) (omega arith) (omega (arith, length_bytes2 1)) ∙ rw (is-sized, e) in
        put_within s (place_size * p) count-put 34 b (omega arith) (omega arith) ∙ ap (λ k. put_at k (block_at p) b) is-owned

    pub filled : Filled s p v b (with_place s p (with_block (place s p) v b))
    filled =
        let in_block = put_kept owned (block_at p) b block_fits in
        let in_count = number_kept sized (count_at p v) 1 owned_fits in
        rw block_put
        (record {
          same_length = put_length owned (block_at p) b block_fits ∙ owned_length;
          length_high =
              in_block (length_at p) (inl (omega arith)) ∙
              (in_count (length_at p) (inl (omega arith)) ∙ number_high s (length_at p) (length b) length_fits);
          length_low =
              in_block (length_at p + 1) (inl (omega arith)) ∙
              (in_count (length_at p + 1) (inl (omega arith)) ∙ number_low s (length_at p) (length b) length_fits);
          count_high = in_block (count_at p v) (inl (omega arith)) ∙ number_high sized (count_at p v) 1 owned_fits;
          count_low = in_block (count_at p v + 1) (inl (omega arith)) ∙ number_low sized (count_at p v) 1 owned_fits;
          block_bytes = put_new owned (block_at p) b block_fits;
          others_kept = λ i x y z. in_block i z ∙ (in_count i y ∙ number_kept s (length_at p) (length b) length_fits i x);
        })
