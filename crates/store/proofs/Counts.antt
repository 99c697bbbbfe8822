-- Laws of one place: what another count, and another block, do to its length, its counts and its block.
use Prim.Native.Nat.{ℕ, ◌+◌, ◌*◌, ◌≤◌, ◌<◌}
use mathlib.Core.List.{List}
use mathlib.Core.Logic.{◌⊎◌, inl, inr}
use mathlib.Core.Path.{◌≡◌, refl, ap₂, ◌∙◌}
use native.Mathlib.Decide.{dec_lt}
use native.Mathlib.Omega.{arith}
use lib.ListN.{length, take, drop}
use lib.Seq.{take_at}
use Rattle.layout.specs.Bytes.{bytes2, put_at}
use Rattle.layout.proofs.Bytes.{length_bytes2}
use Rattle.layout.proofs.Put.{put_length, drop_put, drop_behind, two_kept, two_put}
use Rattle.store.specs.Place.{place_size, block_length, count, block_in, with_count, with_block}

-- Two counts do not share a byte.
apart : (v w n : ℕ) → (w ≡ v → ⊥) → (2 + 2 * w + 2 ≤ 2 + 2 * v) ⊎ (2 + 2 * v + length (bytes2 n) ≤ 2 + 2 * w)
apart v w n ne = elim (dec_lt w v) [ yes l ↦ inl (omega arith) | no l ↦ inr (omega (arith, length_bytes2 n)) ]

-- Another count of user v.
module _ (x : List ℕ) (long : length x ≡ place_size) (v : ℕ) (h : v < 16) (n : ℕ) where
  fits : 2 + 2 * v + length (bytes2 n) ≤ length x
  fits = omega (arith, length_bytes2 n)

  pub recount_length : length (with_count x v n) ≡ place_size
  unfolding with_count
  recount_length = put_length x (2 + 2 * v) (bytes2 n) fits ∙ long

  pub count_same : count (with_count x v n) v ≡ n
  unfolding with_count
  count_same = two_put x (2 + 2 * v) n (omega arith)

  pub count_other : (w : ℕ) → (w ≡ v → ⊥) → count (with_count x v n) w ≡ count x w
  unfolding with_count
  count_other w ne = two_kept x (2 + 2 * v) (bytes2 n) fits (2 + 2 * w) (apart v w n ne)

  pub recount_block_length : block_length (with_count x v n) ≡ block_length x
  unfolding with_count
  recount_block_length = two_kept x (2 + 2 * v) (bytes2 n) fits 0 (inl (omega arith))

  pub recount_block : block_in (with_count x v n) ≡ block_in x
  unfolding with_count
  recount_block =
      ap₂ take recount_block_length (drop_behind x (2 + 2 * v) (bytes2 n) fits 34 (omega (arith, length_bytes2 n)))

-- A block for user u.
module _ (x : List ℕ) (long : length x ≡ place_size) (u : ℕ) (h : u < 16) (b : List ℕ) (lb : length b ≤ 8192) where
  abbrev sized : List ℕ
  sized = put_at x 0 (bytes2 (length b))

  size_fits : 0 + length (bytes2 (length b)) ≤ length x
  size_fits = omega (arith, length_bytes2 (length b))

  sized_length : length sized ≡ place_size
  sized_length = put_length x 0 (bytes2 (length b)) size_fits ∙ long

  abbrev owned : List ℕ
  owned = with_count sized u 1

  owned_length : length owned ≡ place_size
  owned_length = recount_length sized sized_length u h 1

  block_fits : 34 + length b ≤ length owned
  block_fits = omega (arith, owned_length)

  pub filled_length : length (with_block x u b) ≡ place_size
  unfolding with_block
  filled_length = put_length owned 34 b block_fits ∙ owned_length

  pub filled_block_length : block_length (with_block x u b) ≡ length b
  unfolding with_block
  filled_block_length =
      two_kept owned 34 b block_fits 0 (inl (omega arith)) ∙
      (recount_block_length sized sized_length u h 1 ∙ two_put x 0 (length b) (omega arith))

  pub filled_block : block_in (with_block x u b) ≡ b
  unfolding with_block
  filled_block =
      ap₂ take filled_block_length (drop_put owned 34 b block_fits) ∙ take_at b (drop (34 + length b) owned) (length b) refl

  pub filled_count : count (with_block x u b) u ≡ 1
  unfolding with_block
  filled_count = two_kept owned 34 b block_fits (2 + 2 * u) (inl (omega arith)) ∙ count_same sized sized_length u h 1

  pub filled_other : (w : ℕ) → w < 16 → (w ≡ u → ⊥) → count (with_block x u b) w ≡ count x w
  unfolding with_block
  filled_other w l ne =
      two_kept owned 34 b block_fits (2 + 2 * w) (inl (omega arith)) ∙
      (count_other sized sized_length u h 1 w ne ∙
      two_kept x 0 (bytes2 (length b)) size_fits (2 + 2 * w) (inr (omega (arith, length_bytes2 (length b)))))
