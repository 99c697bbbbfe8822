-- The padded message's blocks: those of the message itself, then the one or two that the padding makes of the rest.
use Rattle.std.proofs.Common.{◌≡◌, ℕ, zero, suc, ◌+◌, ◌-◌, ◌*◌, ◌/◌, ◌%◌, ◌^◌, ◌<◌, ◌≤◌, List, [], ◌∷◌, ◌++◌, length, take, drop, set, replicate, refl, sym, ap, ◌∙◌, append_assoc, arith, length-append, length-drop, drop_of_length-le, take_all, drop-drop, take_at, drop_at}
use lib.ListN.{length-replicate, replicate-append-replicate}
use lib.Seq.{drop-append-le, take-length, set_at}
use Rattle.layout.specs.Bytes.{bytes4, bytes8}
use Rattle.layout.proofs.Bytes.{length_bytes4}
use Rattle.layout.proofs.Parts.{part_append}
use Rattle.sha256.specs.declared.State.{State}
use Rattle.sha256.proofs.Stores.{put}
use Rattle.sha256.specs.Sha256.{padded, compressed, hashed}

-- What follows the message's whole blocks does not change the hash value after them.
pub hashed_prefix : (m p : List ℕ) (i : ℕ) → 64 * i ≤ length m → hashed (m ++ p) i ≡ hashed m i
unfolding hashed
hashed_prefix m p zero h = refl
hashed_prefix m p (suc i) h =
    rw (hashed_prefix m p i (omega arith), part_append 64 m p i (omega arith))

-- One block more, the first 64 of the bytes after n blocks.
module _ (m part left : List ℕ) (n : ℕ) (e : drop (64 * n) m ≡ part ++ left) (l : length part ≡ 64) where
  part_is_next : part ≡ take 64 (drop (64 * n) m)
  part_is_next = rw e (sym (take_at part left 64 l))

  after : 64 * suc n ≡ 64 * n + 64
  after = omega arith

  pub next_within : 64 * suc n ≤ length m
  next_within =
      let long : length m - 64 * n ≡ 64 + length left = sym (length-drop (64 * n) m) ∙ ap length e ∙ (length-append part left ∙ rw l) in
      omega arith

  pub next_left : left ≡ drop (64 * suc n) m
  next_left = rw (after, ← drop-drop 64 (64 * n) m, e) (sym (drop_at part left 64 l))

  pub next_block : (s r : State) → s ≡ hashed m n → r ≡ compressed s part → r ≡ hashed m (suc n)
  unfolding hashed
  next_block s r h f = f ∙ rw h (ap (compressed (hashed m n)) part_is_next)

-- The byte 128 and i + j zeros, parted after i of them.
parted : (a : List ℕ) (i j : ℕ) → a ++ (128 ∷ replicate (i + j) 0) ≡ (a ++ (128 ∷ replicate i 0)) ++ replicate j 0
parted a i j =
    rw (← replicate-append-replicate {A = ℕ} i j 0, append_assoc a (128 ∷ replicate i 0) (replicate j 0))

drop_replicate : (i j : ℕ) → drop i (replicate {A = ℕ} (i + j) 0) ≡ replicate j 0
drop_replicate i j =
    rw (← replicate-append-replicate {A = ℕ} i j 0) (drop_at (replicate i 0) (replicate j 0) i (length-replicate i 0))

-- The message's bytes after its whole blocks.
abbrev rest : List ℕ → List ℕ
rest m = drop (64 * (length m / 64)) m

module _ (m : List ℕ) (few : length m ≤ 65536) where
  -- The length in bits needs one word, and the bits 0 are whole bytes, of which the length's first word has four more.
  padded_is : padded m ≡ m ++ ((128 ∷ replicate ((119 - length m % 64) % 64 + 4) 0) ++ bytes4 (8 * length m))
  unfolding padded bytes8 bytes4
  padded_is =
      let z : ((960 - (8 * length m + 1) % 512) % 512 - 7) / 8 ≡ (119 - length m % 64) % 64 = omega arith in
      let hi : 8 * length m / 2 ^ 32 ≡ 0 = omega arith in
      let lo : 8 * length m % 2 ^ 32 ≡ 8 * length m = omega arith in
      rw (
        z,
        hi,
        lo,
        ← replicate-append-replicate {A = ℕ} ((119 - length m % 64) % 64) 4 0,
        append_assoc (replicate ((119 - length m % 64) % 64) 0) (replicate 4 0) (bytes4 (8 * length m)),
      )

  padded_length : length (padded m) ≡ length m + 9 + (119 - length m % 64) % 64
  padded_length = rw padded_is (simp (length-append, length-replicate, length_bytes4) (omega arith))

  whole_blocks : hashed (padded m) (length m / 64) ≡ hashed m (length m / 64)
  whole_blocks = rw padded_is (hashed_prefix m _ (length m / 64) (omega arith))

  -- The padded message from the message's rest on.
  from_rest : drop (64 * (length m / 64)) (padded m) ≡
      (rest m ++ (128 ∷ replicate ((119 - length m % 64) % 64 + 4) 0)) ++ bytes4 (8 * length m)
  from_rest =
      rw (
        padded_is,
        drop-append-le
            (64 * (length m / 64))
            m
            ((128 ∷ replicate ((119 - length m % 64) % 64 + 4) 0) ++ bytes4 (8 * length m))
            (omega arith),
        append_assoc (rest m) (128 ∷ replicate ((119 - length m % 64) % 64 + 4) 0) (bytes4 (8 * length m)),
      )

  rest_length : length (rest m) ≡ length m % 64
  rest_length = simp length-drop (omega arith)

  -- Where the length fits after the message's rest, one block is left.
  one_block : length m % 64 < 56 →
      compressed (hashed m (length m / 64)) ((rest m ++ (128 ∷ replicate (59 - length m % 64) 0)) ++ bytes4 (8 * length m)) ≡
      hashed (padded m) (length (padded m) / 64)
  unfolding hashed
  one_block h =
      let n : length (padded m) / 64 ≡ suc (length m / 64) = omega (arith, padded_length) in
      let z : (119 - length m % 64) % 64 + 4 ≡ 59 - length m % 64 = omega arith in
      rw (
        n,
        whole_blocks,
        from_rest,
        z,
        take_all
            64
            ((rest m ++ (128 ∷ replicate (59 - length m % 64) 0)) ++ bytes4 (8 * length m))
            (simp (length-append, rest_length, length-replicate, length_bytes4) (omega arith)),
      )

  -- Where it does not, the rest's block ends with zeros, and one more block holds the length.
  two_blocks : 56 ≤ length m % 64 →
      compressed
      (compressed (hashed m (length m / 64)) (rest m ++ (128 ∷ replicate (63 - length m % 64) 0)))
      (replicate 60 0 ++ bytes4 (8 * length m)) ≡
      hashed (padded m) (length (padded m) / 64)
  unfolding hashed bytes4
  two_blocks h =
      let n : length (padded m) / 64 ≡ suc (suc (length m / 64)) = omega (arith, padded_length) in
      let a : List ℕ = rest m ++ (128 ∷ replicate (63 - length m % 64) 0) in
      let b : List ℕ = replicate 60 0 ++ bytes4 (8 * length m) in
      let z : (119 - length m % 64) % 64 + 4 ≡ 63 - length m % 64 + 60 = omega arith in
      let both : drop (64 * (length m / 64)) (padded m) ≡ a ++ b =
      rw
      (from_rest, z, parted (rest m) (63 - length m % 64) 60)
      (append_assoc a (replicate 60 0) (bytes4 (8 * length m))) in
      let long : length a ≡ 64 = simp (length-append, rest_length, length-replicate) (omega arith) in
      let after : 64 * suc (length m / 64) ≡ 64 * (length m / 64) + 64 = omega arith in
      rw (
        n,
        whole_blocks,
        after,
        ← drop-drop 64 (64 * (length m / 64)) (padded m),
        both,
        take_at a b 64 long,
        drop_at a b 64 long,
      )

  -- The block that the code opens: the part from the last whole block's end, zeros, and 128 at the part's end.
  abbrev part : List ℕ
  part = take (length m - (length m - length m % 64)) (drop (length m - length m % 64) m)

  part_is : part ≡ rest m
  part_is =
      let f : length m - length m % 64 ≡ 64 * (length m / 64) = omega arith in
      rw f (take_all (length m - 64 * (length m / 64)) (rest m) (simp length-drop (omega arith)))

  opened : (t : List ℕ) → t ≡ take (length part) part ++ drop (length part) (replicate 64 0) →
      set t (length m % 64) 128 ≡ rest m ++ (128 ∷ replicate (63 - length m % 64) 0)
  opened t e =
      let n : 64 ≡ length m % 64 + suc (63 - length m % 64) = omega arith in
      let zeros : drop (length m % 64) (replicate {A = ℕ} 64 0) ≡ 0 ∷ replicate (63 - length m % 64) 0 =
      ap (λ (k : ℕ). drop (length m % 64) (replicate {A = ℕ} k 0)) n ∙
      drop_replicate (length m % 64) (suc (63 - length m % 64)) in
      rw
      (e, part_is, take-length (rest m), rest_length, zeros)
      (set_at (rest m) 0 (replicate (63 - length m % 64) 0) 128 (length m % 64) rest_length)

  -- The hash value from the calls that the code makes on the opened block q, where one block is left and where two are.
  pub closed_one : {v r : State} (t q : List ℕ) {l : List ℕ} →
      length m % 64 < 56 →
      t ≡ take (length part) part ++ drop (length part) (replicate 64 0) →
      v ≡ hashed m (length m / 64) →
      q ≡ set t (length m % 64) 128 →
      l ≡ put q 60 (length m * 8) →
      r ≡ compressed v l →
      r ≡ hashed (padded m) (length (padded m) / 64)
  unfolding bytes4
  closed_one t q h et ev eq el er =
      let z : 63 - length m % 64 ≡ 59 - length m % 64 + 4 = omega arith in
      let a : List ℕ = rest m ++ (128 ∷ replicate (59 - length m % 64) 0) in
      let long : length a ≡ 60 = simp (length-append, rest_length, length-replicate) (omega arith) in
      let bits : length m * 8 ≡ 8 * length m = omega arith in
      let end : drop 64 (a ++ replicate 4 0) ≡ [] =
      drop_of_length-le
      (a ++ replicate 4 0)
      {i = 64}
      (simp (length-append, rest_length, length-replicate) (omega arith)) in
      rw (
        er,
        ev,
        el,
        eq,
        opened t et,
        z,
        parted (rest m) (59 - length m % 64) 4,
        take_at a (replicate 4 0) 60 long,
        end,
        bits,
      )
      (one_block h)

  pub closed_two : {s v r : State} (t q : List ℕ) {l : List ℕ} →
      56 ≤ length m % 64 →
      t ≡ take (length part) part ++ drop (length part) (replicate 64 0) →
      s ≡ hashed m (length m / 64) →
      v ≡ compressed s (set t (length m % 64) 128) →
      q ≡ replicate 64 0 →
      l ≡ put q 60 (length m * 8) →
      r ≡ compressed v l →
      r ≡ hashed (padded m) (length (padded m) / 64)
  unfolding bytes4
  closed_two t q h et es ev eq el er =
      let bits : length m * 8 ≡ 8 * length m = omega arith in rw (er, ev, es, el, eq, opened t et, bits) (two_blocks h)
