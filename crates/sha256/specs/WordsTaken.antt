-- The word that each round takes, in what the code holds: an array of sixteen words, in which W t stands at t modulo 16
-- until its round is done, and then W (t + 16) takes its place. (6.1.3 has such a circular queue for SHA-1.)
use Rattle.std.specs.Prelude.{◌≡◌, ℕ, ◌+◌, ◌*◌, ◌%◌, ◌<◌, ◌≤◌, List, length, slice_index, slice_index_or, slice_set}
use Rattle.layout.specs.Bytes.{four, values}
use Rattle.sha256.specs.Sha256.{◌⊞◌, σ0, σ1, W}

-- What `load` leaves in it: the sixteen words of the block b.
abbrev pub loaded : List ℕ → List ℕ
loaded b = values (λ t. four b (4 * t)) 0 16

-- What `roll` stores in round t: the word sixteen after, added up as in step 1 from where its four words stand.
abbrev pub next_word : List ℕ → ℕ → ℕ
next_word w t =
    σ1 (slice_index w ((t + 14) % 16)) ⊞ slice_index_or w ((t + 9) % 16) 0 ⊞ σ0 (slice_index w ((t + 1) % 16)) ⊞ slice_index_or w (t % 16) 0

unfoldable pub rolled : List ℕ → ℕ → List ℕ
rolled w t = slice_set w ((t + 16) % 16) (next_word w t)

-- What the contracts say of the array, w t before round t of the block b: `load` fills it, and `turn` rolls it on in each of
-- the first 48 rounds and leaves it in the others.
pub record Queues (b : List ℕ) (w : ℕ → List ℕ) : Type 0 where
  pub first : w 0 ≡ loaded b
  pub turned : (t : ℕ) → t < 48 → w (t + 1) ≡ rolled (w t) t
  pub kept : (t : ℕ) → 48 ≤ t → t < 63 → w (t + 1) ≡ w t

-- Before round t it has length 16, and the word that the round takes, at t modulo 16, is the standard's.
abbrev pub WordsTaken : Type 0
WordsTaken =
    (b : List ℕ) (w : ℕ → List ℕ)
    → Queues b w
    → (t : ℕ)
    → t < 64
    → (length (w t) ≡ 16) × (slice_index (w t) (t % 16) ≡ W b t)

-- There is such an array for every block.
abbrev pub QueuesHeld : Type 0
QueuesHeld = (b : List ℕ) → (w : ℕ → List ℕ) × Queues b w
