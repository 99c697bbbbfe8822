-- What a caller may use of the calls' definitions: the answer in each of its three cases, the length of a hash, and the comparison.
use Rattle.std.proofs.Common.{◌≡◌, ℕ, ◌<◌, ◌≤◌, true, false, List, length, refl, sym, ap, ◌∙◌, arith, eq-eqb, ne_eqb, le-leb}
use native.Mathlib.Decide.{dec_le}
use borrow.Author.Tests.{lt-leb}
use Rattle.std.specs.Prelude.{Result, Ok, Err}
use Rattle.std.specs.Result.{is_ok}
use Rattle.std.proofs.lemmas.Bool.{false≢true}
use Rattle.layout.specs.Strings.{same}
use Rattle.refusal.specs.Answer.{Answer, accepted, refused, and_then}
use Rattle.refusal.specs.Order.{in_order}
use Rattle.refusal.specs.Refusal.{refusal}
use Rattle.refusal.specs.Result.{Gives}
use Rattle.refusal.proofs.Numbered.{ends}
use Rattle.refusal.specs.declared.Refusal.{Refusal}
use Rattle.layout.specs.Bytes.{bytes4}
use Rattle.sha256.specs.Sha256.{sha256, bytes_of}
use Rattle.sha256.specs.Hash.{hash, is_hash}

pub hash_long : (m : List ℕ) (n : ℕ) → 65536 < length m → hash m n ≡ refused 2 0 0
unfolding hash in_order
hash_long m n h = rw (lt-leb (length m) 65536 h)

pub hash_room : (m : List ℕ) (n : ℕ) → length m ≤ 65536 → (n ≡ 32 → ⊥) → hash m n ≡ refused 2 0 0
unfolding hash in_order
hash_room m n h k = rw (le-leb (length m) 65536 h, ne_eqb n 32 k)

pub hash_accepted : (m : List ℕ) (n : ℕ) → length m ≤ 65536 → n ≡ 32 → hash m n ≡ accepted (sha256 m)
unfolding hash in_order
hash_accepted m n h k = rw (le-leb (length m) 65536 h, eq-eqb n 32 k)

-- What the call leaves in a buffer of 32 bytes.
pub hash_left : (m o d : List ℕ) (r : Result Unit Refusal) → length m ≤ 65536 → length o ≡ 32 → Gives (hash m (length o)) o d r → d ≡ sha256 m
hash_left m o d r h l g = g.leaves ∙ rw (hash_accepted m (length o) h l)

pub sha256_length : (m : List ℕ) → length (sha256 m) ≡ 32
unfolding sha256 bytes_of bytes4
sha256_length m = refl

-- A message within the limit has the hash that is wanted exactly if its SHA-256 is that.
pub is_hash_means : (m wanted : List ℕ) → length m ≤ 65536 → is_hash m wanted ≡ same (sha256 m) wanted
unfolding is_hash
is_hash_means m wanted h = rw (le-leb (length m) 65536 h)

-- A refusal is no acceptance.
never : {A : Type 0} (r : Refusal) (a : A) → refusal r ≡ accepted a → ⊥
never {A} r a e =
    let other : A → Answer A = λ _. refused 2 0 0 in
    let k : accepted a ≡ refused 2 0 0 = sym e ∙ (sym (ends r other) ∙ ap (λ x. and_then x other) e) in
    cc

-- The call on a buffer of 32 bytes that it does not refuse leaves the hash there, and it refuses a message that has none.
module _ (m o d wanted : List ℕ) (l : length o ≡ 32) where
  pub is_hash_told : (r : Result Unit Refusal) → Gives (hash m (length o)) o d r → is_ok r ≡ true → same d wanted ≡ is_hash m wanted
  is_hash_told (Err r) g e = absurd (false≢true e)
  is_hash_told (Ok u) g e =
      elim (dec_le (length m) 65536) [
        | yes h ↦ ap (λ x. same x wanted) (hash_left m o d (Ok u) h l g) ∙ sym (is_hash_means m wanted h)
        | no h ↦ let k = g.answers ∙ hash_long m (length o) (omega arith) in absurd (cc k)
      ]

  pub is_hash_refused : (r : Result Unit Refusal) → Gives (hash m (length o)) o d r → is_ok r ≡ false → false ≡ is_hash m wanted
  unfolding is_hash
  is_hash_refused (Ok u) g e = absurd (false≢true (sym e))
  is_hash_refused (Err r) g e =
      elim (dec_le (length m) 65536) [
        | yes h ↦ absurd (never r (sha256 m) (g.answers ∙ hash_accepted m (length o) h l))
        | no h ↦ rw (lt-leb (length m) 65536 (omega arith))
      ]
