-- Laws of what is held: the held records grow user by user.
use Prim.Native.Nat.{ℕ, zero, suc, ◌+◌, ◌-◌, ◌/◌, ◌≤◌, ◌<◌}
use mathlib.Core.List.{List, [], ◌++◌, append-nil, append_assoc}
use mathlib.Core.Path.{◌≡◌, sym, ap, ◌∙◌}
use native.Mathlib.Omega.{arith}
use lib.ListN.{length, take, drop, length-append, length-take}
use lib.Seq.{take_at, drop-drop, drop-append-add}
use borrow.Author.Tests.{le-leb, lt-leb}
use Rattle.layout.proofs.Copied.{copied_over}
use Rattle.refusal.specs.Answer.{accepted, refused}
use Rattle.refusal.specs.Order.{in_order}
use Rattle.protocol.specs.Version.{size}
use Rattle.protocol.specs.Server.{held, held_from, all_held, list_steps, listed, listing}
use Rattle.protocol.specs.declared.Server.{Server}

module _ (s : Server) where
  -- The held records of the next k users stand after those of the first j.
  held_split : (i j k : ℕ) → held_from s i (j + k) ≡ held_from s i j ++ held_from s (i + j) k
  unfolding held_from
  held_split i zero k =
      let a : zero + k ≡ k = omega arith in let b : i + zero ≡ i = omega arith in rw (a, b)
  held_split i (suc j) k =
      let a : suc j + k ≡ suc (j + k) = omega arith in
      let b : i + suc j ≡ suc i + j = omega arith in
      rw (a, b, append_assoc) (ap (λ (r : List ℕ). held s i ++ r) (held_split (suc i) j k))

  pub held_more : (v : ℕ) → held_from s 0 (v + 1) ≡ held_from s 0 v ++ held s v
  unfolding held_from
  held_more v = let e : 0 + v ≡ v = omega arith in held_split 0 v 1 ∙ rw (e, append-nil)

  pub none_more : (v : ℕ) → held s v ≡ [] → held_from s 0 (v + 1) ≡ held_from s 0 v
  none_more v e = rw (held_more v, e, append-nil)

  -- Written after what was written, the next user's record stands after the earlier users'.
  pub written_more :
      (v at : ℕ) (xs out before after : List ℕ) → xs ≡ held s v → at ≡ length (held_from s 0 v) → out ≡ held_from s 0 v ++ drop at before →
      after ≡ take at out ++ (xs ++ drop (at + length xs) out) →
      (at + length xs ≡ length (held_from s 0 (v + 1))) × (after ≡ held_from s 0 (v + 1) ++ drop (at + length xs) before)
  written_more v at xs out before after e a o w =
      let front : take at out ≡ held_from s 0 v = rw o (take_at (held_from s 0 v) (drop at before) at (sym a)) in
      let back : drop (at + length xs) out ≡ drop (at + length xs) before =
      rw (o, a)
      (drop-append-add (held_from s 0 v) (drop (length (held_from s 0 v)) before) (length xs) ∙
      drop-drop (length xs) (length (held_from s 0 v)) before) in
      (rw (held_more v, ← e) (simp length-append (omega arith)), rw (held_more v, append_assoc, w, front, back, e))

  -- The next user's records still find room.
  pub held_within : (v : ℕ) → v < 16 → length (held_from s 0 v) + length (held s v) ≤ length (all_held s)
  held_within v h =
      let e : 16 ≡ v + 1 + (15 - v) = omega arith in
      let w : all_held s ≡ held_from s 0 v ++ held s v ++ held_from s (0 + (v + 1)) (15 - v) =
      ap (held_from s 0) e ∙ held_split 0 (v + 1) (15 - v) ∙ rw (held_more v) in
      omega (arith, simp length-append at (ap length w))

-- Bytes copied over as many, put back into the whole.
pub put :
    (xs out part : List ℕ) (at room : ℕ) → room ≡ length xs → part ≡ take (length xs) xs ++ drop (length xs) (take room (drop at out)) →
    take at out ++ (part ++ drop room (drop at out)) ≡ take at out ++ (xs ++ drop (at + length xs) out)
put xs out part at room r e =
    rw (e, copied_over xs (take room (drop at out)) (simp length-take (omega arith)), r, drop-drop (length xs) at out)

-- A listing's answer and bytes: by the buffer's length.
module _ (s : Server) (out : List ℕ) where
  pub no_room : length out < length (all_held s) → (listed s (length out) ≡ refused 12 0 0) × (listing s out ≡ refused 12 0 0)
  unfolding listed listing list_steps in_order
  no_room h = let e = lt-leb (length (all_held s)) (length out) (omega arith) in (rw e, rw e)

  pub room :
      length (all_held s) ≤ length out →
      (listed s (length out) ≡ accepted (length (all_held s) / size)) ×
      (listing s out ≡ accepted (all_held s ++ drop (length (all_held s)) out))
  unfolding listed listing list_steps in_order
  room h = let e = le-leb (length (all_held s)) (length out) h in (rw e, rw e)
