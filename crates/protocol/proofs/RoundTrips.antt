-- Moving over and back: what one writes, the other reads, as a formed file that is not pending is the file of what it holds.
use Prim.Native.Nat.{ℕ, suc, ◌<◌}
use mathlib.Core.List.{List, [], ◌∷◌}
use mathlib.Core.Path.{◌≡◌, refl, sym, ap, ◌∙◌}
use native.Mathlib.Omega.{arith}
use lib.ListN.{length, get_or, replicate}
use Rattle.protocol.specs.Version.{size}
use Rattle.protocol.specs.MemoryFile.{file_size, held, file_of}
use Rattle.protocol.specs.MemoryMeaning.{Stated, is_sent, is_pending, is_none, Formed, NotPending}
use Rattle.protocol.specs.RoundTrips.{RoundTrips}
use Rattle.protocol.proofs.FileForm.{held_none, held_behind, formed_remembered, held_length}
use Rattle.protocol.proofs.MemoryMeans.{over_means, back_means}
use Rattle.protocol.proofs.Moved.{of_holds, moved_formed, of_not_pending}

-- Bytes that are all zero.
all_zero : (x : List ℕ) → ((i : ℕ) → i < length x → get_or x i 0 ≡ 0) → x ≡ replicate (length x) 0
all_zero [] h = refl
all_zero (b ∷ x) h =
    let first : b ≡ 0 = h 0 (omega arith) in
    let rest : x ≡ replicate (length x) 0 = all_zero x (λ i l. h (suc i) (omega arith)) in
    ap (λ (c : ℕ). c ∷ x) first ∙ ap (λ (y : List ℕ). 0 ∷ y) rest

-- A structure is some bytes, so that its file is in state 0.
file_of_some : (x : List ℕ) → length x ≡ size → file_of x ≡ (7 ∷ 0 ∷ x)
unfolding file_of
file_of_some [] e = absurd (omega arith)
file_of_some (b ∷ x) e = refl

stated_of : (N u k s : ℕ) (x : List ℕ) → k ≡ 7 → length x ≡ size → (s ≡ 1 → ⊥) → Stated N u (k ∷ s ∷ x) → file_of (held (k ∷ s ∷ x)) ≡ (k ∷ s ∷ x)
unfolding file_of
stated_of N u k s x kind l n (is_sent e own) =
    let h : held (k ∷ s ∷ x) ≡ x = held_behind (k ∷ s ∷ x) (λ z. omega arith) in
    let zero-state : s ≡ 0 = e in rw (h, file_of_some x l, kind, zero-state)
stated_of N u k s x kind l n (is_pending e own) = absurd (n e)
stated_of N u k s x kind l n (is_none e z) =
    let h : held (k ∷ s ∷ x) ≡ [] = held_none (k ∷ s ∷ x) e in
    let zeros : x ≡ replicate size 0 = all_zero x (λ i b. z (suc (suc i)) (omega arith) (omega arith)) ∙ ap (λ (m : ℕ). replicate m 0) l in
    let none-state : s ≡ 2 = e in rw (h, zeros, kind, none-state)

-- A formed file that is not pending is the file of what it holds.
pub file_of_held : (N u : ℕ) (f : List ℕ) → length f ≡ file_size → Formed N u f → NotPending f → file_of (held f) ≡ f
file_of_held N u [] l w n = absurd (omega arith)
file_of_held N u (k ∷ []) l w n = absurd (omega arith)
file_of_held N u (k ∷ s ∷ x) l w n = stated_of N u k s x w.0 (omega arith) n w.1

pub round_trips : RoundTrips
round_trips =
    record {
      over_back = λ N u old f e.
          let w = ((over_means N u old file_size).0 f).0 e in
          let is : f ≡ file_of old = w.1 in
          let formed = moved_formed N u old w.0.1.0 w.0.2 in
          ((back_means N u f size).0 old).1 (
            (w.0.0, (rw is formed.0, refl), rw is formed.1, rw is (of_not_pending old)),
            rw is (sym (of_holds old)),
          );
      back_over = λ N u f old e.
          let w = ((back_means N u f size).0 old).0 e in
          let is : old ≡ held f = w.1 in
          ((over_means N u old file_size).0 f).1 (
            (w.0.0, (rw is (held_length f w.0.1.0), refl), rw is (formed_remembered N u f w.0.2), tt),
            rw is (sym (file_of_held N u f w.0.1.0 w.0.2 w.0.3)),
          );
      over_takes = λ N u old. (
        λ e. let w = ((over_means N u old file_size).0 e.0).0 e.1 in (w.0.0, w.0.1.0, w.0.2),
        λ w. (file_of old, ((over_means N u old file_size).0 (file_of old)).1 ((w.0, (w.1, refl), w.2, tt), refl)),
      );
      back_takes = λ N u f. (
        λ e. let w = ((back_means N u f size).0 e.0).0 e.1 in (w.0.0, w.0.1.0, w.0.2, w.0.3),
        λ w. (held f, ((back_means N u f size).0 (held f)).1 ((w.0, (w.1, refl), w.2, w.3), refl)),
      );
    }
