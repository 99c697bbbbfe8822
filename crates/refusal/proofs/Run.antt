-- Laws of runs of any calls: a call and what came before it. A call of a run is told by how many came before it, and what every call keeps
-- holds after all of them.
use Prim.Native.Nat.{ℕ, ◌<◌}
use mathlib.Core.List.{List, [], ◌∷◌}
use mathlib.Core.Path.{◌≡◌, refl}
use native.Mathlib.Omega.{arith}
use lib.ListN.{length}
use Rattle.refusal.specs.Answer.{Answer, accepted, refused}
use Rattle.refusal.specs.Result.{left}
use Rattle.refusal.specs.Run.{Each, state_after, one}

-- The call c came in the run, after `earlier`.
pub data Came {A : Type 0} : List A → List A → A → Type 0 where
  last : {c : A} {earlier : List A} → Came (c ∷ earlier) earlier c
  older : {d c : A} {run earlier : List A} → Came run earlier c → Came (d ∷ run) earlier c

module _ {A : Type 0} where
  pub each_at : (P : List A → A → Type 0) {run earlier : List A} {c : A} → Each P run → Came run earlier c → P earlier c
  each_at P p last = p.0
  each_at P p (older m) = each_at P p.1 m

  pub each_intro : (P : List A → A → Type 0) (run : List A) → ((earlier : List A) (c : A) → Came run earlier c → P earlier c) → Each P run
  each_intro P [] f = tt
  each_intro P (d ∷ ds) f = (f ds d last, each_intro P ds (λ e c m. f e c (older m)))

  pub came_shorter : {run earlier : List A} {c : A} → Came run earlier c → length earlier < length run
  came_shorter last = omega arith
  came_shorter (older m) = let h = came_shorter m in omega arith

  pub came_earlier : {run mid earlier : List A} {b c : A} → Came run mid b → Came mid earlier c → Came run earlier c
  came_earlier last m = older m
  came_earlier (older n) m = older (came_earlier n m)

  -- One call at a time.
  pub came_once : {run e f : List A} {b c : A} → Came run e b → Came run f c → length e ≡ length f → (e ≡ f) × (b ≡ c)
  came_once last last q = (refl, refl)
  came_once last (older n) q = let h = came_shorter n in absurd (omega arith)
  came_once (older m) last q = let h = came_shorter m in absurd (omega arith)
  came_once (older m) (older n) q = came_once m n q

  -- Of two calls the one with fewer before it came before the other.
  pub came_before : {run e f : List A} {b c : A} → Came run e b → Came run f c → length e < length f → Came f e b
  came_before last last q = absurd (omega arith)
  came_before last (older n) q = let h = came_shorter n in absurd (omega arith)
  came_before (older m) last q = m
  came_before (older m) (older n) q = came_before m n q

  -- What holds at the start, and is kept by each call, holds after every run.
  pub always :
      {S : Type 0} (P : S → Type 0) {leaves : S → A → S} {start : S} → P start → ((s : S) (c : A) → P s → P (leaves s c)) →
      (run : List A) → P (state_after leaves start run)
  unfolding state_after
  always P z step [] = z
  always P {leaves} {start} z step (c ∷ earlier) = step (state_after leaves start earlier) c (always P z step earlier)

-- What holds of an accepted answer's result, counted 1, and of what was there before, counted 0, holds of what the call leaves.
pub by_answer :
    {S : Type 0} (P : ℕ → S → Type 0) (a : Answer S) {before : S} → ((s : S) → a ≡ accepted s → P 1 s) → P 0 before →
    P (one a) (left a before)
by_answer P (accepted s) f z = f s refl
by_answer P (refused n p q) f z = z
