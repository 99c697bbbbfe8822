-- The answer of a choice is read back: no part that is chosen is longer than 65,536 bytes.
use Prim.Native.Nat.{ℕ, ◌^◌, ◌<◌}
use mathlib.Core.List.{List}
use mathlib.Core.Path.{refl}
use native.Mathlib.Omega.{arith}
use Rattle.cache.specs.Choose.{Choice, from_reply, from_cache, choose}
use Rattle.cache.specs.ChooseMeaning.{Chosen, the_reply, the_cached, Why, lengths, neither}
use Rattle.cache.proofs.ChooseMeans.{choose_means}
use Rattle.sundr.specs.Choose.{part_number, part_length}
use Rattle.sundr.specs.Read.{IsRead}
use Rattle.sundr.proofs.Fits.{Fits, small, answer_read}

module _ (wanted reply cached : List ℕ) where
  pub part_fits : (c : Choice) → Chosen wanted reply cached c → (part_number c < 2 ^ 24) × (part_length reply cached c < 2 ^ 32)
  part_fits from_reply (the_reply s f) = let l = s.reply_most in (omega arith, omega (arith, l))
  part_fits from_cache (the_cached s g f) = let l = s.cached_most in (omega arith, omega (arith, l))

  why_fits : (n p q : ℕ) → Why wanted reply cached n p q → Fits n p q
  why_fits n p q (lengths f) = small 2 0 refl
  why_fits n p q (neither s f g) = small 8 0 refl

  pub choose_read : IsRead part_number (part_length reply cached) (choose wanted reply cached)
  choose_read =
      let m = choose_means wanted reply cached in
      answer_read part_number (part_length reply cached) (choose wanted reply cached) (λ c e. part_fits c ((m.0 c).0 e))
      (λ n p q e. why_fits n p q ((m.1 n p q).0 e))
