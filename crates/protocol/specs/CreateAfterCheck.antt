-- The two calls one after the other: what a check gave, the making step takes, as long as what is remembered is what it was.
use Rattle.std.specs.Prelude.{ℕ, List, ◌≡◌, length, get_or, replicate}
use Rattle.refusal.specs.Answer.{accepted}
use Rattle.protocol.specs.Version.{owner, structure}
use Rattle.protocol.specs.Check.{check}
use Rattle.protocol.specs.Create.{create}
use Rattle.protocol.specs.Meaning.{WellFormed}

pub record CreateAfterCheck : Type 0 where
  -- No counts of an accepted check are refused, whatever the handle.
  pub accepts :
      (N u : ℕ) (mem list marks c handle : List ℕ) → check N u mem list marks ≡ accepted c → length handle ≡ 32 →
      create N u mem c handle 98 ≡ accepted (structure u handle (λ v. get_or c v 0))
  -- Of sixteen zeros, which no check gives, nothing is made.
  pub no_zeros :
      (N u : ℕ) (mem handle : List ℕ) (room : ℕ) (x : List ℕ) → create N u mem (replicate 16 0) handle room ≡ accepted x → ⊥
  -- Whatever counts it got, what it accepts is well formed, and its user's own.
  pub formed :
      (N u : ℕ) (mem counts handle : List ℕ) (room : ℕ) (x : List ℕ) → create N u mem counts handle room ≡ accepted x →
      WellFormed N x × (owner x ≡ u)
