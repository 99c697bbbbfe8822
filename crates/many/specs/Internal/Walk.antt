-- One question: its path among the paths, one consulted block, and what its lookup says.
use Rattle.std.specs.Prelude.{ℕ, suc, ◌*◌, List, [], ◌∷◌, ◌≡◌, take, drop, Option, None, Some, Result, Ok, Err}
use Rattle.refusal.specs.Answer.{Answer, accepted}
use Rattle.refusal.specs.Order.{unless, in_order}
use Rattle.refusal.specs.Refusal.{refusal, checked}
use Rattle.refusal.specs.declared.Refusal.{Refusal}
use Rattle.itable.specs.Block.{size, well_formed}
use Rattle.itable.specs.declared.Link.{Link}
use Rattle.itable.specs.Lookup.{Entry, answer_at}
use Rattle.itable.specs.Internal.Many.{entry_at}
use Rattle.many.specs.declared.Known.{Known}
use Rattle.many.specs.Internal.Known.{AllKnown}

-- The n blocks of the paths from `first` on.
abbrev pub path_from : List ℕ → ℕ → ℕ → List ℕ
path_from paths first n = take (size * n) (drop (size * first) paths)

-- The answer where a block is refused, or what follows along slot j, or e where no slot leads on.
abbrev pub following : Result (Option ℕ) Refusal → Entry → (ℕ → Answer Entry) → Answer Entry
following (Ok (Some j)) e on = on j
following (Ok None) e on = accepted e
following (Err r) e on = refusal r

-- The block b, whose hash fits, where k leads to it: 3, then what it says of i, which is accepted only where no block is left.
pub record Consulted (b : List ℕ) (k : Link) (i left d : ℕ) (r : Result (Option ℕ) Refusal) : Type 0 where
  pub says :
      (on : ℕ → Answer Entry) →
      in_order (unless (well_formed k b) 3 d 0 ∷ []) (answer_at b i left (suc d) on) ≡ following r (entry_at b i) on
  pub last : r ≡ Ok None → left ≡ 0

-- The lookup's answer is `due`, which is e where it is accepted; and all that is known holds.
pub record Says (due : Answer Entry) (e : Entry) (paths : List ℕ) (r : Result Unit Refusal) (known : List (Option Known)) : Type 0 where
  pub answers : checked e r ≡ due
  pub knows : AllKnown paths known
