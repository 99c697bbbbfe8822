-- One consulted block: how the lookup ends at it, or the slot along which it goes on.
use Rattle.std.specs.Prelude.{ℕ, suc, List, [], ◌∷◌, ◌≡◌, Option, None, Some, Result, Ok, Err}
use Rattle.layout.specs.Strings.{same}
use Rattle.refusal.specs.Answer.{Answer}
use Rattle.refusal.specs.Order.{unless, in_order}
use Rattle.refusal.specs.Refusal.{refusal}
use Rattle.refusal.specs.declared.Refusal.{Refusal}
use Rattle.sha256.specs.Sha256.{sha256}
use Rattle.itable.specs.Block.{value, well_formed}
use Rattle.itable.specs.declared.Link.{Link}
use Rattle.itable.specs.Lookup.{Entry, found, absent, known, answer_at}
use Rattle.lookup.specs.declared.Step.{Step}
use Rattle.lookup.specs.declared.Step.TheVariants.{Ends, Leads}

-- The answer where the lookup ends at the block b, the last of d consulted, with `left` blocks after it: slot j has the number, or none has.
abbrev pub ending : Option ℕ → List ℕ → ℕ → ℕ → Answer Entry
ending (Some j) b left d = known left d (found (value b j))
ending None b left d = known left d absent

-- The same, or what follows along slot j.
abbrev pub following : Step → List ℕ → ℕ → ℕ → (ℕ → Answer Entry) → Answer Entry
following (Ends s) b left d on = ending s b left d
following (Leads j) b left d on = on j

-- What a well-formed block b says of i, whatever stands after it.
pub record Searched (b : List ℕ) (i : ℕ) (r : Step) : Type 0 where
  pub says : (left d : ℕ) (on : ℕ → Answer Entry) → answer_at b i left d on ≡ following r b left d on

-- The answer where a block is refused, or what it says.
abbrev pub judged : Result Step Refusal → List ℕ → ℕ → ℕ → (ℕ → Answer Entry) → Answer Entry
judged (Ok s) b left d on = following s b left d on
judged (Err r) b left d on = refusal r

-- The block b, block d of the path, where k leads to it: 8, then 3, then what it says of i.
pub record Consulted (b : List ℕ) (k : Link) (i d : ℕ) (r : Result Step Refusal) : Type 0 where
  pub says :
      (left : ℕ) (on : ℕ → Answer Entry) →
      in_order (unless (same (sha256 b) k.hash) 8 d 0 ∷ unless (well_formed k b) 3 d 0 ∷ []) (answer_at b i left (suc d) on) ≡
      judged r b left (suc d) on
