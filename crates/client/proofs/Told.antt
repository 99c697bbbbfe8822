-- A refusal that `?` hands on is told as it is.
use mathlib.Core.Path.{◌≡◌, sym}
use Rattle.std.specs.Prelude.{Result}
use Rattle.std.specs.Result.{IsErrAnd}
use Rattle.refusal.specs.Answer.{Answer}
use Rattle.refusal.specs.Refusal.{refusal}
use Rattle.refusal.specs.declared.Refusal.{Refusal}
use Rattle.refusal.proofs.Match.{returned}
use Rattle.protocol.specs.MemoryFile.{Verdict as Due}
use Rattle.client.specs.Judged.{told}
use Rattle.client.specs.declared.Verdict.{Verdict}

pub tells_refused :
    {due : Answer Due} (r : Refusal) (answer : Result Verdict Refusal) → due ≡ refusal r → IsErrAnd answer (λ s. s ≡ r) → told answer ≡ due
tells_refused r answer d h = rw (returned h) (sym d)
