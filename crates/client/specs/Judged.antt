-- What the check's answer tells.
use Rattle.std.specs.Prelude.{Result, Ok, Err}
use Rattle.refusal.specs.Answer.{Answer, accepted}
use Rattle.refusal.specs.Refusal.{refusal}
use Rattle.protocol.specs.MemoryFile.{Verdict as Due, next, again}
use Rattle.refusal.specs.declared.Refusal.{Refusal}
use Rattle.client.specs.declared.Verdict.{Verdict}
use Rattle.client.specs.declared.Verdict.TheVariants.{Next, Again}

-- The answer of each verdict, with its counts or its bytes.
abbrev pub told : Result Verdict Refusal → Answer Due
told (Ok (Next counts)) = accepted (next counts)
told (Ok (Again bytes)) = accepted (again bytes)
told (Err r) = refusal r
