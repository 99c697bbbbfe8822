-- What a lookup's answer in code stands for.
use Rattle.std.specs.Prelude.{ℕ, List, Option, None, Some, Result, Ok, Err}
use Rattle.refusal.specs.Answer.{Answer, accepted}
use Rattle.refusal.specs.Refusal.{refusal}
use Rattle.refusal.specs.declared.Refusal.{Refusal}
use Rattle.itable.specs.Lookup.{Entry, found, absent}

-- The handle of the i-number's file, or that it is absent; or why the path says nothing.
abbrev pub answer : Result (Option (List ℕ)) Refusal → Answer Entry
answer (Ok (Some handle)) = accepted (found handle)
answer (Ok None) = accepted absent
answer (Err r) = refusal r
