-- What a choice in code stands for.
use Rattle.std.specs.Prelude.{Result, Ok, Err}
use Rattle.refusal.specs.Answer.{Answer, accepted}
use Rattle.refusal.specs.Refusal.{refusal}
use Rattle.refusal.specs.declared.Refusal.{Refusal}
use Rattle.cache.specs.Choose.{Choice, from_reply, from_cache}
use Rattle.cache.specs.declared.Source.{Source}
use Rattle.cache.specs.declared.Source.TheVariants.{Reply, Cached}

-- Where a part was found, as the definition's choice.
abbrev pub choice : Source → Choice
choice Reply = from_reply
choice Cached = from_cache

-- The part, or the paper's number and positions for the refusal.
abbrev pub answer_of : Result Source Refusal → Answer Choice
answer_of (Ok s) = accepted (choice s)
answer_of (Err r) = refusal r
