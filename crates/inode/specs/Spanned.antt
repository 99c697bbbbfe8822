-- What the check of a file's block answers.
use Rattle.std.specs.Prelude.{Result, Ok, Err}
use Rattle.refusal.specs.Answer.{Answer, accepted}
use Rattle.refusal.specs.Refusal.{refusal}
use Rattle.refusal.specs.declared.Refusal.{Refusal}
use Rattle.itable.specs.Inode as inode
use Rattle.inode.specs.declared.Span.{Span}

-- The block's offset and length, or the paper's number and positions for the refusal.
abbrev pub answer_of : Result Span Refusal → Answer inode.Span
answer_of (Ok s) = accepted (record { offset = s.offset; size = s.size })
answer_of (Err r) = refusal r
