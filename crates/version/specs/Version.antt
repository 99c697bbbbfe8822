-- A version structure's fields, as the code holds them.
use Rattle.std.specs.Prelude.{ℕ, List, get_or}
use Rattle.layout.specs.Bytes.{values, bytes_at}
use Rattle.protocol.specs.Version.{owner, count, equal, before, after, apart}
use Rattle.protocol.specs.Version as protocol
use Rattle.version.specs.declared.Version.{Version}
use Rattle.version.specs.declared.Standing.{Standing}
use Rattle.version.specs.declared.Standing.TheVariants.{Equal, Before, After, Apart}

-- The fields of a record's bytes; zeros stand past the end of the bytes.
unfoldable pub fields : List ℕ → Version
fields x = record { owner = owner x; handle = bytes_at x 2 32; counts = values (count x) 0 16 }

-- The count of user v among a structure's counts.
abbrev pub count_in : List ℕ → ℕ → ℕ
count_in cs v = get_or cs v 0

-- The comparison's answer.
abbrev pub standing_as : Standing → protocol.Standing
standing_as Equal = equal
standing_as Before = before
standing_as After = after
standing_as Apart = apart
