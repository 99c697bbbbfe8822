-- Request j), of every list: "Prove also, for every input, that an accepted list has no entry that counts more of the desk's operations than
-- the desk remembers." There is no run here and no premise: file, list and marks are anything, and a record may be anybody's.
use Rattle.std.specs.Prelude.{ℕ, ◌≤◌, ◌<◌, List, ◌≡◌}
use Rattle.refusal.specs.Answer.{accepted}
use Rattle.protocol.specs.Version.{count}
use Rattle.protocol.specs.List.{records, record_at}
use Rattle.protocol.specs.Check.{check}
use Rattle.protocol.specs.MemoryFile.{state, held, next, check_file}

-- No record of the list counts more operations of u than `mem` does.
abbrev pub NoneAbove : ℕ → List ℕ → List ℕ → Type 0
NoneAbove u mem list = (i : ℕ) → i < records list → count (record_at list i) u ≤ count mem u

-- A check that gives counts accepts the list; one that wants a structure sent again does not. Where none is remembered, 0 is counted.
pub record NoneCountsMore : Type 0 where
  pub on_file :
      (N u : ℕ) (f list marks counts : List ℕ) → check_file N u f list marks ≡ accepted (next counts) → NoneAbove u (held f) list
  pub on_none :
      (N u : ℕ) (f list marks counts : List ℕ) → check_file N u f list marks ≡ accepted (next counts) → state f ≡ 2 →
      (i : ℕ) → i < records list → count (record_at list i) u ≡ 0
  -- The same of what was remembered before there were files.
  pub on_memory : (N u : ℕ) (mem list marks counts : List ℕ) → check N u mem list marks ≡ accepted counts → NoneAbove u mem list
