-- What the stages of the check hand to each other.
use Rattle.std.specs.Prelude.{ℕ, ◌+◌, Bool, not, cond, ◌&&◌, List, [], eqb}
use Rattle.refusal.specs.Answer.{Answer, accepted}
use Rattle.refusal.specs.Order.{in_order}
use Rattle.protocol.specs.Version.{count}
use Rattle.protocol.specs.List.{entry}
use Rattle.protocol.specs.Check.{current, next_counts, order_steps}
use Rattle.protocol.specs.MemoryFile.{Verdict as Due, next, again}
use Rattle.version.specs.declared.Version.{Version}

-- What stands past the end of an array of structures.
abbrev pub none : Version
none = record { owner = 0; handle = []; counts = [] }

-- What is held is pending, and the list's entry for u counts one operation of u less than it.
unfoldable pub is_before : ℕ → ℕ → Bool → List ℕ → Bool
is_before u own pending list = pending && eqb (count (entry list u) u + 1) own

-- The own record and what follows it, for a file that holds this and is pending or not.
unfoldable pub goes_on : ℕ → List ℕ → Bool → List ℕ → Answer Due
goes_on u held pending list =
    cond (not (current u held list) && is_before u (count held u) pending list)
    (accepted (again held))
    (in_order (order_steps u held list) (accepted (next (next_counts u held list))))
