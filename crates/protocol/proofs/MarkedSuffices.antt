-- The order's premise implies the other: a check that accepts a list found mark 1 at each of its records.
use Prim.Native.Nat.{ℕ}
use mathlib.Core.List.{List}
use Rattle.refusal.proofs.Run.{each_at, each_intro}
use Rattle.protocol.specs.MemoryFile.{held}
use Rattle.protocol.specs.History.{Event, file}
use Rattle.protocol.specs.NoJoin.{Premise, SignedRecords, MarkedRecords, MarkedSuffices}
use Rattle.protocol.proofs.CheckMeans.{check_means}
use Rattle.protocol.proofs.FileCalls.{gives_held}
use Rattle.protocol.proofs.NoJoin.{no_join}

records_of : (N : ℕ) (honest : ℕ → Type 0) (run : List Event) → MarkedRecords N honest run → SignedRecords N honest run
records_of N honest run marked =
    each_intro _ run
    (λ earlier e m c is s ok i l h.
    let f : List ℕ = file N earlier c.user in
    let conditions = (((check_means N (held f) c).0 s).0 (gives_held N c.user f c.list c.marks s ok)).0 in
    let all-marked = conditions.0.0.0.1 in
    each_at _ marked m c is i l (all-marked i l) h)

pub marked_suffices : MarkedSuffices
marked_suffices N honest run marked =
    let premise : Premise N honest run = (records_of N honest run marked.0, marked.1) in (premise, no_join N honest run premise)
