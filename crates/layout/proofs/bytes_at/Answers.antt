-- None past the end; else the first of the bytes from the place on, or all that are there, copied over zeros.
use Prim.Native.Nat.{◌≤◌}
use mathlib.Core.List.{[]}
use mathlib.Core.Path.{◌≡◌, sym, ap, ◌∙◌}
use native.Mathlib.Omega.{arith}
use lib.ListN.{length, take, drop, length-replicate, drop_of_length-le}
use Rattle.std.proofs.lemmas.Slice.{between_to_end}
use Rattle.layout.proofs.Values.{values_rest, end_copied}
use Rattle.layout.proofs.bytes_at.Goals as goal

pub returns-in_default : goal.returns-in_default
returns-in_default g c =
    let a = c.args in
    let past : length a.b.now ≤ a.at = omega (arith, c.in_default.ensures.lookup.0) in
    end_copied a.b.now [] a.at g.row.N (sym (drop_of_length-le a.b.now {i = a.at} past)) (omega arith)

pub returns-in-Some-first_chunk : goal.returns-in-Some-first_chunk
returns-in-Some-first_chunk g c =
    let a = c.args in
    let rest : c.in-Some.rest.now ≡ drop a.at a.b.now = c.in-Some.ensures.lookup.0.2 ∙ between_to_end a.b.now a.at _ (omega arith) in
    let first = c.in-Some-first_chunk.ensures.cases in
    first.same ∙ (ap (take g.row.N) rest ∙ values_rest a.b.now a.at g.row.N (rw rest at first.enough))

pub returns : goal.returns
returns g c =
    let a = c.args in
    let rest : c.in-Some.rest.now ≡ drop a.at a.b.now = c.in-Some.ensures.lookup.0.2 ∙ between_to_end a.b.now a.at _ (omega arith) in
    let few : length c.in-Some.rest.now ≤ g.row.N = omega (arith, c.in_default-first_chunk.ensures.cases) in
    c.copy.ensures.copied (simp length-replicate few) ∙ end_copied a.b.now _ a.at g.row.N rest few
