-- The first byte is the number of users, and the copy of all the others is the records. There is no loop.
use native.Mathlib.Omega.{arith}
use mathlib.Core.List.{List}
use Prim.Native.Nat.{ℕ}
use mathlib.Core.Path.{refl, ap}
use lib.ListN.{get_or}
use Rattle.sundr.specs.Server.{server_in}
use Rattle.sundr.proofs.At.{read_back}
use Rattle.sundr.proofs.server_bytes.read.Goals as goal

pub returns : goal.returns
unfolding server_in
returns c =
    let b = c.args.bytes.now in
    let h = c.requires in
    let e = read_back b _ _ h refl (c.copy.ensures.copied (omega arith)) in
    ap (λ (r : List ℕ). record { users = get_or b 0 0; records = r }) e
