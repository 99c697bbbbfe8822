-- One number is enough, in every run: checks and making steps are clients in the sense of `Clients`.
use mathlib.Core.Path.{◌≡◌}
use native.Mathlib.Omega.{arith}
use Rattle.protocol.specs.Version.{owner}
use Rattle.protocol.specs.OneNumber.{OneNumber}
use Rattle.protocol.proofs.NoJoin.{signs_owner, signed_signs, counting}
use Rattle.protocol.proofs.CountsAll.{counts_all}

pub one_number : OneNumber
one_number N honest run premise a b x y ha hb sx sy =
    let C = counting N honest run premise in
    let gx = signed_signs N honest run ha sx in
    let gy = signed_signs N honest run hb sy in
    let o : owner x ≡ a = signs_owner gx.2 in (
      λ before. rw o (omega (arith, before a (C.clients.user gx.2))),
      λ counted. counts_all C ha gx.2 gy.2 (omega (arith, rw o at counted)),
    )
