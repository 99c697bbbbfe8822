-- What is retrieved is of the wanted hash: it is the block of a place that holds the hash.
use Prim.Native.Nat.{ℕ, ◌<◌}
use mathlib.Core.Path.{ap, ◌∙◌}
use Rattle.sha256.specs.Sha256.{sha256}
use Rattle.store.specs.Retrieved.{RetrievedHash}
use Rattle.store.proofs.RetrieveMeans.{only_block, retrieve_means}

pub retrieved_hash : RetrievedHash
retrieved_hash s hash room b e =
    let m = ((retrieve_means s hash room).0 b).0 e in
    let fits = m.0.0.0 in
    let p : ℕ = m.1.0 in
    let h : p < 64 = m.1.1.within in
    ap sha256 (only_block s fits.0.0 p h (fits.1 p h) b m.1.2) ∙ m.1.1.here.hashed
