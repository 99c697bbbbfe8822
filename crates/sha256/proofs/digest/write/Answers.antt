-- Eight stores of four bytes, end to end, leave nothing of the 32 bytes that the buffer held (`written`). There is no loop.
use Rattle.sha256.proofs.Stores.{written}
use Rattle.sha256.proofs.digest.write.Goals as goal

pub returns : goal.returns
returns c =
    written c.args.s c.args.out.now c.requires
    c.store.ensures
    c.store-2.ensures
    c.store-3.ensures
    c.store-4.ensures
    c.store-5.ensures
    c.store-6.ensures
    c.store-7.ensures
    c.store-8.ensures
