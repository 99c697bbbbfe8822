-- Every call's answer is read back from its number.
use Prim.Native.Nat.{ℕ}
use mathlib.Core.List.{List, [], ◌∷◌}
use mathlib.Core.Path.{refl}
use lib.Dec.{leb, eqb}
use lib.ListN.{length}
use Rattle.refusal.specs.Order.{unless}
use Rattle.sha256.specs.Sha256.{sha256}
use Rattle.sha256.specs.Hash.{hash}
use Rattle.sundr.specs.Read.{IsReadPlain, AnswersRead}
use Rattle.sundr.proofs.Fits.{small_fits, plain_read}
use Rattle.sundr.proofs.ReadProtocol.{check_read, create_read, pend_read, sent_read, over_read, back_read, compare_read, make_read, list_read, commit_read}
use Rattle.sundr.proofs.ReadTable.{write_read, lookup_read, many_read, block_read, large_read}
use Rattle.sundr.proofs.ReadChoose.{choose_read}
use Rattle.sundr.proofs.ReadStore.{make_store_read, store_read, retrieve_read, unreference_read}

sha256_read : (message : List ℕ) (room : ℕ) → IsReadPlain (hash message room)
unfolding hash
sha256_read message room =
    plain_read (unless (leb (length message) 65536) 2 0 0 ∷ unless (eqb room 32) 2 0 0 ∷ []) (sha256 message)
    (small_fits (leb (length message) 65536) 2 0 refl, (small_fits (eqb room 32) 2 0 refl, tt))

pub answers_read : AnswersRead
answers_read =
    record {
      sha256 = sha256_read;
      check = check_read;
      create = create_read;
      pend = pend_read;
      sent = sent_read;
      over = over_read;
      back = back_read;
      compare = compare_read;
      make = make_read;
      list = list_read;
      commit = commit_read;
      write = write_read;
      lookup = lookup_read;
      many = many_read;
      block = block_read;
      large_block = large_read;
      choose = choose_read;
      make_store = make_store_read;
      store = store_read;
      retrieve = retrieve_read;
      unreference = unreference_read;
    }
