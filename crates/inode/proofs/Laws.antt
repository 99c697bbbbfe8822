-- What has passed: hashes that can name as many blocks as a file has, an inode that is whole and names few enough blocks, the index of a block
-- that the file has, and an indirect block that is whole.
use Rattle.std.proofs.Common.{◌≡◌, ℕ, ◌≤◌, ◌<◌, leb, ltb, eqb, List, length, sym, ap, ◌∙◌, arith}
use Rattle.std.specs.Prelude.{Result, Ok}
use Rattle.std.proofs.lemmas.Bool.{ltb-true, eqb-true}
use Rattle.std.proofs.lemmas.Bool.Decides.{leb_tells}
use Rattle.refusal.specs.Answer.{Answer, accepted}
use Rattle.refusal.specs.Order.{in_order, tried}
use Rattle.refusal.specs.Refusal.{said}
use Rattle.refusal.specs.declared.Refusal.{Refusal}
use Rattle.refusal.proofs.Order.{passed, unless_passed}
use Rattle.itable.specs.Inode.{file_blocks, holds, file_length, index_steps}
use Rattle.itable.specs.LargeInode.{indirect_steps}
use Rattle.itable.proofs.FileBlocks.{fits_means}
use Rattle.inode.specs.Internal.Named.{named_steps, handle_steps, form_steps}
use Rattle.inode.specs.Internal.Fitting.{hashes_fit, kind_steps}

-- Whether n hashes can name the blocks of a file, by their number.
pub limit : (n len : ℕ) → leb (file_blocks len) n ≡ holds n len
unfolding holds
limit n len = grind (arith, leb_tells)

-- An inode of a form that passes, whatever is tested behind it.
pub kind_in :
    (size kind most : ℕ) (handle inode : List ℕ) {A : Type 0} (a : Answer A) {s : A} →
    in_order (kind_steps size kind most handle inode) a ≡ accepted s → (length inode ≡ size) × (file_blocks (file_length inode) ≤ most)
unfolding handle_steps named_steps form_steps
kind_in size kind most handle inode a e =
    let s = (passed (kind_steps size kind most handle inode) e).0 in
    let f = ((fits_means inode kind most).0 (unless_passed (hashes_fit inode kind most) 3 0 0 s.1.1.1.0)).1.0 in
    (eqb-true (length inode) size (unless_passed (eqb (length inode) size) 2 0 0 s.1.0), omega arith)

pub index_in : (len k : ℕ) (c : Result Unit Refusal) → said c ≡ tried (index_steps len k) → {u : Unit {0}} → c ≡ Ok u → k < file_blocks len
unfolding index_steps
index_in len k c e p =
    let s = (passed (index_steps len k) (sym e ∙ ap said p)).0 in ltb-true k (file_blocks len) (unless_passed (ltb k (file_blocks len)) 10 0 0 s.0)

pub indirect_in :
    (inode indirect : List ℕ) (c : Result Unit Refusal) → said c ≡ tried (indirect_steps inode indirect) → {u : Unit {0}} → c ≡ Ok u →
    length indirect ≡ 4097
unfolding indirect_steps
indirect_in inode indirect c e p =
    let s = (passed (indirect_steps inode indirect) (sym e ∙ ap said p)).0 in
    eqb-true (length indirect) 4097 (unless_passed (eqb (length indirect) 4097) 2 2 0 s.0)
