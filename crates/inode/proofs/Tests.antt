-- The tests of an inode, of an index and of a file's block, each by cases.
use Rattle.std.proofs.Common.{◌≡◌, ℕ, ◌+◌, ◌-◌, ◌*◌, ◌<◌, Bool, true, false, ◌&&◌, eqb, List, ◌++◌, length, get_or, take, drop, sym, ap, ◌∙◌, arith}
use Rattle.std.specs.Prelude.{Result, Ok, Err}
use Rattle.std.proofs.lemmas.Bool.{eqb-true, eq-eqb, ne_eqb}
use Rattle.layout.specs.Strings.{zeros}
use Rattle.refusal.specs.Answer.{Answer, accepted, refused}
use Rattle.refusal.specs.Order.{Step, in_order, tried}
use Rattle.refusal.specs.Refusal.{refusal, said}
use Rattle.refusal.specs.declared.Refusal.{Refusal}
use Rattle.refusal.proofs.Means.{in_append}
use Rattle.refusal.proofs.Order.{passed, unless_passed}
use Rattle.refusal.proofs.Stage.{stage_passed, stage_refused}
use Rattle.itable.specs.Inode.{file_blocks, hash_at, rest_zero, holds, file_length, index_steps, block_steps}
use Rattle.inode.specs.Internal.Named.{named_steps, handle_steps, form_steps}
use Rattle.inode.proofs.Laws.{index_in}

-- A form that begins with its kind, as it was read, and what is tested behind it.
module _ (b : List ℕ) (κ x : ℕ) (ex : x ≡ get_or b 0 0) (rest : Bool) where
  pub other_kind : (x ≡ κ → ⊥) → false ≡ (eqb (get_or b 0 0) κ && rest)
  other_kind h = rw (sym ex, ne_eqb x κ h)

  pub its_kind : x ≡ κ → {r : Bool} → r ≡ rest → r ≡ (eqb (get_or b 0 0) κ && rest)
  its_kind h e = rw (sym ex, eq-eqb x κ h) e

-- A file of up to `most` blocks, of which n hashes stand from a place on.
module _ (b : List ℕ) (most at n len : ℕ) (el : len ≡ file_length b) where
  abbrev fit : Bool
  fit = holds most (file_length b) && rest_zero b at n (file_blocks (file_length b))

  pub too_long : holds most len ≡ false → false ≡ fit
  too_long f = rw (sym el, f)

  pub is_inode : holds most len ≡ true → (m : ℕ) → m ≡ file_blocks len → (r : Bool) → r ≡ rest_zero b at n m → r ≡ fit
  is_inode f m em r e = rw (sym el, f, sym em) e

-- The hashes from a place on.
module _ (b : List ℕ) (at : ℕ) where
  pub rest_tested : (n m : ℕ) (r : Bool) → r ≡ zeros b (at + 32 * m) (at + 32 * n - (at + 32 * m)) → r ≡ rest_zero b at n m
  unfolding rest_zero
  rest_tested n m r e = let d : at + 32 * n - (at + 32 * m) ≡ 32 * (n - m) = omega arith in rw (sym d) e

  -- Hash k as it is lent to the tests of a block.
  pub hash_lent :
      (k len n : ℕ) (block : List ℕ) {a : Answer Unit} →
      a ≡ tried (block_steps len n (take (at + 32 * k + 32 - (at + 32 * k)) (drop (at + 32 * k) b)) block) →
      a ≡ tried (block_steps len n (hash_at b at k) block)
  hash_lent k len n block e = let l : at + 32 * k + 32 - (at + 32 * k) ≡ 32 = omega arith in rw l at e

-- The tests of an inode that the handle names, and others behind them.
module _ (size : ℕ) (handle inode : List ℕ) (us : List Step) where
  pub wrong_handle : (length handle ≡ 32 → ⊥) → refused 2 0 0 ≡ tried (handle_steps size handle inode ++ us)
  unfolding handle_steps in_order
  wrong_handle h = rw (ne_eqb (length handle) 32 h)

  pub right_handle :
      length handle ≡ 32 → {a : Answer Unit} → a ≡ tried (named_steps size handle 0 inode ++ us) → a ≡ tried (handle_steps size handle inode ++ us)
  unfolding handle_steps in_order
  right_handle h e = rw (eq-eqb (length handle) 32 h) e

-- The test of a form.
pub malformed : (formed : Bool) (place : ℕ) → formed ≡ false → refused 3 place 0 ≡ tried (form_steps formed place)
unfolding form_steps in_order
malformed formed place h = rw h

-- Tests, and then others.
module _ (ts us : List Step) (c : Result Unit Refusal) (e : said c ≡ tried ts) where
  split : tried (ts ++ us) ≡ in_order ts (tried us)
  split = in_append ts us (accepted tt)

  pub first_refused : {r : Refusal} → c ≡ Err r → refusal r ≡ tried (ts ++ us)
  first_refused p = sym (split ∙ stage_refused ts c e (tried us) p)

  pub then_others : {u : Unit {0}} → c ≡ Ok u → {a : Answer Unit} → a ≡ tried us → a ≡ tried (ts ++ us)
  then_others p f = f ∙ sym (split ∙ stage_passed ts c e (tried us) p)

-- What passes: an inode that is whole and well formed, and the index of a block that the file has.
pub inode_in :
    (handle inode : List ℕ) (size : ℕ) (formed : Bool) (c : Result Unit Refusal) →
    said c ≡ tried (handle_steps size handle inode ++ form_steps formed 0) → {u : Unit {0}} → c ≡ Ok u → (length inode ≡ size) × (formed ≡ true)
unfolding handle_steps named_steps form_steps
inode_in handle inode size formed c e p =
    let s = (passed (handle_steps size handle inode ++ form_steps formed 0) (sym e ∙ ap said p)).0 in (
      eqb-true (length inode) size (unless_passed (eqb (length inode) size) 2 0 0 s.1.0),
      unless_passed formed 3 0 0 s.1.1.1.0,
    )

pub index_below : (len k : ℕ) (d : Result Unit Refusal) → said d ≡ tried (index_steps len k) → {u : Unit {0}} → d ≡ Ok u → 8192 * k < len
index_below len k d e p = let l = index_in len k d e p in omega arith
