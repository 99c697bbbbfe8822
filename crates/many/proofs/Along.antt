-- From one block of a question's path to the next: the lookup ends at a block, or goes on along the slot that it names. Each block that is passed
-- has the hash that led to it, which is known from then on.
use Prim.Native.Nat.{ℕ, suc, ◌+◌, ◌-◌, ◌*◌, ◌≤◌, ◌<◌}
use mathlib.Core.Bool.{true, false}
use mathlib.Core.List.{List, [], ◌∷◌}
use mathlib.Core.Logic.{⊎_elim}
use mathlib.Core.Path.{◌≡◌, sym, ap, subst, ◌∙◌}
use native.Mathlib.Omega.{arith}
use lib.Dec.{eqb}
use lib.ListN.{length, get_or, set, replicate, length-drop, get_or-replicate}
use lib.Seq.{length-take-le, get_or-set_same, get_or-set_other}
use borrow.Author.Tests.{eqb-true, eqb-false}
use Rattle.search.proofs.Bool.{bool_cases}
use Rattle.layout.specs.Bytes.{part}
use Rattle.layout.specs.Strings.{same}
use Rattle.layout.proofs.Parts.{part_part}
use Rattle.std.specs.Prelude.{Option, None, Some, Result, Ok, Err}
use Rattle.std.specs.Result.{IsErrAnd}
use Rattle.refusal.specs.Answer.{Answer, accepted, refused}
use Rattle.refusal.specs.Order.{unless, in_order}
use Rattle.refusal.specs.Refusal.{checked}
use Rattle.refusal.specs.declared.Refusal.{Refusal}
use Rattle.refusal.proofs.Match.{returned}
use Rattle.sha256.specs.Sha256.{sha256}
use Rattle.itable.specs.Block.{size, to_child, well_formed}
use Rattle.itable.specs.declared.Link.{Link}
use Rattle.itable.specs.Lookup.{Entry, answer_at, consult}
use Rattle.itable.specs.Internal.Many.{entry_at}
use Rattle.itable.proofs.Consult.{consult_none, consult_next}
use Rattle.many.specs.Internal.Known.{Knows, AllKnown}
use Rattle.many.specs.Internal.Walk.{path_from, following, Consulted}
use Rattle.many.specs.declared.Known.{Known}

-- The path of a question whose blocks are all there.
pub from_long : (paths : List ℕ) (first n : ℕ) → size * (first + n) ≤ length paths → length (path_from paths first n) ≡ size * n
from_long paths first n h = length-take-le _ _ (simp length-drop (omega arith))

-- Nothing is known before the first question.
pub none_known : (paths : List ℕ) → AllKnown paths (replicate 3 None)
none_known paths d h = rw (get_or-replicate {A = Option Known} 3 d None None h) tt

-- One more block is known.
pub known_more :
    (paths : List ℕ) (known : List (Option Known)) (d : ℕ) (x : Option Known) → d < length known → AllKnown paths known → Knows paths x →
    AllKnown paths (set known d x)
known_more paths known d x l f e m h =
    ⊎_elim
    (λ q. subst (λ k. Knows paths (get_or (set known d x) k None)) (sym (eqb-true m d q)) (rw (get_or-set_same known d x None l) e))
    (λ q. rw (get_or-set_other known d m x None (eqb-false m d q)) (f m h)) (bool_cases (eqb m d))

module _ (paths : List ℕ) (first n i d : ℕ) (k : Link) {a : Answer Entry} (g : consult (path_from paths first n) i (n - d) d k ≡ a) where
  -- No block is left.
  pub none_more : n ≤ d → d ≤ n → refused 9 n 0 ≡ a
  none_more h l =
      let e : n ≡ d = omega arith in ap (λ m. refused 9 m 0) e ∙ (sym (consult_none (path_from paths first n) i n d k h) ∙ g)

  -- Block d of the path.
  module _ (h : d < n) where
    abbrev block : List ℕ
    block = part size paths (first + d)

    abbrev on : ℕ → Answer Entry
    on j = consult (path_from paths first n) i (n - d - 1) (suc d) (to_child k block j)

    next :
        a ≡
        in_order (unless (same (sha256 block) k.hash) 8 d 0 ∷ unless (well_formed k block) 3 d 0 ∷ [])
        (answer_at block i (n - d - 1) (suc d) on)
    next = sym g ∙ (consult_next (path_from paths first n) i n d k h ∙ rw (part_part size paths first n d h))

    pub wrong_hash : same (sha256 block) k.hash ≡ false → refused 8 d 0 ≡ a
    unfolding in_order
    wrong_hash e = rw (next, e)

    module _ (e : same (sha256 block) k.hash ≡ true) {s : Result (Option ℕ) Refusal} (c : Consulted block k i (n - d - 1) d s) where
      follows : {t : Result (Option ℕ) Refusal} → s ≡ t → following t (entry_at block i) on ≡ a
      unfolding in_order
      follows q = sym (next ∙ rw e (c.says on ∙ ap (λ x. following x (entry_at block i) on) q))

      pub refuses : {r : Refusal} → s ≡ Err r → (x : Result Unit Refusal) → IsErrAnd x (λ e. e ≡ r) → (f : Entry) → checked f x ≡ a
      refuses q x w f = rw (returned w) (follows q)

      pub ends_here : {o : Option ℕ} → s ≡ Ok o → o ≡ None → accepted (entry_at (part size paths (first + n - 1)) i) ≡ a
      ends_here q z =
          let w : s ≡ Ok None = q ∙ ap Ok z in
          let l : n - d - 1 ≡ 0 = c.last w in
          let y : first + n - 1 ≡ first + d = omega arith in rw y (follows w)

      pub leads_on :
          {o : Option ℕ} {j : ℕ} {m : Link} → s ≡ Ok o → o ≡ Some j → m ≡ to_child k block j →
          consult (path_from paths first n) i (n - (d + 1)) (d + 1) m ≡ a
      leads_on {j = j} q z f =
          let w : s ≡ Ok (Some j) = q ∙ ap Ok z in
          let x : n - (d + 1) ≡ n - d - 1 = omega arith in let y : d + 1 ≡ suc d = omega arith in rw (f, x, y) (follows w)
