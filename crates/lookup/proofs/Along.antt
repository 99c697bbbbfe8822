-- From one block of a path to the next: the lookup ends at a block, or goes on along the slot that it names.
use Prim.Native.Nat.{ℕ, suc, ◌+◌, ◌-◌, ◌*◌, ◌≤◌, ◌<◌}
use mathlib.Core.List.{List, ◌++◌}
use mathlib.Core.Path.{◌≡◌, sym, ap, ◌∙◌}
use native.Mathlib.Omega.{arith}
use lib.ListN.{length, take, drop, length-append, length-drop}
use lib.Seq.{take_at, drop_at, drop-drop}
use Rattle.std.specs.Prelude.{Option, Result, Ok, Err}
use Rattle.std.specs.Result.{IsErrAnd}
use Rattle.refusal.specs.Answer.{Answer, refused}
use Rattle.refusal.specs.declared.Refusal.{Refusal}
use Rattle.refusal.proofs.Match.{returned}
use Rattle.itable.specs.Block.{size, to_child}
use Rattle.itable.specs.declared.Link.{Link}
use Rattle.itable.specs.Lookup.{Entry, consult}
use Rattle.itable.proofs.Consult.{consult_none, consult_next}
use Rattle.lookup.specs.Looked.{answer}
use Rattle.lookup.specs.Internal.Step.{ending, judged, Consulted}
use Rattle.lookup.specs.declared.Step.{Step}
use Rattle.lookup.specs.declared.Step.TheVariants.{Ends, Leads}

module _ (path : List ℕ) (i n d : ℕ) (k : Link) {a : Answer Entry} (g : consult path i (n - d) d k ≡ a) where
  -- No block is left.
  pub none_more : n ≤ d → refused 9 d 0 ≡ a
  none_more h = sym (consult_none path i n d k h) ∙ g

  -- The same by the number of blocks.
  pub none_left : n ≤ d → d ≤ n → refused 9 n 0 ≡ a
  none_left h l = let e : n ≡ d = omega arith in ap (λ m. refused 9 m 0) e ∙ none_more h

  -- Block d.
  module _ (h : d < n) (block : List ℕ) (eb : take size (drop (size * d) path) ≡ block) {s : Result Step Refusal} (st : Consulted block k i d s) where
    abbrev on : ℕ → Answer Entry
    on j = consult path i (n - d - 1) (suc d) (to_child k block j)

    next : a ≡ judged s block (n - d - 1) (suc d) on
    next = sym g ∙ (consult_next path i n d k h ∙ rw eb (st.says (n - d - 1) on))

    pub refuses : {r : Refusal} → s ≡ Err r → (x : Result (Option (List ℕ)) Refusal) → IsErrAnd x (λ e. e ≡ r) → answer x ≡ a
    refuses q x w = rw (returned w) (sym (next ∙ rw q))

    pub ends_here :
        {t : Step} {slot : Option ℕ} → s ≡ Ok t → t ≡ Ends slot → (x : Result (Option (List ℕ)) Refusal) →
        answer x ≡ ending slot block (n - d - 1) (d + 1) → answer x ≡ a
    ends_here q w x l = let y : d + 1 ≡ suc d = omega arith in rw y at l ∙ sym (next ∙ rw (q, w))

    pub leads_on :
        {t : Step} {j : ℕ} → s ≡ Ok t → t ≡ Leads j → {c : Link} → c ≡ to_child k block j → consult path i (n - (d + 1)) (d + 1) c ≡ a
    leads_on q w e =
        let x : n - (d + 1) ≡ n - d - 1 = omega arith in
        let y : d + 1 ≡ suc d = omega arith in
        rw (e, x, y) (sym (next ∙ rw (q, w)))

-- A chunk of the path from block d on is that block, and what is left begins at the next.
module _ (path b rest : List ℕ) (n d : ℕ) (l : length path ≡ size * n) (h : d ≤ n) (e : drop (size * d) path ≡ b ++ rest) (w : length b ≡ size) where
  pub chunk_within : d < n
  chunk_within = let m = ap length e ∙ length-append b rest in omega (arith, m, length-drop (size * d) path)

  pub chunk_block : take size (drop (size * d) path) ≡ b
  chunk_block = ap (take size) e ∙ take_at b rest size w

  pub chunk_rest : rest ≡ drop (size * (d + 1)) path
  chunk_rest =
      let m : size * d + size ≡ size * (d + 1) = omega arith in
      sym (drop_at b rest size w) ∙ (ap (drop size) (sym e) ∙ (drop-drop size (size * d) path ∙ ap (λ k. drop k path) m))

-- Where less than a block is left, none is.
pub chunk_none : (path rest : List ℕ) (n d : ℕ) → length path ≡ size * n → rest ≡ drop (size * d) path → length rest < size → n ≤ d
chunk_none path rest n d l e h = let m = ap length e in omega (arith, m, length-drop (size * d) path)
