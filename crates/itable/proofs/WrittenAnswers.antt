-- Along written blocks a lookup is answered as the table answers. The path takes from each row the block that covers the i-number, and ends at the
-- root where the i-number is below all of the table.
use Prim.Native.Nat.{ℕ, suc, ◌+◌, ◌-◌, ◌*◌, ◌/◌, ◌≤◌, ◌<◌}
use mathlib.Core.Bool.{true, ◌||◌}
use mathlib.Core.List.{List, [], ◌∷◌}
use mathlib.Core.Logic.{◌⊎◌, inl, inr, ⊎_elim}
use mathlib.Core.Path.{◌≡◌, refl, sym, ap, ◌∙◌}
use native.Mathlib.Decide.{dec_le}
use native.Mathlib.Omega.{arith}
use lib.Dec.{leb, eqb}
use lib.ListN.{length}
use borrow.Author.Tests.{le-leb, eq-eqb}
use Rattle.search.proofs.Bool.{left_true, right_true}
use Rattle.refusal.specs.Answer.{accepted}
use Rattle.sha256.specs.Sha256.{sha256}
use Rattle.itable.specs.Block.{size, to_root, well_formed}
use Rattle.itable.specs.declared.Link.{Link}
use Rattle.itable.specs.Table.{Level, wide, used_in, block, above, blocks, written, root_hash}
use Rattle.itable.specs.Lookup.{entry_of, consult}
use Rattle.itable.specs.Answers.{AllBelow, path_of, WrittenAnswers}
use Rattle.sha256.proofs.Laws.{sha256_length}
use Rattle.itable.proofs.Block.{to_block, kind_block}
use Rattle.itable.proofs.Form.{Bounded, root_form, child_form}
use Rattle.itable.proofs.Cover.{cover, leaf_entry}
use Rattle.itable.proofs.Consult.{along, consulted, answer_leaf}
use Rattle.itable.proofs.Descend.{none_leads, child_leads, child_bounded}
use Rattle.itable.proofs.Rows.{length_written}
use Rattle.itable.proofs.Paths.{Reads, path_length, path_reads, lookup_consults}
use Rattle.itable.proofs.Climb.{Tier, Rooted, climb}

module _ (T : Level) (i : ℕ) where
  -- Blocks that are answered as the table answers, from the block of kind κ over L on that covers the place p.
  record Finds (κ : ℕ) (L : Level) (p : ℕ) : Type 0 where
    pub indices : List ℕ
    pub below : AllBelow (blocks T.count) indices
    pub some : 1 ≤ length indices
    pub few : length indices ≤ κ - 2
    pub finds :
        (path : List ℕ) (d : ℕ) (k : Link) → sha256 (block κ L (cover p)) ≡ k.hash → well_formed k (block κ L (cover p)) ≡ true →
        Bounded L (cover p) k.bound → Reads (written T) path d indices → consult path i (length indices) d k ≡ accepted (entry_of T i)

  leaf_finds : (p : ℕ) → Tier T i 3 T p 0 → Finds 3 T p
  leaf_finds p a =
      let l : cover p < wide T.count = omega (arith, a.place.within) in
      let b : List ℕ = block 3 T (cover p) in
      record {
        indices = (0 + cover p) ∷ [];
        below = (a.stands.below (cover p) l, tt);
        some = omega arith;
        few = omega arith;
        finds = λ path d k e f w r.
            consulted path i 0 d k b (r.0 ∙ a.stands.at (cover p) l) e f ∙
            (answer_leaf b i 0 (suc d) (along path i 0 d k b) (kind_block 3 T (cover p)) ∙
            ap accepted (leaf_entry T i p a.place a.sized 3 a.ascends));
      }

  inner_finds :
      (κ : ℕ) (L : Level) (p base next : ℕ) → Tier T i κ L p base → Tier T i (suc κ) (above κ L) ((p + 15) / 16) next →
      0 < L.count → Finds κ L p → Finds (suc κ) (above κ L) ((p + 15) / 16)
  inner_finds κ L p base next a c pos x =
      let up : ℕ = cover ((p + 15) / 16) in
      let l : up < wide (above κ L).count = omega (arith, c.place.within) in
      let b : List ℕ = block (suc κ) (above κ L) up in
      elim (dec_le p 0) [
        | yes z ↦
            let o : p ≡ 0 = omega arith in
            record {
              indices = (next + up) ∷ [];
              below = (c.stands.below up l, tt);
              some = omega arith;
              few = omega (arith, a.low);
              finds = λ path d k e f w r.
                  consulted path i 0 d k b (r.0 ∙ c.stands.at up l) e f ∙
                  (none_leads κ L i p a.place pos a.low path 0 d k o ∙ ap accepted (sym (a.none o)));
            }
        | no z ↦
            record {
              indices = (next + up) ∷ x.indices;
              below = (c.stands.below up l, x.below);
              some = omega arith;
              few = omega (arith, a.low, x.few);
              finds = λ path d k e f w r.
                  consulted path i (length x.indices) d k b (r.0 ∙ c.stands.at up l) e f ∙
                  (child_leads κ L i p a.place pos a.low path (length x.indices) d k (omega arith) ∙
                  (let bounded = child_bounded κ L i p a.place pos a.low k.bound (omega arith) w in
                  x.finds path (suc d) (to_block κ L _ (cover p)) refl
                  (child_form L a.sized κ (cover p) (omega (arith, a.place.within)) a.ascends (omega (arith, a.low))
                  (omega (arith, a.place.within)) _ bounded)
                  bounded r.1));
            }
      ]

used_or_leaf : (u κ : ℕ) → (κ ≡ 3) ⊎ (0 < u) → (leb 1 u || eqb κ 3) ≡ true
used_or_leaf u κ (inl e) = right_true (leb 1 u) (eqb κ 3) (eq-eqb κ 3 e)
used_or_leaf u κ (inr h) = left_true (leb 1 u) (eqb κ 3) (le-leb 1 u h)

root_fits :
    {T : Level} {i : ℕ} {X : ℕ → Level → ℕ → Type 0} (r : Rooted T i X) (handle : List ℕ) →
    well_formed (to_root handle) (block r.κ r.L (cover r.p)) ≡ true
root_fits r handle =
    root_form r.L r.tier.sized r.κ (cover r.p) (omega (arith, r.tier.place.within)) handle r.tier.ascends
    r.tier.low r.high
    (used_or_leaf (used_in r.L.count (cover r.p)) r.κ
    (⊎_elim (λ e. inl e) (λ g. inr (omega (arith, r.tier.place.within))) r.filled))

pub written_answers : WrittenAnswers
written_answers T t i =
    let r : Rooted T i (Finds T i) = climb T i t (Finds T i) (leaf_finds T i) (inner_finds T i) in
    let n : ℕ = blocks T.count in
    let x : Finds T i r.κ r.L r.p = r.it in
    let l : size * n ≤ length (written T) = omega (arith, length_written T t.sized) in
    let handle : List ℕ = root_hash (written T) n in
    let path : List ℕ = path_of (written T) x.indices in
    record {
      indices = x.indices;
      are_written = x.below;
      answers =
          lookup_consults handle i path (length x.indices) (sha256_length _)
          (path_length (written T) n l x.indices x.below) x.some (omega (arith, x.few, r.high)) ∙
          x.finds path 0 (to_root handle) (ap sha256 (sym r.is_root)) (root_fits r handle) (inl refl)
          (path_reads (written T) n l x.indices x.below [] 0 refl);
    }
