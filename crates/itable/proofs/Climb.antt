-- From the leaves of a table to its root: what holds of the leaves, and of each row of blocks if it holds of the row below, holds of the root.
use Prim.Native.Nat.{ℕ, suc, ◌+◌, ◌-◌, ◌/◌, ◌≤◌, ◌<◌}
use mathlib.Core.Logic.{◌⊎◌, inl, inr}
use mathlib.Core.Path.{◌≡◌, refl, sym, ap, ◌∙◌}
use native.Mathlib.Decide.{dec_le}
use native.Mathlib.Omega.{arith}
use Rattle.layout.specs.Bytes.{part}
use Rattle.itable.specs.Block.{size}
use Rattle.itable.specs.Table.{Level, block, above, leaves, fours, blocks, written}
use Rattle.itable.specs.Lookup.{absent, entry_of}
use Rattle.itable.specs.Answers.{IsTable}
use Rattle.itable.proofs.Block.{Sized, above_sized}
use Rattle.itable.proofs.Place.{Ascends, Place, place_of, above_ascends, above_place}
use Rattle.itable.proofs.Cover.{cover, none_low}
use Rattle.itable.proofs.Rows.{Stands, leaves_stand, fours_stand, fives_stand, some_fours, root_three, root_four, root_five}

-- The row of the blocks of kind κ over L, where p is the place of i in L.
pub record Tier (T : Level) (i κ : ℕ) (L : Level) (p base : ℕ) : Type 0 where
  pub low : 3 ≤ κ
  pub place : Place L i p
  pub ascends : Ascends L
  pub sized : Sized L
  pub stands : Stands (written T) (blocks T.count) κ L base
  pub none : p ≡ 0 → entry_of T i ≡ absent

-- X holds of the root, which is the block of kind κ over L.
pub record Rooted (T : Level) (i : ℕ) (X : ℕ → Level → ℕ → Type 0) : Type 0 where
  pub κ : ℕ
  pub L : Level
  pub p : ℕ
  pub base : ℕ
  pub tier : Tier T i κ L p base
  pub high : κ ≤ 5
  pub filled : (κ ≡ 3) ⊎ (0 < L.count)
  pub is_root : part size (written T) (blocks T.count - 1) ≡ block κ L (cover p)
  pub it : X κ L p

module _ (T : Level) (i : ℕ) (t : IsTable T) (X : ℕ → Level → ℕ → Type 0) where
  leaf_tier : (p : ℕ) → Place T i p → Tier T i 3 T p 0
  leaf_tier p q =
      record {
        low = omega arith;
        place = q;
        ascends = t.ascends;
        sized = t.sized;
        stands = leaves_stand T t.sized;
        none = none_low T i p q;
      }

  next_tier :
      (κ : ℕ) (L : Level) (p base next : ℕ) → Tier T i κ L p base → 0 < L.count →
      Stands (written T) (blocks T.count) (suc κ) (above κ L) next → Tier T i (suc κ) (above κ L) ((p + 15) / 16) next
  next_tier κ L p base next a pos st =
      record {
        low = omega (arith, a.low);
        place = above_place κ L i p pos a.place;
        ascends = above_ascends κ L a.ascends;
        sized = above_sized κ L;
        stands = st;
        none = λ z. a.none (omega arith);
      }

  pub climb :
      ((p : ℕ) → Tier T i 3 T p 0 → X 3 T p) →
      ((κ : ℕ) (L : Level) (p base next : ℕ) → Tier T i κ L p base → Tier T i (suc κ) (above κ L) ((p + 15) / 16) next →
      0 < L.count → X κ L p → X (suc κ) (above κ L) ((p + 15) / 16)) →
      Rooted T i X
  unfolding above
  climb start step =
      let p : ℕ = (place_of T t.ascends i).0 in
      let q : Place T i p = (place_of T t.ascends i).1 in
      let a : Tier T i 3 T p 0 = leaf_tier p q in
      let x : X 3 T p = start p a in
      elim (dec_le (leaves T.count) 1) [
        | yes l ↦
            let z : cover p ≡ 0 = omega (arith, q.within) in
            record {
              κ = 3;
              L = T;
              p = p;
              base = 0;
              tier = a;
              high = omega arith;
              filled = inl refl;
              is_root = root_three T t.sized l ∙ ap (block 3 T) (sym z);
              it = x;
            }
        | no l ↦
            let pos : 0 < T.count = omega arith in
            let more : 1 < leaves T.count = omega arith in
            let b : Tier T i 4 (above 3 T) ((p + 15) / 16) (leaves T.count) =
            next_tier 3 T p 0 (leaves T.count) a pos (fours_stand T t.sized more) in
            let y : X 4 (above 3 T) ((p + 15) / 16) = step 3 T p 0 (leaves T.count) a b pos x in
            elim (dec_le (fours T.count) 1) [
              | yes m ↦
                  let z : cover ((p + 15) / 16) ≡ 0 = omega (arith, q.within, some_fours T.count more) in
                  record {
                    κ = 4;
                    L = above 3 T;
                    p = (p + 15) / 16;
                    base = leaves T.count;
                    tier = b;
                    high = omega arith;
                    filled = inr (omega arith);
                    is_root = root_four T t.sized more m ∙ ap (block 4 (above 3 T)) (sym z);
                    it = y;
                  }
              | no m ↦
                  let most : 1 < fours T.count = omega arith in
                  let c : Tier T i 5 (above 4 (above 3 T)) (((p + 15) / 16 + 15) / 16) (leaves T.count + fours T.count) =
                  next_tier 4 (above 3 T) ((p + 15) / 16) (leaves T.count) (leaves T.count + fours T.count) b (omega arith)
                  (fives_stand T t.sized more most) in
                  let z : cover (((p + 15) / 16 + 15) / 16) ≡ 0 = omega (arith, q.within, t.few) in
                  record {
                    κ = 5;
                    L = above 4 (above 3 T);
                    p = ((p + 15) / 16 + 15) / 16;
                    base = leaves T.count + fours T.count;
                    tier = c;
                    high = omega arith;
                    filled = inr (omega arith);
                    is_root = root_five T t.sized t.few more most ∙ ap (block 5 (above 4 (above 3 T))) (sym z);
                    it = step 4 (above 3 T) ((p + 15) / 16) (leaves T.count) (leaves T.count + fours T.count) b c (omega arith) y;
                  }
            ]
      ]
