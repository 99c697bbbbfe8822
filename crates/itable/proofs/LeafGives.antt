-- What leads to a leaf leads to all of its numbers: each is at least the first, which is the number of the slot that led there, and below the bound,
-- so that in every block above the same slot leads on.
use Prim.Native.Nat.{ℕ, suc, ◌≤◌, ◌<◌}
use mathlib.Core.List.{List}
use mathlib.Core.Logic.{◌⊎◌, inl, inr, ⊎_elim}
use mathlib.Core.Path.{◌≡◌, refl, sym, ap, subst, ◌∙◌}
use native.Mathlib.Decide.{dec_le}
use native.Mathlib.Nat.{eq-or-lt_of_le}
use native.Mathlib.Omega.{arith}
use Rattle.layout.specs.Bytes.{part, parts}
use Rattle.itable.specs.Block.{size, kind, used, number, value, to_root, to_child}
use Rattle.itable.specs.declared.Link.{Link}
use Rattle.itable.specs.Lookup.{Entry, found}
use Rattle.itable.specs.LookupMeaning.{WellFormed, in_leaf, Leads, Says, ends, leads}
use Rattle.itable.specs.LeafGives.{LeafGives}
use Rattle.itable.proofs.Place.{ascends_lt}
use Rattle.itable.proofs.BlockBound.{slots_of, next_bounds, last_hands_down}
use Rattle.itable.proofs.LookupMeans.{lookup_means}

-- n is a number that k leads to: from the slot's on where there is one, and below the bound where there is one.
record Within (k : Link) (n : ℕ) : Type 0 where
  pub from : (k.due ≡ 0 → ⊥) → k.first ≤ n
  pub under : (k.bound ≡ 0 → ⊥) → n < k.bound

-- At the root, or at a place where a block of an i-table is due.
abbrev Due : Link → Type 0
Due k = (k.due ≡ 0) ⊎ (3 ≤ k.due)

module _ (k : Link) (b : List ℕ) (w : WellFormed k b) where
  ascends_le : (a j : ℕ) → a ≤ j → j < used b → number b a ≤ number b j
  ascends_le a j h l =
      ⊎_elim (λ e. rw e (omega arith)) (λ m. let r : number b a < number b j = ascends_lt (slots_of b) w.ascending a j m l in omega arith)
      (eq-or-lt_of_le {n = a} {m = j} h)

  -- A number in a used slot.
  holds_within : (j : ℕ) → j < used b → Within k (number b j)
  holds_within j l =
      record {
        from = λ n. omega (arith, w.first_number n, ascends_le 0 j (omega arith) l);
        under = λ n. w.below n j l;
      }

  inner_due : Due k → (kind b ≡ 3 → ⊥) → 4 ≤ kind b
  inner_due (inl z) n = let p = w.root_kind z in omega (arith, p.0)
  inner_due (inr l) n = let p = w.child_kind (λ z. omega arith) in omega arith

  -- From a child to its parent.
  module _ {i j : ℕ} (l : Leads b i j) (n : ℕ) (c : Within (to_child k b j) n) (four : 4 ≤ kind b) where
    at_least : number b j ≤ n
    at_least = c.from (λ z. omega arith)

    under_next : suc j < used b → n < number b (suc j)
    under_next h =
        let e = next_bounds k.bound b j h in
        let a = w.ascending j h in
        subst (λ x. n < x) e (c.under (λ z. omega (arith, e)))

    within : Within k n
    within =
        record {
          from = λ z. omega (arith, at_least, (holds_within j l.is_used).from z);
          under = λ z.
              elim (dec_le (used b) (suc j)) [
                | yes h ↦ let e = last_hands_down k.bound b j h in subst (λ x. n < x) e (c.under (λ y. z (sym e ∙ y)))
                | no h ↦ let m : suc j < used b = omega arith in omega (arith, under_next m, w.below z (suc j) m)
              ];
        }

    leads_too : Leads b n j
    leads_too =
        record {
          inner = l.inner;
          is_used = l.is_used;
          at_most = at_least;
          last = λ m a h. let s : suc j < used b = omega arith in omega (arith, under_next s, ascends_le (suc j) m a h);
        }

module _ (path : List ℕ) (i m j : ℕ) (leaf : kind (part size path m) ≡ 3) (l : j < used (part size path m)) where
  abbrev n : ℕ
  n = number (part size path m) j

  -- From block d on the path says of the number what its slot holds; only the last block is a leaf.
  gives :
      (d : ℕ) (k : Link) (e : Entry) → Due k → d ≤ m → m < parts size path → Says path i d k e →
      Says path n d k (found (value (part size path m) j)) × Within k n
  gives d k e due lo hi (ends w f last) =
      let b : part size path m ≡ part size path d = let z : m ≡ d = omega arith in ap (part size path) z in
      let u : j < used (part size path d) = rw b at l in
      rw b (ends w (in_leaf j (sym (ap kind b) ∙ leaf) u refl) last, holds_within k (part size path d) w.formed j u)
  gives d k e due lo hi (leads s w g says) =
      let b : List ℕ = part size path d in
      let below : suc d ≤ m = ⊎_elim (λ z. absurd (g.inner (rw z leaf))) (λ h. h) (eq-or-lt_of_le {n = d} {m = m} lo) in
      let four : 4 ≤ kind b = inner_due k b w.formed due g.inner in
      let r = gives (suc d) (to_child k b s) e (inr (omega arith)) below hi says in
      (leads s w (leads_too k b w.formed g n r.1 four) r.0, within k b w.formed g n r.1 four)

pub leaf_gives : LeafGives
leaf_gives handle i path e h d j hi leaf l =
    let s = ((lookup_means handle i path).0 e).0 h in
    let r = gives path i d j leaf l 0 (to_root handle) e (inl refl) (omega arith) hi s.1 in
    ((lookup_means handle (number (part size path d) j) path).0 (found (value (part size path d) j))).1 (s.0, r.0)
