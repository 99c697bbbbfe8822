-- An accepted lookup answers as the table does, or a block of its path collides with a written one. Each block of the path has the hash that the
-- written block before it names: it is the written block, and the lookup goes on as along written blocks, or it differs and the two collide.
use Prim.Native.Nat.{ℕ, zero, suc, ◌+◌, ◌/◌, ◌≤◌, ◌<◌}
use mathlib.Core.List.{List}
use mathlib.Core.Logic.{◌⊎◌, inl, inr, ⊎_elim}
use mathlib.Core.Path.{◌≡◌, refl, sym, ap, ◌∙◌}
use native.Mathlib.Decide.{dec_le}
use native.Mathlib.Omega.{arith}
use Rattle.layout.specs.Bytes.{part, parts}
use Rattle.layout.specs.Strings.{same}
use Rattle.layout.proofs.Strings.{same_true, same_false}
use Rattle.search.proofs.Bool.{bool_cases}
use Rattle.refusal.specs.Answer.{Answer, accepted, refused}
use Rattle.refusal.proofs.Order.{passed}
use Rattle.sha256.specs.Sha256.{sha256}
use Rattle.itable.specs.Block.{size, to_root}
use Rattle.itable.specs.declared.Link.{Link}
use Rattle.itable.specs.Table.{Level, wide, block, above, blocks, written, root_hash}
use Rattle.itable.specs.Lookup.{Entry, absent, entry_of, answer_at, consult, lookup, path_steps}
use Rattle.itable.specs.Answers.{Collision, OtherwiseCollides}
use Rattle.itable.proofs.Block.{Sized, kind_block}
use Rattle.itable.proofs.Place.{Ascends, Place}
use Rattle.itable.proofs.Cover.{cover, leaf_entry}
use Rattle.itable.proofs.Consult.{along, accepting, answer_leaf, known_accepts}
use Rattle.itable.proofs.Descend.{none_leads, child_leads}
use Rattle.itable.proofs.Rows.{Stands}
use Rattle.itable.proofs.Climb.{Rooted, climb}

module _ (T : Level) (i : ℕ) (bytes : List ℕ) (n : ℕ) (path : List ℕ) where
  -- What an accepted lookup says from the block of kind κ over L on that covers the place p of i in L.
  abbrev pub Says : ℕ → Level → ℕ → Type 0
  Says κ L p =
      (left d : ℕ) (k : Link) (e : Entry) → k.hash ≡ sha256 (block κ L (cover p)) → d + left ≡ parts size path →
      consult path i left d k ≡ accepted e → (e ≡ entry_of T i) ⊎ Collision bytes n path

  -- The block consulted is the written one, or they collide.
  written_or_collides :
      (κ : ℕ) (L : Level) (base c left d : ℕ) (k : Link) (e : Entry) → Stands bytes n κ L base → c < wide L.count →
      k.hash ≡ sha256 (block κ L c) → d < parts size path → consult path i (suc left) d k ≡ accepted e →
      (answer_at (block κ L c) i left (suc d) (along path i left d k (block κ L c)) ≡ accepted e) ⊎ Collision bytes n path
  written_or_collides κ L base c left d k e st l r m h =
      let a = accepting path i left d k h in
      ⊎_elim
      (λ t. inl (rw (same_true (part size path d) (block κ L c) t) at a.1))
      (λ f.
      inr
      (record {
        d = d;
        w = base + c;
        in_path = m;
        is_written = st.below c l;
        differ = λ q. same_false (part size path d) (block κ L c) f (q ∙ st.at c l);
        equal_hash = a.0 ∙ (r ∙ ap sha256 (sym (st.at c l)));
      }))
      (bool_cases (same (part size path d) (block κ L c)))

  none_left : {A : Type 0} (d : ℕ) {e : Entry} → ◌≡◌ {A = Answer Entry} (refused 9 d 0) (accepted e) → A
  none_left d h = let z : ◌≡◌ {A = ℕ} 0 1 = cc in absurd (omega arith)

  leaf_says : (p base : ℕ) → Place T i p → Ascends T → Sized T → Stands bytes n 3 T base → Says 3 T p
  unfolding consult
  leaf_says p base q asc s st zero d k e r m h = none_left d h
  leaf_says p base q asc s st (suc left) d k e r m h =
      ⊎_elim
      (λ g.
      inl
      (sym
      (sym (leaf_entry T i p q s 3 asc) ∙
      known_accepts left (suc d)
      (sym (answer_leaf (block 3 T (cover p)) i left (suc d) (along path i left d k (block 3 T (cover p))) (kind_block 3 T (cover p))) ∙ g))))
      (λ c. inr c)
      (written_or_collides 3 T base (cover p) left d k e st (omega (arith, q.within)) r (omega arith) h)

  inner_says :
      (κ : ℕ) (L : Level) (p base : ℕ) → Place L i p → 0 < L.count → 3 ≤ κ → (p ≡ 0 → entry_of T i ≡ absent) →
      Stands bytes n (suc κ) (above κ L) base → Says κ L p → Says (suc κ) (above κ L) ((p + 15) / 16)
  unfolding consult above
  inner_says κ L p base q pos low z st says zero d k e r m h = none_left d h
  inner_says κ L p base q pos low z st says (suc left) d k e r m h =
      ⊎_elim
      (λ g.
      elim (dec_le p 0) [
        | yes l ↦
            let o : p ≡ 0 = omega arith in
            inl (sym (z o ∙ known_accepts left (suc d) (sym (none_leads κ L i p q pos low path left d k o) ∙ g)))
        | no l ↦
            says left (suc d) _ e refl (omega arith)
            (sym (child_leads κ L i p q pos low path left d k (omega arith)) ∙ g)
      ])
      (λ c. inr c)
      (written_or_collides (suc κ) (above κ L) base (cover ((p + 15) / 16)) left d k e st (omega (arith, q.within)) r
      (omega arith) h)

pub otherwise_collides : OtherwiseCollides
unfolding lookup
otherwise_collides T t i path e h ne =
    let n : ℕ = blocks T.count in
    let r : Rooted T i (Says T i (written T) n path) =
    climb T i t (Says T i (written T) n path)
    (λ p a. leaf_says T i (written T) n path p 0 a.place a.ascends a.sized a.stands)
    (λ κ L p base next a b pos x.
    inner_says T i (written T) n path κ L p next a.place pos a.low a.none b.stands x) in
    let handle : List ℕ = root_hash (written T) n in
    let g : consult path i (parts size path) 0 (to_root handle) ≡ accepted e = (passed (path_steps handle path) h).1 in
    ⊎_elim (λ same. absurd (ne same)) (λ c. c) (r.it (parts size path) 0 (to_root handle) e (ap sha256 r.is_root) (omega arith) g)
