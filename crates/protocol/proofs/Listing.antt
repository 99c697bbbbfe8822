-- The list that a server hands out, where each user's held record is none or that user's own, well formed: its records are those held,
-- owners ascending, and its entry for a user is the one held of it. Users are taken one after the other, and each adds its record in front.
use Prim.Native.Nat.{ℕ, zero, suc, ◌+◌, ◌-◌, ◌*◌, ◌≤◌, ◌<◌}
use mathlib.Core.Bool.{Bool, true}
use mathlib.Core.List.{List, [], ◌++◌}
use mathlib.Core.Logic.{⊎_elim}
use mathlib.Core.Path.{◌≡◌, refl, sym, ap, ◌∙◌}
use native.Mathlib.Decide.{dec_lt}
use native.Mathlib.Nat.{eq-or-lt_of_le}
use native.Mathlib.Omega.{arith}
use lib.Dec.{eqb}
use lib.ListN.{length, length-append}
use borrow.Author.Tests.{eqb-true, eq-eqb, ne_eqb}
use Rattle.layout.proofs.Parts.{part_front, part_behind, part_past}
use Rattle.search.specs.Search.{find}
use Rattle.search.proofs.Bool.{not_both}
use Rattle.search.proofs.Search.{Found, found, find_none}
use Rattle.protocol.specs.declared.Server.{Server}
use Rattle.protocol.specs.Version.{size, owner}
use Rattle.protocol.specs.List.{records, record_at, entry}
use Rattle.protocol.specs.Server.{held, held_from}
use Rattle.protocol.specs.Meaning.{WellPlaced}
use Rattle.protocol.specs.Steady.{Proper, Kept}

-- A record listed of one of the k users from v on.
pub record Listed (N : ℕ) (s : Server) (v k : ℕ) (x : List ℕ) : Type 0 where
  pub from : v ≤ owner x
  pub within : owner x < v + k
  pub proper : Proper N (owner x) x
  pub is_held : x ≡ held s (owner x)

-- The list of the k users from v on.
pub record Listing (N : ℕ) (s : Server) (v k : ℕ) (list : List ℕ) : Type 0 where
  pub whole : size * records list ≡ length list
  pub few : records list ≤ N - v
  pub each : (i : ℕ) → i < records list → Listed N s v k (record_at list i)
  pub ascending : (i : ℕ) → suc i < records list → owner (record_at list i) < owner (record_at list (suc i))
  pub place : (w : ℕ) → v ≤ w → w < v + k → Proper N w (held s w) → (i : ℕ) × (i < records list) × (record_at list i ≡ held s w)

module _ (N : ℕ) (s : Server) (v k : ℕ) where
  wider : {x : List ℕ} → Listed N s (suc v) k x → Listed N s v (suc k) x
  wider l = record { from = omega (arith, l.from); within = omega (arith, l.within); proper = l.proper; is_held = l.is_held }

  -- A user of whom nothing is held.
  pass_by : {list : List ℕ} → held s v ≡ [] → Listing N s (suc v) k list → Listing N s v (suc k) list
  pass_by e l =
      record {
        whole = l.whole;
        few = omega (arith, l.few);
        each = λ i h. wider (l.each i h);
        ascending = l.ascending;
        place =
            λ w a b p.
            ⊎_elim (λ q. absurd (let z : length (held s w) ≡ 0 = ap length (ap (held s) (sym q) ∙ e) in omega (arith, p.whole)))
            (λ m. l.place w m (omega arith) p) (eq-or-lt_of_le {n = v} {m = w} a);
      }

  -- A user whose record stands in front.
  module _ (list : List ℕ) (p : Proper N v (held s v)) (l : Listing N s (suc v) k list) where
    front : record_at (held s v ++ list) 0 ≡ held s v
    front = part_front size (held s v) list p.whole

    behind : (i : ℕ) → record_at (held s v ++ list) (suc i) ≡ record_at list i
    behind i = part_behind size (held s v) list i p.whole

    one_more : records (held s v ++ list) ≡ suc (records list)
    one_more = simp length-append (omega (arith, p.whole))

    front_listed : Listed N s v (suc k) (held s v)
    front_listed =
        record {
          from = omega (arith, p.owned);
          within = omega (arith, p.owned);
          proper = rw p.owned p;
          is_held = ap (held s) (sym p.owned);
        }

    each_more : (i : ℕ) → i < records (held s v ++ list) → Listed N s v (suc k) (record_at (held s v ++ list) i)
    each_more zero h = rw front front_listed
    each_more (suc i) h = rw (behind i) (wider (l.each i (omega (arith, one_more))))

    ascending_more :
        (i : ℕ) → suc i < records (held s v ++ list) →
        owner (record_at (held s v ++ list) i) < owner (record_at (held s v ++ list) (suc i))
    ascending_more zero h =
        rw (front, behind 0) (omega (arith, p.owned, (l.each 0 (omega (arith, one_more))).from))
    ascending_more (suc i) h = rw (behind i, behind (suc i)) (l.ascending i (omega (arith, one_more)))

    place_more :
        (w : ℕ) → v ≤ w → w < v + suc k → Proper N w (held s w) →
        (i : ℕ) × (i < records (held s v ++ list)) × (record_at (held s v ++ list) i ≡ held s w)
    place_more w a b q =
        ⊎_elim (λ e. (0, omega (arith, one_more), front ∙ ap (held s) e))
        (λ m.
        let r = l.place w m (omega arith) q in (suc r.0, omega (arith, one_more, r.1), behind r.0 ∙ r.2))
        (eq-or-lt_of_le {n = v} {m = w} a)

    put_front : Listing N s v (suc k) (held s v ++ list)
    put_front =
        record {
          whole = simp length-append (omega (arith, p.whole, l.whole));
          few = omega (arith, one_more, l.few, p.owned, p.formed.owner_below);
          each = each_more;
          ascending = ascending_more;
          place = place_more;
        }

module _ (N : ℕ) (s : Server) (kept : (v : ℕ) → v < 16 → Kept N v (held s v)) where
  pub listing_from : (v k : ℕ) → v + k ≤ 16 → Listing N s v k (held_from s v k)
  unfolding held_from
  listing_from v zero h =
      record {
        whole = refl;
        few = omega arith;
        each = λ i l. absurd (omega arith);
        ascending = λ i l. absurd (omega arith);
        place = λ w a b p. absurd (omega arith);
      }
  listing_from v (suc k) h =
      let l : Listing N s (suc v) k (held_from s (suc v) k) = listing_from (suc v) k (omega arith) in
      ⊎_elim (λ e. rw e (pass_by N s v k e l)) (λ p. put_front N s v k (held_from s (suc v) k) p l) (kept v (omega arith))

  -- The list's entry for a user is the record held of it.
  module _ (v k : ℕ) (list : List ℕ) (l : Listing N s v k list) (h : v + k ≤ 16) (w : ℕ) (a : v ≤ w) (b : w < v + k) where
    entry_none : held s w ≡ [] → entry list w ≡ []
    unfolding entry
    entry_none e =
        rw
        (find_none (λ i. eqb (owner (record_at list i)) w) 0 (records list)
        (λ i _ m.
        let r = l.each i (omega arith) in
        ne_eqb (owner (record_at list i)) w
        (λ q.
        let z : length (record_at list i) ≡ 0 = ap length (r.is_held ∙ (ap (held s) q ∙ e)) in omega (arith, r.proper.whole))))
        (part_past size list (0 + records list) (omega (arith, l.whole)))

    entry_some : Proper N w (held s w) → entry list w ≡ held s w
    unfolding entry
    entry_some p =
        let of-w : ℕ → Bool = λ i. eqb (owner (record_at list i)) w in
        let r : ℕ = find of-w 0 (records list) in
        let f : Found of-w 0 (records list) r = found of-w 0 (records list) in
        let q = l.place w a b p in
        let here : of-w q.0 ≡ true = eq-eqb (owner (record_at list q.0)) w (ap owner q.2 ∙ p.owned) in
        let m : r < records list =
        elim (dec_lt r (records list)) [ yes m ↦ m | no g ↦ absurd (not_both here (f.before q.0 (omega arith) (omega (arith, q.1)))) ]
        in
        (l.each r m).is_held ∙ ap (held s) (eqb-true (owner (record_at list r)) w (f.hit (omega arith)))

    pub entry_held : entry list w ≡ held s w
    entry_held = ⊎_elim (λ e. entry_none e ∙ sym e) entry_some (kept w (omega arith))

-- Each record of the list is well placed.
pub listing_placed :
    {N : ℕ} {s : Server} {v k : ℕ} {list : List ℕ} → Listing N s v k list → (i : ℕ) → i < records list → WellPlaced N list i
listing_placed {N} {s} {v} {k} {list} l i h = ((l.each i h).proper.formed, above i h)
  where
    above : (j : ℕ) → j < records list → 0 < j → owner (record_at list (j - 1)) < owner (record_at list j)
    above zero m z = absurd (omega arith)
    above (suc j) m z = let e : suc j - 1 ≡ j = omega arith in rw e (l.ascending j m)
