-- The bounds on the way to a block strictly ascend from the nearest on: each is a number of a block that the next one bounds, and not its first.
use Prim.Native.Nat.{ℕ, suc, ◌≤◌, ◌<◌}
use mathlib.Core.List.{List, [], ◌∷◌}
use mathlib.Core.Logic.{◌↔◌, ⊎_elim}
use mathlib.Core.Path.{◌≡◌, refl, ◌∙◌}
use native.Mathlib.Decide.{dec_le}
use native.Mathlib.Nat.{eq-or-lt_of_le}
use native.Mathlib.Omega.{arith}
use Rattle.layout.specs.Bytes.{part, parts}
use Rattle.itable.specs.Block.{size, used, number, to_root, to_child}
use Rattle.itable.specs.declared.Link.{Link}
use Rattle.itable.specs.Lookup.{Entry}
use Rattle.itable.specs.LookupMeaning.{WellFormed, Passes, Leads, Says, ends, leads, Fails, malformed, later, along}
use Rattle.itable.specs.Bounds.{Way, at_root, bounded, at_last, BelowAll, nearest, BoundPositive, NearestLeast, Kept, BoundsKept, BoundRefused}
use Rattle.itable.proofs.BlockBound.{next_bounds, last_hands_down}
use Rattle.itable.proofs.LookupMeans.{lookup_means}

-- A number in a slot that has one before it.
positive : {k : Link} {b : List ℕ} → WellFormed k b → (j : ℕ) → suc j < used b → 0 < number b (suc j)
positive w j h = let a = w.ascending j h in omega arith

zero_where_none : (bounds : List ℕ) → BelowAll 0 bounds → (nearest bounds ≡ 0) ↔ (bounds ≡ [])
zero_where_none [] p = (λ z. refl, λ z. refl)
zero_where_none (x ∷ xs) p = (λ z. absurd (omega (arith, p.0)), λ z. let y : ◌≡◌ {A = ℕ} 0 1 = cc in absurd (omega arith))

module _ (handle : List ℕ) (i : ℕ) (path : List ℕ) where
  carried : {d : ℕ} {k : Link} {bounds : List ℕ} → Way handle i path d k bounds → k.bound ≡ nearest bounds
  carried at_root = refl
  carried (bounded j way w l h) = next_bounds _ _ j h
  carried (at_last j way w l h) = last_hands_down _ _ j h ∙ carried way

  all_positive : {d : ℕ} {k : Link} {bounds : List ℕ} → Way handle i path d k bounds → BelowAll 0 bounds
  all_positive at_root = tt
  all_positive (bounded j way w l h) = (positive w.formed j h, all_positive way)
  all_positive (at_last j way w l h) = all_positive way

  least :
      {d : ℕ} {k : Link} {bounds : List ℕ} → Way handle i path d k bounds → (n : ℕ) →
      ((k.bound ≡ 0 → ⊥) → n < k.bound) ↔ BelowAll n bounds
  least at_root n = (λ f. tt, λ p z. absurd (z refl))
  least (bounded {d} {k} j way w l h) n =
      let e = next_bounds k.bound (part size path d) j h in
      let p = positive w.formed j h in (
        λ f.
            let x = f (λ z. omega arith) in
            (omega arith, (least way n).0 (λ z. omega (arith, w.formed.below z (suc j) h))),
        λ q z. omega (arith, q.0),
      )
  least (at_last {d} {k} j way w l h) n = rw (last_hands_down k.bound (part size path d) j h) (least way n)

  -- What fails after the way fails from the root on.
  fails_along : {d : ℕ} {k : Link} {bounds : List ℕ} {n p : ℕ} → Way handle i path d k bounds → Fails path i d k n p → Fails path i 0 (to_root handle) n p
  fails_along at_root f = f
  fails_along (bounded j way w l h) f = fails_along way (later j w l f)
  fails_along (at_last j way w l h) f = fails_along way (later j w l f)

  -- The way to the child along slot j.
  onward :
      (d : ℕ) (k : Link) (bounds : List ℕ) (j : ℕ) → Way handle i path d k bounds → Passes path d k → Leads (part size path d) i j →
      (more : List ℕ) × Way handle i path (suc d) (to_child k (part size path d) j) more
  onward d k bounds j way w l =
      elim (dec_le (used (part size path d)) (suc j)) [
        | yes h ↦ (bounds, at_last j way w l h)
        | no h ↦ (_, bounded j way w l (omega arith))
      ]

  kept_here : {d : ℕ} {k : Link} {bounds : List ℕ} → Way handle i path d k bounds → Passes path d k → Kept handle i path d
  kept_here {d} {k} {bounds} way w =
      record { k = k; bounds = bounds; way = way; below = λ j l. (least way (number (part size path d) j)).0 (λ n. w.formed.below n j l) }

  kept :
      (m d : ℕ) (k : Link) (bounds : List ℕ) (e : Entry) → d ≤ m → m < parts size path → Way handle i path d k bounds → Says path i d k e →
      Kept handle i path m
  kept m d k bounds e lo hi way (ends w f last) = let z : m ≡ d = omega arith in rw z (kept_here way w)
  kept m d k bounds e lo hi way (leads j w g says) =
      ⊎_elim (λ z. rw (← z) (kept_here way w))
      (λ below. let on = onward d k bounds j way w g in kept m (suc d) _ on.0 e below hi on.1 says)
      (eq-or-lt_of_le {n = d} {m = m} lo)

pub bounds_kept : BoundsKept
bounds_kept handle i path e h d hi =
    kept handle i path d 0 (to_root handle) [] e (omega arith) hi at_root (((lookup_means handle i path).0 e).0 h).1

pub bound_refused : BoundRefused
bound_refused handle i path d k bounds sizes way there hashed j l above =
    ((lookup_means handle i path).1 3 d 0).1
    (along sizes
    (fails_along handle i path way
    (malformed there hashed (λ w. above ((least handle i path way (number (part size path d) j)).0 (λ z. w.below z j l))))))

pub bound_positive : BoundPositive
bound_positive handle i path d k bounds way =
    let p = all_positive handle i path way in (p, rw (carried handle i path way) (zero_where_none bounds p))

pub nearest_least : NearestLeast
nearest_least handle i path d k bounds way = (carried handle i path way, least handle i path way)
