-- The bounds on the way to a block: "every number in a child must also be below the number in the next used slot, and below any such bound handed
-- down from above". The definitions carry one bound, the nearest; here are all of them.
use Rattle.std.specs.Prelude.{ℕ, suc, ◌≤◌, ◌<◌, List, [], ◌∷◌, ◌↔◌, ◌≡◌}
use Rattle.layout.specs.Bytes.{part, parts}
use Rattle.refusal.specs.Answer.{accepted, refused}
use Rattle.sha256.specs.Sha256.{sha256}
use Rattle.itable.specs.Block.{size, used, number, to_root, to_child}
use Rattle.itable.specs.declared.Link.{Link}
use Rattle.itable.specs.Lookup.{Entry, lookup}
use Rattle.itable.specs.LookupMeaning.{Sizes, Passes, Leads}

-- The lookup of i comes to block d of the path along k, and these are all bounds on the way there, the nearest first: of each block that is passed
-- the number in the slot after the one that leads on, where that slot is used.
pub data Way (handle : List ℕ) (i : ℕ) (path : List ℕ) : ℕ → Link → List ℕ → Type 0 where
  at_root : Way handle i path 0 (to_root handle) []
  bounded :
      {d : ℕ} {k : Link} {bounds : List ℕ} (j : ℕ) → Way handle i path d k bounds → Passes path d k → Leads (part size path d) i j →
      suc j < used (part size path d) →
      Way handle i path (suc d) (to_child k (part size path d) j) (number (part size path d) (suc j) ∷ bounds)
  at_last :
      {d : ℕ} {k : Link} {bounds : List ℕ} (j : ℕ) → Way handle i path d k bounds → Passes path d k → Leads (part size path d) i j →
      used (part size path d) ≤ suc j → Way handle i path (suc d) (to_child k (part size path d) j) bounds

-- n is below every one of the bounds.
abbrev pub BelowAll : ℕ → List ℕ → Type 0
BelowAll n [] = Unit
BelowAll n (x ∷ xs) = (n < x) × BelowAll n xs

-- "None" is written 0: no bound on the way is 0, and the one that is carried is 0 exactly where there is none.
abbrev pub BoundPositive : Type 0
BoundPositive =
    (handle : List ℕ) (i : ℕ) (path : List ℕ) (d : ℕ) (k : Link) (bounds : List ℕ) → Way handle i path d k bounds →
    BelowAll 0 bounds × ((k.bound ≡ 0) ↔ (bounds ≡ []))

-- The nearest bound is the one that is carried, and it is the least: what is below it is below every bound on the way.
abbrev pub nearest : List ℕ → ℕ
nearest [] = 0
nearest (x ∷ xs) = x

abbrev pub NearestLeast : Type 0
NearestLeast =
    (handle : List ℕ) (i : ℕ) (path : List ℕ) (d : ℕ) (k : Link) (bounds : List ℕ) → Way handle i path d k bounds →
    (k.bound ≡ nearest bounds) × ((n : ℕ) → ((k.bound ≡ 0 → ⊥) → n < k.bound) ↔ BelowAll n bounds)

-- In an accepted lookup every number of each block is below every bound on the way there.
pub record Kept (handle : List ℕ) (i : ℕ) (path : List ℕ) (d : ℕ) : Type 0 where
  pub k : Link
  pub bounds : List ℕ
  pub way : Way handle i path d k bounds
  pub below : (j : ℕ) → j < used (part size path d) → BelowAll (number (part size path d) j) bounds

abbrev pub BoundsKept : Type 0
BoundsKept =
    (handle : List ℕ) (i : ℕ) (path : List ℕ) (e : Entry) → lookup handle i path ≡ accepted e →
    (d : ℕ) → d < parts size path → Kept handle i path d

-- "3 is given for this too, in its old place, with the child's index": a block that the lookup comes to, of the right hash, that has a number not
-- below every bound on the way.
abbrev pub BoundRefused : Type 0
BoundRefused =
    (handle : List ℕ) (i : ℕ) (path : List ℕ) (d : ℕ) (k : Link) (bounds : List ℕ) → Sizes handle path →
    Way handle i path d k bounds → d < parts size path → sha256 (part size path d) ≡ k.hash →
    (j : ℕ) → j < used (part size path d) → (BelowAll (number (part size path d) j) bounds → ⊥) →
    lookup handle i path ≡ refused 3 d 0
