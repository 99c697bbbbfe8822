-- What a search of a block's slots from the last one down gives: the last place at which a test holds.
use Prim.Native.Nat.{ℕ, zero, suc, ◌+◌, ◌-◌, ◌<◌}
use mathlib.Core.Bool.{Bool, true, false}
use mathlib.Core.List.{List, [], ◌∷◌}
use mathlib.Core.Path.{◌≡◌, refl, ap, ◌∙◌}
use native.Mathlib.Numerals.{add-one}
use native.Mathlib.Omega.{arith}
use lib.Dec.{leb}
use Rattle.std.specs.Prelude.{Option, None, Some, MatchOption}
use Rattle.itable.specs.Lookup.{last_at_most}
use Rattle.block.specs.Place.{one_more}
use Rattle.std.specs.declared.iter.Rev.{Rev}
use Rattle.std.specs.declared.ops.Range.{Range}
use Rattle.std.specs.Iterator.Adapters.{rev_source, rev_steps}
use Rattle.std.specs.List.{find}
use Rattle.std.specs.Option.{option_map}
use Rattle.std.proofs.lemmas.Iterator.{YieldsList}
use Rattle.std.proofs.lemmas.Iterator.Consumers.{YieldsList-from_shown}

-- The n numbers from a on, the greatest first: what a range gives from its end.
abbrev pub down : ℕ → ℕ → List ℕ
down a zero = []
down a (suc n) = (a + n) ∷ down a n

abbrev pub back : Range ℕ → Option ℕ → Range ℕ → Type 0
back s r t = (t.start ≡ s.start) × MatchOption r ((s.end - s.start ≡ 0) × (t.end ≡ s.end)) (λ x. (0 < s.end - s.start) × (x ≡ t.end) × (s.end ≡ t.end + 1))

next_down : (a n m x : ℕ) → n ≡ suc m → x ≡ a + m → down a n ≡ x ∷ down a m
next_down a n m x e f = rw (e, f)

pub gives_down : (s : Rev (Range ℕ)) → YieldsList (rev_steps back) (λ x. x) s (down (rev_source s).start ((rev_source s).end - (rev_source s).start))
gives_down =
    YieldsList-from_shown (rev_steps back) (λ x. x) (λ s. down (rev_source s).start ((rev_source s).end - (rev_source s).start))
    (λ s t p. rw p.1.0)
    (λ s x t p. rw p.0 (next_down _ _ _ x (omega (arith, p.0, p.1.0, p.1.2)) (omega (arith, p.0, p.1))))

-- The last of the first n numbers that is at most i, as `find` from the end on says it.
module _ (f : ℕ → ℕ) (i : ℕ) where
  found_by : (n : ℕ) (b : Bool) → leb (f n) i ≡ b → one_more (find (λ j. leb (f j) i) (down 0 n)) ≡ last_at_most f i n →
      one_more (find (λ j. leb (f j) i) (down 0 (suc n))) ≡ last_at_most f i (suc n)
  unfolding last_at_most
  found_by n true e h = let z : 0 + n ≡ n = omega arith in rw (z, e) (add-one n)
  found_by n false e h = let z : 0 + n ≡ n = omega arith in rw (z, e) h

  found : (n : ℕ) → one_more (find (λ j. leb (f j) i) (down 0 n)) ≡ last_at_most f i n
  unfolding last_at_most
  found zero = refl
  found (suc n) = found_by n _ refl (found n)

  same : (n : ℕ) (o : Option ℕ) → option_map (λ x. x) o ≡ find (λ j. leb (f j) i) (down 0 n) → one_more o ≡ last_at_most f i n
  same n None h = ap one_more h ∙ found n
  same n (Some x) h = ap one_more h ∙ found n

  pub last_is : (r : Rev (Range ℕ)) {u n : ℕ} → rev_source r ≡ record { start = 0; end = u } → u ≡ n → (o : Option ℕ) →
      option_map (λ x. x) o ≡ find (λ j. leb (f j) i) (down (rev_source r).start ((rev_source r).end - (rev_source r).start)) → one_more o ≡ last_at_most f i n
  last_is r {u} {n} d e o h =
      let q : down (rev_source r).start ((rev_source r).end - (rev_source r).start) ≡ down 0 n = rw d (ap (down 0) (omega arith)) in
      same n o (h ∙ ap (find (λ j. leb (f j) i)) q)
