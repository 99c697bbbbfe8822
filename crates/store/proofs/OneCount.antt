-- What another count of one user, and a block for one, at one place do to a sound store: it stays sound, one count changes, and the block there is
-- the one that was there, or the new one.
use Prim.Native.Nat.{ℕ, ◌+◌, ◌≤◌, ◌<◌}
use mathlib.Core.List.{List}
use mathlib.Core.Path.{◌≡◌, ap, ◌∙◌}
use native.Mathlib.Omega.{arith}
use lib.ListN.{length}
use Rattle.store.specs.Place.{place_size, place, count, block_in, with_count, with_block, with_place, recount}
use Rattle.store.proofs.Places.{place_length, place_same}
use Rattle.store.proofs.Counts.{recount_length, count_same, count_other, recount_block_length, recount_block}
use Rattle.store.proofs.Counts.{filled_length, filled_block_length, filled_block, filled_count, filled_other}
use Rattle.store.proofs.Kept.{Sound, OneMore, still_sound, one_more, one_less}

module _ (s : List ℕ) (w : Sound s) (p : ℕ) (h : p < 64) (u : ℕ) (hu : u < 16) where
  abbrev x : List ℕ
  x = place s p

  lx : length x ≡ place_size
  lx = place_length s w.long p h

  module _ (n : ℕ) where
    abbrev y : List ℕ
    y = with_count x u n

    ly : length y ≡ place_size
    ly = recount_length x lx u hu n

    others : (v : ℕ) → v < 16 → (v ≡ u → ⊥) → count y v ≡ count x v
    others v l = count_other x lx u hu n v

    pub recount_sound : Sound (recount s p u n)
    recount_sound = still_sound s w p h y ly (omega (arith, recount_block_length x lx u hu n, w.fits p h))

    pub recount_more : n ≡ count (place s p) u + 1 → OneMore p u s (recount s p u n)
    recount_more e = one_more s w p h y ly u hu others (count_same x lx u hu n ∙ e)

    pub recount_less : count (place s p) u ≡ n + 1 → OneMore p u (recount s p u n) s
    recount_less e = one_less s w p h y ly u hu others (omega (arith, e, count_same x lx u hu n))

    pub block_kept : block_in (place (recount s p u n) p) ≡ block_in (place s p)
    block_kept = ap block_in (place_same s w.long p h y ly) ∙ recount_block x lx u hu n

  module _ (b : List ℕ) (lb : length b ≤ 8192) where
    abbrev z : List ℕ
    z = with_block x u b

    lz : length z ≡ place_size
    lz = filled_length x lx u hu b lb

    pub filled_sound : Sound (with_place s p (with_block (place s p) u b))
    filled_sound = still_sound s w p h z lz (omega (arith, filled_block_length x lx u hu b lb))

    pub filled_more : count (place s p) u ≡ 0 → OneMore p u s (with_place s p (with_block (place s p) u b))
    filled_more e = one_more s w p h z lz u hu (filled_other x lx u hu b lb) (omega (arith, e, filled_count x lx u hu b lb))

    pub block_new : block_in (place (with_place s p (with_block (place s p) u b)) p) ≡ b
    block_new = ap block_in (place_same s w.long p h z lz) ∙ filled_block x lx u hu b lb
