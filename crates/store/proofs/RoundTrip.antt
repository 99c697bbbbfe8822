-- A block is stored, retrieved, shared and given back: of a made store, where every place is free, place 0 takes it, each call changes one count of
-- that place by one and nothing else, and at the end the sum of counts is 0 again.
use Prim.Native.Nat.{ℕ, ◌+◌, ◌≤◌, ◌<◌}
use mathlib.Core.List.{List}
use mathlib.Core.Path.{◌≡◌, refl, sym, subst, ap, ◌∙◌}
use native.Mathlib.Omega.{arith}
use lib.ListN.{length}
use Rattle.refusal.specs.Answer.{accepted}
use Rattle.sha256.specs.Sha256.{sha256}
use Rattle.sha256.proofs.Laws.{sha256_length}
use Rattle.store.specs.Place.{place, made, count, block_in, with_block, with_place, recount}
use Rattle.store.specs.Calls.{store}
use Rattle.store.specs.Meaning.{Free, Lowest, LowestHolder, NotHeld}
use Rattle.store.specs.Runs.{counts_of, references}
use Rattle.store.specs.RoundTrip.{Trip, RoundTrip}
use Rattle.store.proofs.Lowest.{not_free, holder_at, no_holder, free_at}
use Rattle.store.proofs.Sum.{sum_at}
use Rattle.store.proofs.Kept.{Sound, OneMore, made_sound, made_free, holds_there}
use Rattle.store.proofs.OneCount.{recount_sound, recount_more, recount_less, block_kept, filled_sound, filled_more, block_new}
use Rattle.store.proofs.Accepted.{stores_again, stores_anew, unreferences}
use Rattle.store.proofs.After.{reference_more}
use Rattle.store.proofs.StoredIsRetrieved.{stored_is_retrieved}
use Rattle.store.proofs.ReferencesCounted.{made_counts}

-- Where every place is free, nothing is held, and place 0 is the lowest.
module _ (s : List ℕ) (all : (p : ℕ) → p < 64 → Free (place s p)) where
  nothing_held : (hash : List ℕ) → NotHeld s hash
  nothing_held hash p l held = not_free (place s p) held.counted (all p l)

  lowest_free : Lowest (λ p. Free (place s p)) 0
  lowest_free = record { within = omega arith; here = all 0 (omega arith); none_below = λ q l f. omega arith }

module _ (u w : ℕ) (b : List ℕ) (hu : u < 16) (hw : w < 16) (ne : u ≡ w → ⊥) (lb : length b ≤ 8192) where
  first : 0 < 64
  first = omega arith

  -- The stores, each of which is sound, and what each call changes.
  abbrev alone : List ℕ
  alone = with_place made 0 (with_block (place made 0) u b)

  alone_sound : Sound alone
  alone_sound = filled_sound made made_sound 0 first u hu b lb

  to_alone : OneMore 0 u made alone
  to_alone = filled_more made made_sound 0 first u hu b lb (made_free 0 first u hu)

  abbrev shared : List ℕ
  shared = recount alone 0 w (count (place alone 0) w + 1)

  shared_sound : Sound shared
  shared_sound = recount_sound alone alone_sound 0 first w hw (count (place alone 0) w + 1)

  to_shared : OneMore 0 w alone shared
  to_shared = recount_more alone alone_sound 0 first w hw (count (place alone 0) w + 1) refl

  counts_u : count (place shared 0) u ≡ 1
  counts_u = to_shared.other_users u hu ne ∙ omega (arith, to_alone.more, made_free 0 first u hu)

  none_yet : count (place alone 0) w ≡ 0
  none_yet = to_alone.other_users w hw (λ e. ne (sym e)) ∙ made_free 0 first w hw

  counts_w : count (place shared 0) w ≡ 1
  counts_w = omega (arith, to_shared.more, none_yet)

  abbrev left : List ℕ
  left = recount shared 0 u 0

  left_sound : Sound left
  left_sound = recount_sound shared shared_sound 0 first u hu 0

  to_left : OneMore 0 u left shared
  to_left = recount_less shared shared_sound 0 first u hu 0 counts_u

  counts_left_is : count (place left 0) w ≡ 1
  counts_left_is = sym (to_left.other_users w hw (λ e. ne (sym e))) ∙ counts_w

  abbrev empty : List ℕ
  empty = recount left 0 w 0

  to_empty : OneMore 0 w empty left
  to_empty = recount_less left left_sound 0 first w hw 0 counts_left_is

  -- The block is the same in each.
  block_alone : block_in (place alone 0) ≡ b
  block_alone = block_new made made_sound 0 first u hu b lb

  block_shared : block_in (place shared 0) ≡ b
  block_shared = block_kept alone alone_sound 0 first w hw (count (place alone 0) w + 1) ∙ block_alone

  block_left : block_in (place left 0) ≡ b
  block_left = block_kept shared shared_sound 0 first u hu 0 ∙ block_shared

  -- So each holds its hash at place 0.
  holds_first : {v : ℕ} {s t : List ℕ} → OneMore 0 v s t → block_in (place t 0) ≡ b → LowestHolder t (sha256 b) 0
  holds_first m e = holds_there m (sha256 b) (ap sha256 e) (λ q l held. omega arith)

  holds_alone : LowestHolder alone (sha256 b) 0
  holds_alone = holds_first to_alone block_alone

  holds_shared : LowestHolder shared (sha256 b) 0
  holds_shared = holds_first to_shared block_shared

  holds_left : LowestHolder left (sha256 b) 0
  holds_left = holds_first to_empty block_left

  -- Place 1 stays free as it was made, and at the end nobody counts any place.
  second_free : Lowest (λ p. Free (place shared p)) 1
  second_free =
      let kept : place shared 1 ≡ place made 1 = to_shared.other_places 1 (λ e. omega arith) ∙ to_alone.other_places 1 (λ e. omega arith) in
      record {
        within = omega arith;
        here = subst Free (sym kept) (made_free 1 (omega arith));
        none_below = λ q l f. let z : q ≡ 0 = omega arith in omega (arith, rw z at (f u hu), counts_u);
      }

  all_free : (p : ℕ) → p < 64 → Free (place empty p)
  all_free p l v h =
      let none : references empty ≡ 0 =
      omega (
        arith,
        made_counts,
        reference_more to_alone,
        reference_more to_shared,
        reference_more to_left,
        reference_more to_empty,
      ) in
      sum_at (count (place empty p)) 16 (sum_at (λ q. counts_of (place empty q)) 64 none p l) v h

  stores_first : store made u b ≡ accepted alone
  stores_first =
      stores_anew made made_sound u (omega arith) b lb 0 (nothing_held made made_free (sha256 b)) (lowest_free made made_free)

  trip : Trip u w b
  trip =
      let hash : List ℕ = sha256 b in
      let long : length hash ≡ 32 = sha256_length b in
      record {
        alone = alone;
        shared = shared;
        left = left;
        empty = empty;
        stores = stores_first;
        lowest = holder_at alone hash holds_alone;
        retrieves = λ room k. stored_is_retrieved.anew made u b alone room stores_first (nothing_held made made_free hash) k;
        shares = stores_again alone alone_sound w (omega arith) b lb 0 holds_alone (λ e. omega (arith, none_yet));
        still_lowest = holder_at shared hash holds_shared;
        counts_first = counts_u;
        counts_second = counts_w;
        next_free = free_at shared second_free;
        takes = unreferences shared shared_sound hash long 0 holds_shared u 0 (omega arith) counts_u;
        takes_again = unreferences left left_sound hash long 0 holds_left w 0 (omega arith) counts_left_is;
        holds_nothing = λ other. no_holder empty other (nothing_held empty all_free other);
        first_again = free_at empty (lowest_free empty all_free);
      }

pub round_trip : RoundTrip
round_trip u w b hu hw ne lb = trip u w b (omega arith) (omega arith) ne lb
