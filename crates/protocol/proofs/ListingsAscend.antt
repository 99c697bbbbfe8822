-- A server's list that was made and committed to lists the held records, owners ascending. The invariant: what is held of a user is none or
-- that user's own, well formed.
use Prim.Native.Nat.{ℕ, ◌<◌}
use mathlib.Core.List.{List}
use mathlib.Core.Logic.{inl, inr}
use mathlib.Core.Path.{◌≡◌, refl, ◌∙◌}
use native.Mathlib.Omega.{arith}
use lib.ListN.{length}
use Rattle.refusal.proofs.Run.{always, by_answer}
use Rattle.protocol.specs.declared.Server.{Server}
use Rattle.protocol.specs.List.{entry}
use Rattle.protocol.specs.Server.{held, all_held, replaced, commit}
use Rattle.protocol.specs.Commits.{ServerCall, list, commit_of, leaves, server_after}
use Rattle.protocol.specs.Listings.{ListingsAscend}
use Rattle.protocol.specs.Steady.{Kept}
use Rattle.protocol.proofs.Conditions.{well_formed_means}
use Rattle.protocol.proofs.Held.{held_slot, held_none, held_empty, empty_length, made_empty, now_or_still}
use Rattle.protocol.proofs.Commit.{committed, call_length}
use Rattle.protocol.proofs.Listing.{Listing, listing_from, listing_placed, entry_held}

-- What is held of each user is none or its own, in a list of its full length.
abbrev Sound : Server → Type 0
Sound s = (length s.records ≡ 1568) × ((v : ℕ) → v < 16 → Kept s.users v (held s v))

call_sound : (s : Server) (c : ServerCall) → Sound s → Sound (leaves s c)
unfolding replaced
call_sound s (list buffer) g = g
call_sound s (commit_of x mark) g = (
  call_length s (commit_of x mark) g.0,
  by_answer (λ n t. (v : ℕ) → v < 16 → Kept t.users v (held t v)) (commit s x mark)
      (λ t e.
      let c = committed s x mark t e in
      let f = (well_formed_means s.users x).0 c.formed in
      rw c.result
      (now_or_still s x g.0 c.whole c.owned f.own_counted (λ v y. v < 16 → Kept s.users v y)
      (λ l. inr (record { whole = c.whole; owned = refl; formed = f })) (λ v n l. g.1 v l)))
      g.1,
)

after_sound : (N : ℕ) (calls : List ServerCall) → Sound (server_after N calls)
after_sound N =
    let m = made_empty N in always Sound (rw m.1 (empty_length m.0, λ v l. inl (held_empty m.0 v l))) call_sound

pub listings_ascend : ListingsAscend
listings_ascend N calls =
    let s : Server = server_after N calls in
    let kept = (after_sound N calls).1 in
    let l : Listing s.users s 0 16 (all_held s) = listing_from s.users s kept 0 16 (omega arith) in
    let entry-is : (v : ℕ) → v < 16 → entry (all_held s) v ≡ held s v =
    λ v h. entry_held s.users s kept 0 16 (all_held s) l (omega arith) v (omega arith) h
    in
    record {
      whole = l.whole;
      placed = listing_placed l;
      entries = λ v h y w. entry-is v h ∙ (held_slot s v (λ e. w.1 (rw w.0 at e)) ∙ w.0);
      no_others = λ v h e. entry-is v h ∙ held_none s v e;
    }
