-- Laws of a commit to the server's list: what an accepted one was given, and that no call changes the list's 1,568 bytes in number.
use Prim.Native.Nat.{ℕ, ◌+◌, ◌<◌}
use mathlib.Core.Bool.{true}
use mathlib.Core.List.{List}
use mathlib.Core.Path.{◌≡◌}
use lib.Dec.{eqb}
use lib.ListN.{length}
use borrow.Author.Tests.{eqb-true}
use Rattle.refusal.specs.Answer.{accepted}
use Rattle.refusal.proofs.Order.{passed, unless_passed}
use Rattle.refusal.proofs.Run.{always, by_answer}
use Rattle.protocol.specs.declared.Server.{Server}
use Rattle.protocol.specs.Version.{size, owner, own, well_formed}
use Rattle.protocol.specs.Server.{held_own, replaced, commit_steps, commit}
use Rattle.protocol.specs.Commits.{ServerCall, list, commit_of, leaves, server_after}
use Rattle.protocol.proofs.Conditions.{owner_below}
use Rattle.protocol.proofs.Held.{empty_length, made_empty, replaced_length}

-- What an accepted commit was given.
pub record Committed (s : Server) (x : List ℕ) (t : Server) : Type 0 where
  pub whole : length x ≡ size
  pub owned : owner x < 16
  pub formed : well_formed s.users x ≡ true
  pub next_own : own x ≡ held_own s (owner x) + 1
  pub result : t ≡ replaced s x

module _ (s : Server) (x : List ℕ) (mark : ℕ) where
  pub committed : (t : Server) → commit s x mark ≡ accepted t → Committed s x t
  unfolding commit commit_steps
  committed t e =
      let p = passed (commit_steps s x mark) e in
      let w : length x ≡ size = eqb-true (length x) size (unless_passed (eqb (length x) size) 2 0 0 p.0.0) in
      let f : well_formed s.users x ≡ true = unless_passed (well_formed s.users x) 3 0 0 p.0.1.0 in
      record {
        whole = w;
        owned = owner_below s.users x w f;
        formed = f;
        next_own =
            eqb-true (own x) (held_own s (owner x) + 1) (unless_passed (eqb (own x) (held_own s (owner x) + 1)) 5 0 0 p.0.1.1.1.0);
        result = cc p.1;
      }

pub call_length : (s : Server) (c : ServerCall) → length s.records ≡ 1568 → length (leaves s c).records ≡ 1568
call_length s (list buffer) long = long
call_length s (commit_of x mark) long =
    by_answer (λ n t. length t.records ≡ 1568) (commit s x mark)
    (λ t e. let c = committed s x mark t e in rw c.result (replaced_length s x long c.whole c.owned)) long

pub after_length : (N : ℕ) (calls : List ServerCall) → length (server_after N calls).records ≡ 1568
after_length N = let m = made_empty N in always (λ s. length s.records ≡ 1568) (rw m.1 (empty_length m.0)) call_length
