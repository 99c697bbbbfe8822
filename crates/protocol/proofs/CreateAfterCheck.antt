-- The making step takes what a check gave: the conditions that both judge hold, no entry is of a user beyond N, and the own count is the
-- next. What it accepts is well formed, since these are just the conditions of that.
use Prim.Native.Nat.{ℕ}
use mathlib.Core.Path.{◌≡◌, refl, ap, ◌∙◌}
use native.Mathlib.Omega.{arith}
use lib.ListN.{get_or, replicate, get_or-replicate}
use Rattle.protocol.specs.Version.{size, count}
use Rattle.protocol.specs.History.{Call, Making}
use Rattle.protocol.specs.Meaning.{new_counts}
use Rattle.protocol.specs.CreateMeaning.{structure_of}
use Rattle.protocol.specs.CreateAfterCheck.{CreateAfterCheck}
use Rattle.protocol.proofs.CheckMeans.{check_means}
use Rattle.protocol.proofs.NewMeans.{new_means}
use Rattle.protocol.proofs.CreateMeans.{create_means, is_next, next_is}
use Rattle.protocol.proofs.MadeMeans.{made_means, made_one_more}

pub create_after_check : CreateAfterCheck
create_after_check =
    record {
      accepts = λ N u mem list marks c handle e h.
          let call : Call = record { user = u; list = list; marks = marks } in
          let m : Making = record { user = u; counts = c; handle = handle; room = size } in
          let w = ((check_means N mem call).0 c).0 e in
          let is : c ≡ new_counts mem call = w.1 in
          let not_last = w.0.0.1 in
          let placed = w.0.0.0.0.0 in
          let sized = placed.0.0 in
          let new = new_means N mem call placed in
          ((create_means N mem m).0 (structure_of m)).1 (
            (
              (
                (
                  (
                    (sized.0, record { none_or_one = sized.1.none_or_one; sixteen = rw is new.sixteen; handle_long = h; answer_long = refl }),
                    placed.0.1,
                  ),
                  λ v a l. rw is (new.absent v l (λ q. omega (arith, sized.0.2)) (λ i k o. omega (arith, (placed.1 i k).0.owner_below))),
                ),
                not_last,
              ),
              next_is u mem c (rw is new.one_more),
            ),
            refl,
          );
      no_zeros = λ N u mem handle room x e.
          let m : Making = record { user = u; counts = replicate 16 0; handle = handle; room = room } in
          let a = (((create_means N mem m).0 x).0 e).0 in
          let users = a.0.0.0.0.0 in
          let none : ◌≡◌ {A = ℕ} (get_or (replicate 16 0) u 0) 0 = get_or-replicate {A = ℕ} 16 u 0 0 (omega (arith, users.1, users.2)) in
          omega (arith, is_next u mem (replicate 16 0) a.1);
      formed = λ N u mem counts handle room x e.
          let m : Making = record { user = u; counts = counts; handle = handle; room = room } in
          let a = (((create_means N mem m).0 x).0 e).0 in
          let users = a.0.0.0.0.0 in
          let made = made_means N mem m x e in (
            record {
              kind_one = made.kind_one;
              owner_below = omega (arith, made.owned, users.2);
              own_counted = λ z. omega (arith, made_one_more N mem m e, ap (count x) made.owned);
              others_zero = λ v b l. made.counted v l ∙ a.0.0.1 v b l;
            },
            made.owned,
          );
    }
