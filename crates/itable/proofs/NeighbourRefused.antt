-- The request's case. The root leads on along its last slot to the neighbour, which has not the number; and along its first to the leaf, whose
-- second number is not below that in the root's second slot, so that BoundRefused applies.
use Prim.Native.Nat.{ℕ, ◌+◌, ◌-◌, ◌*◌, ◌≤◌, ◌<◌}
use mathlib.Core.Bool.{Bool, true, false, cond}
use mathlib.Core.List.{List, [], ◌∷◌, ◌++◌, append-nil}
use mathlib.Core.Logic.{inl}
use mathlib.Core.Path.{◌≡◌, refl, sym, ap, ◌∙◌}
use native.Mathlib.Omega.{arith}
use lib.Dec.{eqb}
use lib.ListN.{length, replicate, length-append, length-replicate}
use Rattle.layout.specs.Bytes.{part}
use Rattle.layout.proofs.Parts.{part_front, part_at, length_of_part}
use Rattle.refusal.specs.Answer.{accepted, refused}
use Rattle.sha256.specs.Sha256.{sha256}
use Rattle.sha256.proofs.Laws.{sha256_length}
use Rattle.itable.specs.Block.{size, kind, used, number, value, to_root, to_child}
use Rattle.itable.specs.Table.{Level, files, block}
use Rattle.itable.specs.Lookup.{absent, lookup}
use Rattle.itable.specs.LookupMeaning.{Sizes, WellFormed, Passes, Leads, not_in_leaf, ends, leads}
use Rattle.itable.specs.Bounds.{at_root, bounded}
use Rattle.itable.specs.Neighbour.{leaf, neighbour, over, root, NeighbourRefused}
use Rattle.itable.proofs.Block.{Sized, to_block, length_block, number_block, value_block, kind_block, used_block}
use Rattle.itable.proofs.BlockBound.{last_hands_down}
use Rattle.itable.proofs.BlockMeaning.{formed_means}
use Rattle.itable.proofs.Form.{root_form, child_form}
use Rattle.itable.proofs.LookupMeans.{lookup_means}
use Rattle.itable.proofs.Bounds.{bound_refused}

over_sized : Sized over
over_sized j h = go (eqb j 0)
  where
    go : (b : Bool) → length (cond b (sha256 leaf) (sha256 neighbour)) ≡ 32
    go true = sha256_length leaf
    go false = sha256_length neighbour

root_long : length root ≡ 642
root_long = length_block over over_sized 4 0 (omega arith)

root_number : (j : ℕ) → j < 2 → number root j ≡ j
root_number j h = number_block over over_sized 4 0 (omega arith) j (omega arith) ∙ omega arith

-- The root, with a block below it.
module _ (b : List ℕ) (long : length b ≡ 642) where
  abbrev path : List ℕ
  path = root ++ b

  path_long : length path ≡ 1284
  path_long = simp (length-append, root_long, long)

  first_block : part size path 0 ≡ root
  first_block = part_front size root b root_long

  second_block : part size path 1 ≡ b
  second_block = ap (λ z. part size (root ++ z) 1) (sym (append-nil b)) ∙ part_at size root b [] 1 root_long long

  sizes : Sizes (sha256 root) path
  sizes =
      record {
        handle_long = sha256_length root;
        whole = omega (arith, path_long);
        some = omega (arith, path_long);
        few = omega (arith, path_long);
      }

  passes : Passes path 0 (to_root (sha256 root))
  passes =
      record {
        there = omega (arith, path_long);
        hashed = ap sha256 first_block;
        formed =
            rw first_block
            ((formed_means (to_root (sha256 root)) root).0
            (root_form over over_sized 4 0 (omega arith) (sha256 root) (λ j h. omega arith) (omega arith) (omega arith) refl));
      }

  -- Slot j leads on, where i is its number or above all.
  leads_on : (i j : ℕ) → j < 2 → j ≤ i → ((m : ℕ) → j < m → m < 2 → i < m) → Leads (part size path 0) i j
  leads_on i j h l f =
      rw first_block
      (record {
        inner = λ e. omega (arith, kind_block 4 over 0);
        is_used = omega (arith, used_block 4 over 0);
        at_most = omega (arith, root_number j h);
        last = λ m a u. let x : m < 2 = omega (arith, used_block 4 over 0) in omega (arith, root_number m x, f m a x);
      })

  second_hashed : (j : ℕ) → j < 2 → over.value (16 * 0 + j) ≡ sha256 b → sha256 (part size path 1) ≡ value (part size path 0) j
  second_hashed j h e =
      rw (second_block, first_block) (sym (value_block over over_sized 4 0 (omega arith) j (omega arith) ∙ e))

-- A leaf of up to two files.
module _ (nums : List ℕ) (few : length nums ≤ 2) where
  abbrev held : Level
  held = files nums (replicate (32 * length nums) 0)

  held_sized : Sized held
  unfolding files
  held_sized j h = length_of_part 32 (replicate (32 * length nums) 0) j (omega (arith, length-replicate {A = ℕ} (32 * length nums) 0))

  held_long : length (block 3 held 0) ≡ 642
  held_long = length_block held held_sized 3 0 (omega arith)

  held_number : (j : ℕ) → j < length nums → number (block 3 held 0) j ≡ held.number (16 * 0 + j)
  unfolding files
  held_number j h = number_block held held_sized 3 0 (omega arith) j (omega arith)

-- The second slot leads to the neighbour, which has no file 2.
to_neighbour : to_child (to_root (sha256 root)) root 1 ≡ to_block 3 (held (1 ∷ []) (omega arith)) 0 0
unfolding files
to_neighbour =
    let due : kind root - 1 ≡ 3 = omega (arith, kind_block 4 over 0) in
    let last : used root ≤ 2 = omega (arith, used_block 4 over 0) in
    rw (
      due,
      root_number 1 (omega arith),
      last_hands_down 0 root 1 last,
      value_block over over_sized 4 0 (omega arith) 1 (omega arith),
    )

neighbour_formed : WellFormed (to_block 3 (held (1 ∷ []) (omega arith)) 0 0) neighbour
unfolding files
neighbour_formed =
    let L : Level = held (1 ∷ []) (omega arith) in
    (formed_means (to_block 3 L 0 0) neighbour).0
    (child_form L (held_sized (1 ∷ []) (omega arith)) 3 0 (omega arith) (λ j h. absurd (omega arith)) (omega arith) (omega arith) 0 (inl refl))

none_is_two : (j : ℕ) → j < used neighbour → number neighbour j ≡ 2 → ⊥
unfolding files
none_is_two j h e =
    let z : j ≡ 0 = omega (arith, used_block 3 (held (1 ∷ []) (omega arith)) 0) in
    omega (arith, held_number (1 ∷ []) (omega arith) 0 (omega arith), rw z at e)

denied : lookup (sha256 root) 2 (root ++ neighbour) ≡ accepted absent
denied =
    let long : length neighbour ≡ 642 = held_long (1 ∷ []) (omega arith) in
    let first : part size (root ++ neighbour) 0 ≡ root = first_block neighbour long in
    let second : part size (root ++ neighbour) 1 ≡ neighbour = second_block neighbour long in
    ((lookup_means (sha256 root) 2 (root ++ neighbour)).0 absent).1 (
      sizes neighbour long,
      leads 1 (passes neighbour long)
          (leads_on neighbour long 2 1 (omega arith) (omega arith) (λ m a h. absurd (omega arith)))
          (ends
          (record {
            there = omega (arith, path_long neighbour long);
            hashed = second_hashed neighbour long 1 (omega arith) refl;
            formed = rw (first, second, to_neighbour) neighbour_formed;
          })
          (rw second (not_in_leaf (kind_block 3 _ 0) none_is_two)) (omega (arith, path_long neighbour long))),
    )

-- The first slot leads to the leaf, whose second number is 2, and in the next slot is 1.
refused_leaf : lookup (sha256 root) 0 (root ++ leaf) ≡ refused 3 1 0
unfolding files
refused_leaf =
    let long : length leaf ≡ 642 = held_long (0 ∷ 2 ∷ []) (omega arith) in
    let first : part size (root ++ leaf) 0 ≡ root = first_block leaf long in
    let second : part size (root ++ leaf) 1 ≡ leaf = second_block leaf long in
    bound_refused (sha256 root) 0 (root ++ leaf) 1 _ _ (sizes leaf long)
    (bounded 0 at_root (passes leaf long) (leads_on leaf long 0 0 (omega arith) (omega arith) (λ m a h. a))
    (rw first (omega (arith, used_block 4 over 0))))
    (omega (arith, path_long leaf long)) (second_hashed leaf long 0 (omega arith) refl) 1
    (rw second (omega (arith, used_block 3 (held (0 ∷ 2 ∷ []) (omega arith)) 0)))
    (rw (first, second)
    (λ p. omega (arith, p.0, held_number (0 ∷ 2 ∷ []) (omega arith) 1 (omega arith), root_number 1 (omega arith))))

pub neighbour_refused : NeighbourRefused
neighbour_refused = (denied, refused_leaf)
