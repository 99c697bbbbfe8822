-- What is handed back has the wanted hash: so the lookup finds in it the hash that it expects, and it is not empty.
use Prim.Native.Nat.{ℕ, ◌≤◌}
use mathlib.Core.List.{List, []}
use mathlib.Core.Path.{◌≡◌, refl, ap, ◌∙◌}
use native.Mathlib.Omega.{arith}
use lib.ListN.{length}
use lib.Seq.{take-length}
use Rattle.layout.specs.Bytes.{part, parts}
use Rattle.refusal.specs.Answer.{Answer, accepted, refused, Refused}
use Rattle.sha256.specs.Sha256.{sha256}
use Rattle.sha256.proofs.Laws.{sha256_length}
use Rattle.itable.specs.Block.{size}
use Rattle.itable.specs.declared.Link.{Link}
use Rattle.itable.specs.LookupMeaning.{Fails, missing, wrong_hash, malformed, left_over, later, Why, lengths, along}
use Rattle.itable.proofs.LookupMeans.{lookup_means}
use Rattle.cache.specs.Choose.{Choice, from_reply, from_cache, choose, chosen, handed, handed_of}
use Rattle.cache.specs.ChooseMeaning.{Fits, Chosen, the_reply, the_cached, neither}
use Rattle.cache.specs.Handed.{ChosenIsPath, EmptyIsRefused, BlockChosen, EmptyNotThere}
use Rattle.cache.proofs.ChooseMeans.{choose_means}

module _ (wanted reply cached : List ℕ) where
  -- The part that is chosen fits, under a hash of 32 bytes.
  chosen_fits : {c : Choice} → Chosen wanted reply cached c → (length wanted ≡ 32) × Fits wanted (chosen c reply cached)
  chosen_fits (the_reply s f) = (s.wanted_long, f)
  chosen_fits (the_cached s g f) = (s.wanted_long, f)

  -- What is handed back fits, unless it is empty.
  handed_fits :
      (x : Answer Choice) → choose wanted reply cached ≡ x → (handed x reply cached ≡ [] → ⊥) →
      (length wanted ≡ 32) × Fits wanted (handed x reply cached)
  handed_fits (accepted c) e f = chosen_fits (((choose_means wanted reply cached).0 c).0 e)
  handed_fits (refused n p q) e f = absurd (f refl)

  empty_refused : (x : Answer Choice) → choose wanted reply cached ≡ x → handed x reply cached ≡ [] → Refused x
  empty_refused (accepted c) e z = absurd ((chosen_fits (((choose_means wanted reply cached).0 c).0 e)).1.there z)
  empty_refused (refused n p q) e z = tt

  refused_empty : (x : Answer Choice) → Refused x → handed x reply cached ≡ []
  refused_empty (accepted c) r = absurd r
  refused_empty (refused n p q) r = refl

pub empty_is_refused : EmptyIsRefused
empty_is_refused wanted reply cached =
    (empty_refused wanted reply cached (choose wanted reply cached) refl, refused_empty wanted reply cached (choose wanted reply cached))

-- Along a path of one block, of the hash that leads to it, no hash is wrong.
module _ (path : List ℕ) (one : parts size path ≡ 1) (i : ℕ) where
  along_one :
      {d : ℕ} {k : Link} {n p : ℕ} → (d ≡ 0 → sha256 (part size path d) ≡ k.hash) → Fails path i d k n p → (n ≡ 8 → ⊥) × (n ≡ 2 → ⊥)
  along_one h (missing e) = (λ z. omega (arith, z), λ z. omega (arith, z))
  along_one h (wrong_hash l f) = absurd (f (h (omega (arith, l, one))))
  along_one h (malformed l e f) = (λ z. omega (arith, z), λ z. omega (arith, z))
  along_one h (left_over e w f l) = (λ z. omega (arith, z), λ z. omega (arith, z))
  along_one h (later j w l f) = along_one (λ z. absurd (omega (arith, z))) f

not_empty : (b : List ℕ) → 1 ≤ length b → b ≡ [] → ⊥
not_empty b s e = let n : length b ≡ 0 = ap length e in omega (arith, s, n)

-- A block under its hash is not refused for that hash, nor for its length.
module _ (wanted b : List ℕ) (w : length wanted ≡ 32) (l : length b ≡ 642) (e : sha256 b ≡ wanted) (i : ℕ) where
  one_block : parts size b ≡ 1
  one_block = rw l

  not_refused : {n p q : ℕ} → Why wanted i b n p q → (n ≡ 8 → ⊥) × (n ≡ 2 → ⊥)
  not_refused (lengths f) =
      absurd (f (record { handle_long = w; whole = omega (arith, l); some = omega (arith, l); few = omega (arith, l) }))
  not_refused (along s f) = along_one b one_block i (λ z. ap sha256 (rw l at (take-length b)) ∙ e) f

pub chosen_is_path : ChosenIsPath
chosen_is_path wanted reply cached i l =
    let h = handed_of wanted reply cached in
    let f = handed_fits wanted reply cached (choose wanted reply cached) refl (not_empty h (omega (arith, l))) in (
      one_block wanted h f.0 l f.1.hashed i,
      λ n p q e. not_refused wanted h f.0 l f.1.hashed i (((lookup_means wanted i h).1 n p q).0 e),
    )

-- Any part, and no bytes beside it.
module _ (b : List ℕ) (s : 1 ≤ length b) (l : length b ≤ 65536) where
  fits_itself : Fits (sha256 b) b
  fits_itself = record { there = not_empty b s; hashed = refl }

  as_reply : choose (sha256 b) b [] ≡ accepted from_reply
  as_reply =
      ((choose_means (sha256 b) b []).0 from_reply).1
      (the_reply (record { wanted_long = sha256_length b; reply_most = l; cached_most = omega arith }) fits_itself)

  as_cached : choose (sha256 b) [] b ≡ accepted from_cache
  as_cached =
      ((choose_means (sha256 b) [] b).0 from_cache).1
      (the_cached (record { wanted_long = sha256_length b; reply_most = omega arith; cached_most = l }) (λ e. e.there refl) fits_itself)

pub block_chosen : BlockChosen
block_chosen b s l = let r = as_reply b s l in let c = as_cached b s l in ((r, rw r), (c, rw c))

pub empty_not_there : EmptyNotThere
empty_not_there = (
  λ wanted other. (
    λ e. (chosen_fits wanted [] other (((choose_means wanted [] other).0 from_reply).0 e)).1.there refl,
    λ e. (chosen_fits wanted other [] (((choose_means wanted other []).0 from_cache).0 e)).1.there refl,
  ),
  ((choose_means (sha256 []) [] []).1 8 0 0).1
      (neither (record { wanted_long = sha256_length []; reply_most = omega arith; cached_most = omega arith })
      (λ e. e.there refl) (λ e. e.there refl)),
)
