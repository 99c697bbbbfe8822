-- What a lookup means, with no test and no search: a chain of blocks, each of the hash that led to it and well formed at its place, to one that
-- says what the i-number has; and each way to be refused.
use Rattle.std.specs.Prelude.{ℕ, suc, ◌+◌, ◌*◌, ◌≤◌, ◌<◌, List, ◌↔◌, ◌≡◌, length, get_or}
use Rattle.layout.specs.Bytes.{part, parts}
use Rattle.refusal.specs.Answer.{accepted, refused}
use Rattle.sha256.specs.Sha256.{sha256}
use Rattle.itable.specs.Block.{size, kind, used, number, value, to_root, to_child}
use Rattle.itable.specs.declared.Link.{Link}
use Rattle.itable.specs.Lookup.{Entry, found, absent, lookup}

-- 2: a handle of 32 bytes, and "a path of 1 to 3 whole blocks".
pub record Sizes (handle path : List ℕ) : Type 0 where
  pub handle_long : length handle ≡ 32
  pub whole : size * parts size path ≡ length path
  pub some : 1 ≤ parts size path
  pub few : parts size path ≤ 3

-- 3: a block is well formed where k leads to it: `due` is the kind due, 0 for the root, `first` the number in the slot that led there, and
-- `bound` the number below which all of its numbers stay, 0 where there is none.
-- "The root's kind may be 3, 4 or 5, each next one is one less." "A leaf has 0 to 16 used slots, 0 only where it is the root. An inner block
-- has 1 to 16. Slot numbers strictly ascend; unused slots are all zero." "A child's first number equals the number in the slot that led to it."
-- 02's request c): "every number in a child must also be below the number in the next used slot, and below any such bound handed down from above."
pub record WellFormed (k : Link) (b : List ℕ) : Type 0 where
  pub root_kind : k.due ≡ 0 → (3 ≤ kind b) × (kind b ≤ 5)
  pub child_kind : (k.due ≡ 0 → ⊥) → kind b ≡ k.due
  pub at_most : used b ≤ 16
  pub empty : used b ≡ 0 → (k.due ≡ 0) × (kind b ≡ 3)
  pub ascending : (j : ℕ) → suc j < used b → number b j < number b (suc j)
  pub unused_is_zero : (x : ℕ) → 2 + 40 * used b ≤ x → x < size → get_or b x 0 ≡ 0
  pub first_number : (k.due ≡ 0 → ⊥) → number b 0 ≡ k.first
  pub below : (k.bound ≡ 0 → ⊥) → (j : ℕ) → j < used b → number b j < k.bound

-- Block d of the path is there and passes 8, then 3.
pub record Passes (path : List ℕ) (d : ℕ) (k : Link) : Type 0 where
  pub there : d < parts size path
  pub hashed : sha256 (part size path d) ≡ k.hash
  pub formed : WellFormed k (part size path d)

-- "A leaf gives the handle, or absent." "If there is none (only at a root), absent."
pub data Ends (b : List ℕ) (i : ℕ) : Entry → Type 0 where
  in_leaf : (j : ℕ) → kind b ≡ 3 → j < used b → number b j ≡ i → Ends b i (found (value b j))
  not_in_leaf : kind b ≡ 3 → ((j : ℕ) → j < used b → number b j ≡ i → ⊥) → Ends b i absent
  none_leads : (kind b ≡ 3 → ⊥) → ((j : ℕ) → j < used b → i < number b j) → Ends b i absent

-- "In an inner block the last slot whose number is at most the i-number leads on": slot j.
pub record Leads (b : List ℕ) (i j : ℕ) : Type 0 where
  pub inner : kind b ≡ 3 → ⊥
  pub is_used : j < used b
  pub at_most : number b j ≤ i
  pub last : (m : ℕ) → j < m → m < used b → i < number b m

-- The path says e of i, from block d on, to which k leads: this block is the last and says so, or it leads on to the next.
pub data Says (path : List ℕ) (i : ℕ) : ℕ → Link → Entry → Type 0 where
  ends :
      {d : ℕ} {k : Link} {e : Entry} → Passes path d k → Ends (part size path d) i e → suc d ≡ parts size path → Says path i d k e
  leads :
      {d : ℕ} {k : Link} {e : Entry} (j : ℕ) → Passes path d k → Leads (part size path d) i j →
      Says path i (suc d) (to_child k (part size path d) j) e → Says path i d k e

-- The path is refused with a number and a first position, from block d on: there is no block d; it fails 8, or 3; it is not the last, and
-- what the i-number has is known; or it leads on to such a block.
pub data Fails (path : List ℕ) (i : ℕ) : ℕ → Link → ℕ → ℕ → Type 0 where
  missing : {d : ℕ} {k : Link} → d ≡ parts size path → Fails path i d k 9 d
  wrong_hash : {d : ℕ} {k : Link} → d < parts size path → (sha256 (part size path d) ≡ k.hash → ⊥) → Fails path i d k 8 d
  malformed :
      {d : ℕ} {k : Link} → d < parts size path → sha256 (part size path d) ≡ k.hash →
      (WellFormed k (part size path d) → ⊥) → Fails path i d k 3 d
  left_over :
      {d : ℕ} {k : Link} (e : Entry) → Passes path d k → Ends (part size path d) i e → suc d < parts size path →
      Fails path i d k 9 (suc d)
  later :
      {d : ℕ} {k : Link} (j : ℕ) {n p : ℕ} → Passes path d k → Leads (part size path d) i j →
      Fails path i (suc d) (to_child k (part size path d) j) n p → Fails path i d k n p

-- Why a lookup is refused with a number and two positions.
pub data Why (handle : List ℕ) (i : ℕ) (path : List ℕ) : ℕ → ℕ → ℕ → Type 0 where
  lengths : (Sizes handle path → ⊥) → Why handle i path 2 0 0
  along : {n p : ℕ} → Sizes handle path → Fails path i 0 (to_root handle) n p → Why handle i path n p 0

-- A lookup accepts e exactly where the path says e from its root on; and it refuses exactly for these reasons.
abbrev pub LookupMeans : Type 0
LookupMeans =
    (handle : List ℕ) (i : ℕ) (path : List ℕ) →
    ((e : Entry) → (lookup handle i path ≡ accepted e) ↔ (Sizes handle path × Says path i 0 (to_root handle) e)) ×
    ((n p q : ℕ) → (lookup handle i path ≡ refused n p q) ↔ Why handle i path n p q)

-- "If there is none (only at a root)": where slot j of an inner block leads on to c, and c is well formed there, c has a number at most i.
abbrev pub NoneOnlyAtRoot : Type 0
NoneOnlyAtRoot =
    (k : Link) (b c : List ℕ) (i j : ℕ) → Leads b i j → 4 ≤ kind b → WellFormed (to_child k b j) c →
    ((m : ℕ) → m < used c → i < number c m) → ⊥
