-- What the choice of a block means, with no test: each condition that it judges, and each way to be refused.
use Rattle.std.specs.Prelude.{ℕ, ◌≤◌, List, [], ◌↔◌, ◌≡◌, length}
use Rattle.refusal.specs.Answer.{accepted, refused}
use Rattle.sha256.specs.Sha256.{sha256}
use Rattle.cache.specs.Choose.{Choice, from_reply, from_cache, choose}

-- 2: a wanted hash of 32 bytes, and parts of at most 65,536.
pub record Sizes (wanted reply cached : List ℕ) : Type 0 where
  pub wanted_long : length wanted ≡ 32
  pub reply_most : length reply ≤ 65536
  pub cached_most : length cached ≤ 65536

-- A part that is there, and has the wanted hash.
pub record Fits (wanted part : List ℕ) : Type 0 where
  pub there : part ≡ [] → ⊥
  pub hashed : sha256 part ≡ wanted

-- "hand back the reply if its hash is the wanted one, otherwise the cached block if its hash is".
pub data Chosen (wanted reply cached : List ℕ) : Choice → Type 0 where
  the_reply : Sizes wanted reply cached → Fits wanted reply → Chosen wanted reply cached from_reply
  the_cached : Sizes wanted reply cached → (Fits wanted reply → ⊥) → Fits wanted cached → Chosen wanted reply cached from_cache

-- Why nothing is handed back, with a number and two positions.
pub data Why (wanted reply cached : List ℕ) : ℕ → ℕ → ℕ → Type 0 where
  lengths : (Sizes wanted reply cached → ⊥) → Why wanted reply cached 2 0 0
  neither : Sizes wanted reply cached → (Fits wanted reply → ⊥) → (Fits wanted cached → ⊥) → Why wanted reply cached 8 0 0

-- A part is chosen exactly where it is the one, and none exactly for these reasons.
abbrev pub ChooseMeans : Type 0
ChooseMeans =
    (wanted reply cached : List ℕ) →
    ((c : Choice) → (choose wanted reply cached ≡ accepted c) ↔ Chosen wanted reply cached c) ×
    ((n p q : ℕ) → (choose wanted reply cached ≡ refused n p q) ↔ Why wanted reply cached n p q)
