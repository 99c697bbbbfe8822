-- 02's request a): "Given a wanted hash, the reply's bytes and the cached bytes, hand back the reply if its hash is the wanted one, otherwise the
-- cached block if its hash is, without copying."
use Rattle.std.specs.Prelude.{ℕ, Bool, cond, ◌&&◌, ◌||◌, List, [], ◌∷◌, leb, ltb, eqb, length}
use Rattle.layout.specs.Strings.{same}
use Rattle.refusal.specs.Answer.{Answer, accepted, refused}
use Rattle.refusal.specs.Order.{Step, unless, in_order}
use Rattle.sha256.specs.Sha256.{sha256}

-- Which of the two is handed back.
pub data Choice : Type 0 where
  from_reply : Choice
  from_cache : Choice

-- "An empty part means not there, even if the hash of no bytes is wanted."
unfoldable pub fits : List ℕ → List ℕ → Bool
fits wanted part = ltb 0 (length part) && same (sha256 part) wanted

-- "Refusals: 2 if the wanted hash is not 32 bytes or a part is over 65,536, then 8 with places 0, 0 if neither fits".
unfoldable pub choose_steps : List ℕ → List ℕ → List ℕ → List Step
choose_steps wanted reply cached =
    unless (eqb (length wanted) 32) 2 0 0 ∷
    unless (leb (length reply) 65536) 2 0 0 ∷
    unless (leb (length cached) 65536) 2 0 0 ∷ unless (fits wanted reply || fits wanted cached) 8 0 0 ∷ []

-- The reply where it fits, "otherwise the cached block".
unfoldable pub choose : List ℕ → List ℕ → List ℕ → Answer Choice
choose wanted reply cached = in_order (choose_steps wanted reply cached) (accepted (cond (fits wanted reply) from_reply from_cache))

-- That one of the two.
abbrev pub chosen : {A : Type 0} → Choice → A → A → A
chosen from_reply reply cached = reply
chosen from_cache reply cached = cached

-- The bytes that are handed back: "an empty part of the reply is handed back with either" refusal.
abbrev pub handed : Answer Choice → List ℕ → List ℕ → List ℕ
handed (accepted c) reply cached = chosen c reply cached
handed (refused n p q) reply cached = []

-- What is handed back of these three.
abbrev pub handed_of : List ℕ → List ℕ → List ℕ → List ℕ
handed_of wanted reply cached = handed (choose wanted reply cached) reply cached
