-- What the four calls on a memory file mean, with no test: each condition, in its order, and each way to be refused.
use Rattle.std.specs.Prelude.{ℕ, ◌≤◌, ◌<◌, List, [], ◌⊎◌, ◌↔◌, ◌≡◌, length, get_or}
use Rattle.refusal.specs.Answer.{Answer, accepted, refused}
use Rattle.protocol.specs.Version.{size, owner}
use Rattle.protocol.specs.Meaning.{WellFormed, Users, Remembered}
use Rattle.protocol.specs.MemoryFile.{file_size, file_kind, state, behind, held, file_of, pending_of, sent_of, over, back, back_into, sent, pend}

-- 3: user u's own structure, well formed for N.
abbrev pub OwnFormed : ℕ → ℕ → List ℕ → Type 0
OwnFormed N u x = WellFormed N x × (owner x ≡ u)

-- 3: "kind 7 in 100 bytes: a state byte (0 sent, 1 pending, 2 none with zeros after it), then the structure".
pub data Stated (N u : ℕ) (f : List ℕ) : Type 0 where
  is_sent : state f ≡ 0 → OwnFormed N u (behind f) → Stated N u f
  is_pending : state f ≡ 1 → OwnFormed N u (behind f) → Stated N u f
  is_none : state f ≡ 2 → ((i : ℕ) → 2 ≤ i → i < file_size → get_or f i 0 ≡ 0) → Stated N u f

abbrev pub Formed : ℕ → ℕ → List ℕ → Type 0
Formed N u f = (file_kind f ≡ 7) × Stated N u f

-- 17: it is not pending.
abbrev pub NotPending : List ℕ → Type 0
NotPending f = state f ≡ 1 → ⊥

-- Why a call is refused that tries 1, then the lengths L, then the form F, and last what is left, G: all earlier conditions hold and this one
-- does not.
pub data Why (N u : ℕ) (L F G : Type 0) : ℕ → ℕ → ℕ → Type 0 where
  users : (Users N u → ⊥) → Why N u L F G 1 0 0
  lengths : Users N u → (L → ⊥) → Why N u L F G 2 0 0
  malformed : Users N u → L → (F → ⊥) → Why N u L F G 3 16 0
  pending : Users N u → L → F → (G → ⊥) → Why N u L F G 17 0 0

-- The call's answer x is the result exactly where all conditions hold, and it is refused exactly for these reasons.
abbrev pub Exactly : ℕ → ℕ → Type 0 → Type 0 → Type 0 → Answer (List ℕ) → List ℕ → Type 0
Exactly N u L F G x result =
    ((a : List ℕ) → (x ≡ accepted a) ↔ ((Users N u × L × F × G) × (a ≡ result))) ×
    ((n p q : ℕ) → (x ≡ refused n p q) ↔ Why N u L F G n p q)

-- What is moved over is none, or a structure, of which only its length and its form are asked. Nothing is refused with 17.
abbrev pub OverMeans : Type 0
OverMeans =
    (N u : ℕ) (old : List ℕ) (room : ℕ) →
    Exactly N u (((length old ≡ 0) ⊎ (length old ≡ size)) × (room ≡ file_size)) (Remembered N u old) Unit (over N u old room) (file_of old)

abbrev pub BackMeans : Type 0
BackMeans =
    (N u : ℕ) (f : List ℕ) (room : ℕ) →
    Exactly N u ((length f ≡ file_size) × (room ≡ size)) (Formed N u f) (NotPending f) (back N u f room) (held f)

-- In the lent buffer: the structure, or in state none what was there; and it is refused as that is.
abbrev pub BackIntoMeans : Type 0
BackIntoMeans =
    (N u : ℕ) (f buffer : List ℕ) →
    ((b : List ℕ) →
    (back_into N u f buffer ≡ accepted b) ↔
    ((old : List ℕ) × (back N u f (length buffer) ≡ accepted old) × (((old ≡ []) × (b ≡ buffer)) ⊎ ((length old ≡ size) × (b ≡ old))))) ×
    ((n p q : ℕ) → (back_into N u f buffer ≡ refused n p q) ↔ (back N u f (length buffer) ≡ refused n p q))

abbrev pub PendMeans : Type 0
PendMeans =
    (N u : ℕ) (x : List ℕ) (room : ℕ) →
    Exactly N u ((length x ≡ size) × (room ≡ file_size)) (OwnFormed N u x) Unit (pend N u x room) (pending_of x)

-- "Sets a pending file's state byte to 0 and changes nothing else": g is f, but that it is sent if f is pending.
pub record SetSent (f g : List ℕ) : Type 0 where
  pub as_long : length g ≡ length f
  pub becomes_sent : state f ≡ 1 → state g ≡ 0
  pub else_kept : NotPending f → state g ≡ state f
  pub others_kept : (i : ℕ) → (i ≡ 1 → ⊥) → get_or g i 0 ≡ get_or f i 0

abbrev pub SentMeans : Type 0
SentMeans =
    (N u : ℕ) (f : List ℕ) →
    Exactly N u (length f ≡ file_size) (Formed N u f) Unit (sent N u f) (sent_of f) × (length f ≡ file_size → SetSent f (sent_of f))
