-- "The sum of counts equals accepted stores less those unreferences that took one, since the store was made, if each call gets what the last one
-- left."
use Rattle.std.specs.Prelude.{ℕ, zero, suc, ◌+◌, ◌≤◌, ◌<◌, List, [], ◌∷◌, ◌↔◌, ◌≡◌, length}
use Rattle.refusal.specs.Answer.{Answer, accepted, refused}
use Rattle.refusal.specs.Result.{left}
use Rattle.refusal.specs.Run.{Each, state_after, one}
use Rattle.sha256.specs.Sha256.{sha256}
use Rattle.store.specs.Place.{store_size, place, made, count}
use Rattle.store.specs.Calls.{store, retrieve, Unreferenced, unreference, after_unreference}
use Rattle.store.specs.Meaning.{Counted, NotHeld}

-- A call of a store: a user stores a block, a hash is retrieved into a buffer of some length, or a user unreferences a hash.
pub data StoreCall : Type 0 where
  store_of : ℕ → List ℕ → StoreCall
  retrieve_of : List ℕ → ℕ → StoreCall
  unreference_of : ℕ → List ℕ → StoreCall

-- What a call leaves of the store. Retrieving leaves it as it is.
abbrev pub leaves : List ℕ → StoreCall → List ℕ
leaves s (store_of u b) = left (store s u b) s
leaves s (retrieve_of hash room) = s
leaves s (unreference_of u hash) = left (after_unreference s u hash) s

-- The store after calls, newest first, since it was made.
abbrev pub store_after : List StoreCall → List ℕ
store_after = state_after leaves made

-- The number of accepted stores.
unfoldable pub accepted_stores : List StoreCall → ℕ
accepted_stores [] = 0
accepted_stores (store_of u b ∷ earlier) = one (store (store_after earlier) u b) + accepted_stores earlier
accepted_stores (retrieve_of hash room ∷ earlier) = accepted_stores earlier
accepted_stores (unreference_of u hash ∷ earlier) = accepted_stores earlier

-- The number of unreferences that took one.
abbrev pub took_one : Answer Unreferenced → ℕ
took_one (accepted t) = t.took
took_one (refused n p q) = 0

unfoldable pub taken_references : List StoreCall → ℕ
taken_references [] = 0
taken_references (store_of u b ∷ earlier) = taken_references earlier
taken_references (retrieve_of hash room ∷ earlier) = taken_references earlier
taken_references (unreference_of u hash ∷ earlier) = took_one (unreference (store_after earlier) u hash) + taken_references earlier

-- The sum of f at the places below k; of a place's sixteen counts; and of all counts of a store.
unfoldable pub sum : (ℕ → ℕ) → ℕ → ℕ
sum f zero = 0
sum f (suc k) = sum f k + f k

abbrev pub counts_of : List ℕ → ℕ
counts_of x = sum (count x) 16

abbrev pub references : List ℕ → ℕ
references s = sum (λ p. counts_of (place s p)) 64

-- The same with no subtraction, over every list of calls, refused ones included.
abbrev pub ReferencesCounted : Type 0
ReferencesCounted = (calls : List StoreCall) → references (store_after calls) + taken_references calls ≡ accepted_stores calls

-- A call that is refused with the number n.
abbrev pub RefusedWith : ℕ → List ℕ → StoreCall → Type 0
RefusedWith n s (store_of u b) = (p : ℕ) × (q : ℕ) × (store s u b ≡ refused n p q)
RefusedWith n s (retrieve_of hash room) = (p : ℕ) × (q : ℕ) × (retrieve s hash room ≡ refused n p q)
RefusedWith n s (unreference_of u hash) = (p : ℕ) × (q : ℕ) × (unreference s u hash ≡ refused n p q)

-- A made store stays sound: it keeps its length, no call is refused for a place of it, and a block that it does not hold finds no place only where
-- somebody counts each of them. So room is given back.
pub record MadeStaysSound : Type 0 where
  pub stays_long : (calls : List StoreCall) → length (store_after calls) ≡ store_size
  pub never_three : (calls : List StoreCall) → Each (λ earlier c. RefusedWith 3 (store_after earlier) c → ⊥) calls
  pub no_place_exactly :
      (calls : List StoreCall) (u : ℕ) (b : List ℕ) → u ≤ 15 → length b ≤ 8192 →
      (store (store_after calls) u b ≡ refused 13 0 0) ↔
      (NotHeld (store_after calls) (sha256 b) × ((p : ℕ) → p < 64 → Counted (place (store_after calls) p)))
