-- In a turn the word of the round makes way for the one sixteen after it, which the recurrence gives from words that
-- all stand in the queue. So before each round the queue holds the words from the round's own on, as far as there are any.
use Rattle.std.proofs.Common.{◌≡◌, ℕ, zero, suc, ◌+◌, ◌*◌, ◌%◌, ◌<◌, ◌≤◌, cond, ltb, List, length, get_or, sym, refl, ap, ◌∙◌, ⊎_elim, eq-or-lt_of_le, add-one, arith, length-set, get_or-set_other, get_or-set_same, ltb-false, ltb-true, le-ltb, lt-ltb}
use Rattle.search.proofs.Bool.{bool_cases}
use Rattle.layout.specs.Bytes.{four}
use Rattle.layout.proofs.Values.{length_values, get_or_values}
use Rattle.sha256.specs.Sha256.{W}
use Rattle.sha256.specs.WordsTaken.{loaded, next_word, rolled, Queues, WordsTaken, QueuesHeld}
use Rattle.sha256.proofs.Recurrence.{recurrence, sixteen_on}

-- The queue w before round t: W u stands at u modulo 16 for the sixteen u from t on, below 64.
record Window (b : List ℕ) (t : ℕ) (w : List ℕ) : Type 0 where
  long : length w ≡ 16
  stands : (u : ℕ) → t ≤ u → u < t + 16 → u < 64 → get_or w (u % 16) 0 ≡ W b u

pub loaded_long : (b : List ℕ) → length (loaded b) ≡ 16
loaded_long b = length_values (λ t. four b (4 * t)) 0 16

before_the_first : (b : List ℕ) → Window b 0 (loaded b)
before_the_first b =
    record {
      long = loaded_long b;
      stands = λ u p q r.
          let m : u % 16 ≡ u = omega arith in
          let n : 0 + u ≡ u = omega arith in
          rw (m, get_or_values (λ t. four b (4 * t)) 0 16 u q, n) (sym ((recurrence b u).0 q));
    }

module _ (b : List ℕ) (t : ℕ) (w : List ℕ) (R : Window b t w) where
  module _ (h : t < 48) where
    place : (d : ℕ) → d < 16 → get_or w ((t + d) % 16) 0 ≡ W b (t + d)
    place d p = R.stands (t + d) (omega arith) (omega arith) (omega arith)

    new : next_word w t ≡ W b (t + 16)
    new =
        rw (
          place 14 (omega arith),
          place 9 (omega arith),
          place 1 (omega arith),
          R.stands t (omega arith) (omega arith) (omega arith),
          sixteen_on b t h,
        )

    after_a_turn : Window b (suc t) (rolled w t)
    unfolding rolled
    after_a_turn =
        record {
          long = length-set w ((t + 16) % 16) (next_word w t) ∙ R.long;
          stands = λ u p q r.
              ⊎_elim
              (λ e.
              rw (e, get_or-set_same w ((t + 16) % 16) (next_word w t) 0 (omega (arith, R.long)), new))
              (λ l. rw (get_or-set_other w ((t + 16) % 16) (u % 16) (next_word w t) 0 (λ e. omega arith)) (R.stands u (omega arith) l r))
              (eq-or-lt_of_le {n = u} {m = t + 16} (omega arith));
        }

  after_a_last_turn : 48 ≤ t → Window b (suc t) w
  after_a_last_turn h = record { long = R.long; stands = λ u p q r. R.stands u (omega arith) (omega arith) r }

module _ (b : List ℕ) (w : ℕ → List ℕ) (q : Queues b w) where
  window : (t : ℕ) → t < 64 → Window b t (w t)
  window zero h = rw q.first (before_the_first b)
  window (suc t) h =
      ⊎_elim
      (λ l. rw (sym (ap w (add-one t)) ∙ q.turned t (ltb-true t 48 l)) (after_a_turn b t (w t) (window t (omega arith)) (ltb-true t 48 l)))
      (λ g.
      rw (sym (ap w (add-one t)) ∙ q.kept t (ltb-false t 48 g) (omega arith))
      (after_a_last_turn b t (w t) (window t (omega arith)) (ltb-false t 48 g)))
      (bool_cases (ltb t 48))

pub words_taken : WordsTaken
words_taken b w q t h = let R = window b w q t h in (R.long, R.stands t (omega arith) (omega arith) h)

-- The array that the code holds before round t of the block b.
unfoldable pub held : List ℕ → ℕ → List ℕ
held b zero = loaded b
held b (suc t) = cond (ltb t 48) (rolled (held b t) t) (held b t)

pub held_queues : (b : List ℕ) → Queues b (held b)
unfolding held
held_queues b =
    record {
      first = refl;
      turned = λ t h. rw (add-one t, lt-ltb t 48 h);
      kept = λ t g h. rw (add-one t, le-ltb t 48 g);
    }

pub queues_held : QueuesHeld
queues_held b = (held b, held_queues b)
