-- A fork is never joined, in every run: a making step whose pending write comes whole signs what it writes, from the counts of an earlier check
-- that accepts a list, so that checks and making steps are clients in the sense of `Clients`. The file at the check is not compared with that
-- at the making step: the own counts suffice. (`OneNumber` cites the same clients.)
use Prim.Native.Nat.{ℕ, ◌+◌, ◌≤◌, ◌<◌}
use mathlib.Core.List.{List}
use mathlib.Core.Logic.{◌⊎◌, inl, ⊎_swap}
use mathlib.Core.Path.{◌≡◌, refl, sym, ap, ◌∙◌}
use native.Mathlib.Decide.{dec_lt}
use native.Mathlib.Omega.{arith}
use lib.ListN.{length, get_or}
use Rattle.refusal.specs.Answer.{accepted}
use Rattle.refusal.proofs.Run.{Came, each_at, each_intro, came_shorter, came_earlier, came_once}
use Rattle.protocol.specs.Version.{owner, count, own}
use Rattle.protocol.specs.List.{records, record_at, entry}
use Rattle.protocol.specs.Meaning.{AtOrBefore}
use Rattle.protocol.specs.CreateMeaning.{MadeOf}
use Rattle.protocol.specs.MemoryFile.{held, none, next}
use Rattle.protocol.specs.History.{Call, Making, created, whole, Event, checks, creates, written, file, answer, outcome, Signed}
use Rattle.protocol.specs.NoJoin.{Premise, Shows, NoJoin}
use Rattle.protocol.proofs.List.{entry_counting}
use Rattle.protocol.proofs.Accepts.{Accepts, accepts}
use Rattle.protocol.proofs.CreateMeans.{create_means}
use Rattle.protocol.proofs.MadeMeans.{made_means, made_one_more}
use Rattle.protocol.proofs.Clients.{Clients, no_list_joins}
use Rattle.protocol.proofs.CountsAll.{Counting}
use Rattle.protocol.proofs.FileCalls.{gives_held, makes_held}
use Rattle.protocol.proofs.History.{writes_made, counted_event, gave_call, signed_once}

-- The event with t events before it is a making step of the honest user a that accepts, and its write of x comes whole.
pub record Signs (N : ℕ) (honest : ℕ → Type 0) (run : List Event) (t a : ℕ) (x : List ℕ) : Type 0 where
  earlier : List Event
  step : Making
  came : Came run earlier (creates step whole)
  when : length earlier ≡ t
  by : step.user ≡ a
  trusted : honest a
  answers : outcome N earlier step ≡ accepted x

-- The event with t events before it is a check that gives counts for a list whose record at `place` is r, of owner a.
pub record Lists (N : ℕ) (run : List Event) (t a : ℕ) (r : List ℕ) : Type 0 where
  earlier : List Event
  call : Call
  counts : List ℕ
  place : ℕ
  came : Came run earlier (checks call)
  when : length earlier ≡ t
  answers : answer N earlier call ≡ accepted (next counts)
  within : place < records call.list
  owned : owner (record_at call.list place) ≡ a
  is : record_at call.list place ≡ r

-- All pairs of an accepted list's records are ordered, also a record with itself.
pairs :
    {N u : ℕ} {mem list s : List ℕ} → Accepts N u mem list s → (i j : ℕ) → i < records list → j < records list →
    AtOrBefore (record_at list i) (record_at list j) ⊎ AtOrBefore (record_at list j) (record_at list i)
pairs A i j h l =
    elim (dec_lt i j) [
      | yes m ↦ A.all_ordered i j m l
      | no m ↦
          elim (dec_lt j i) [
            | yes n ↦ ⊎_swap (A.all_ordered j i n h)
            | no n ↦ let e : i ≡ j = omega arith in inl (λ v b. rw e (omega arith))
          ]
    ]

accepted_call :
    (N : ℕ) (earlier : List Event) (c : Call) {counts : List ℕ} → answer N earlier c ≡ accepted (next counts) →
    Accepts N c.user (held (file N earlier c.user)) c.list counts
accepted_call N earlier c {counts} e =
    let f : List ℕ = file N earlier c.user in
    accepts N c.user (held f) c.list c.marks counts (gives_held N c.user f c.list c.marks counts e)

module _ {N : ℕ} {honest : ℕ → Type 0} {run : List Event} where
  -- What the file holds at the step, and what is made on it.
  abbrev mem_at : {t a : ℕ} {x : List ℕ} → Signs N honest run t a x → List ℕ
  mem_at s = held (file N s.earlier s.step.user)

  made_on : {t a : ℕ} {x : List ℕ} (s : Signs N honest run t a x) → created N (mem_at s) s.step ≡ accepted x
  made_on {x = x} s =
      let m : Making = s.step in makes_held N m.user (file N s.earlier m.user) m.counts m.handle m.room x s.answers

  signs_made : {t a : ℕ} {x : List ℕ} (s : Signs N honest run t a x) → MadeOf s.step x
  signs_made {x = x} s = made_means N (mem_at s) s.step x (made_on s)

  pub signs_owner : {t a : ℕ} {x : List ℕ} → Signs N honest run t a x → owner x ≡ a
  signs_owner s = (signs_made s).owned ∙ s.by

  signs_user : {t a : ℕ} {x : List ℕ} → Signs N honest run t a x → a < 16
  signs_user {x = x} s =
      let u = (((create_means N (mem_at s) s.step).0 x).0 (made_on s)).0.0.0.0.0.0 in
      omega (arith, u.1, u.2, s.by)

  signs_counted : {t a : ℕ} {x : List ℕ} → Signs N honest run t a x → 0 < count x a
  signs_counted s = rw (← s.by) (omega (arith, made_one_more N (mem_at s) s.step (made_on s)))

  signs_once : {t t' a : ℕ} {x x' : List ℕ} → Signs N honest run t a x → Signs N honest run t' a x' → count x a ≡ count x' a → x ≡ x'
  signs_once s s' e =
      signed_once N none s.came s'.came (s.by ∙ sym s'.by) (ap written s.answers) (ap written s'.answers) (rw s'.by e)

module _ {N : ℕ} {run : List Event} where
  -- The list that a check accepts shows each user that the list's entry counts, in a record at or before the counts that it gives.
  lists_entry :
      {earlier : List Event} {c : Call} {counts : List ℕ} → Came run earlier (checks c) → answer N earlier c ≡ accepted (next counts) →
      (v : ℕ) → 0 < count (entry c.list v) v →
      (r : List ℕ) ×
      Lists N run (length earlier) v r ×
      (r ≡ entry c.list v) ×
      ((w : ℕ) → w < 16 → count r w ≤ get_or counts w 0)
  lists_entry {earlier} {c} {counts} came e v h =
      let A = accepted_call N earlier c e in
      let f = entry_counting c.list A.whole v h in (
        record_at c.list f.0,
        record {
          earlier = earlier;
          call = c;
          counts = counts;
          place = f.0;
          came = came;
          when = refl;
          answers = e;
          within = f.1;
          owned = f.2;
          is = refl;
        },
        f.3,
        (A.all_before f.0 f.1).0,
      )

  lists_ordered :
      {t a b : ℕ} {r r' : List ℕ} → Lists N run t a r → Lists N run t b r' → AtOrBefore r r' ⊎ AtOrBefore r' r
  lists_ordered {r = r} {r' = r'} l m =
      let same = came_once l.came m.came (l.when ∙ sym m.when) in
      let calls : l.call ≡ m.call = cc same.1 in
      let w : m.place < records l.call.list = rw calls m.within in
      let e : record_at l.call.list m.place ≡ r' = rw calls m.is in
      rw (l.is, e) at (pairs (accepted_call N l.earlier l.call l.answers) l.place m.place l.within w)

pub signed_signs :
    (N : ℕ) (honest : ℕ → Type 0) (run : List Event) {a : ℕ} {x : List ℕ} → honest a → Signed N run a x →
    (t : ℕ) × (t < length run) × Signs N honest run t a x
signed_signs N honest run h m =
    let s = counted_event N none run m in
    let w = writes_made N none s.0 s.1 s.4 in (
      length s.0,
      came_shorter s.2,
      record { earlier = s.0; step = w.0; came = rw w.1 at s.2; when = refl; by = rw w.1 at s.3; trusted = h; answers = w.2 },
    )

module _ (N : ℕ) (honest : ℕ → Type 0) (run : List Event) (premise : Premise N honest run) where
  -- What is signed was made from the counts of an earlier check: from the list that it accepted.
  signs_from :
      {t a : ℕ} {x : List ℕ} → Signs N honest run t a x →
      (t' : ℕ) ×
      (t' ≤ t) ×
      (1 < count x a →
      (r : List ℕ) × Lists N run t' a r × (count r a + 1 ≡ count x a) × AtOrBefore r x) ×
      ((v : ℕ) → v < 16 → (v ≡ a → ⊥) → 0 < count x v →
      (r : List ℕ) × Lists N run t' v r × (count r v ≡ count x v) × AtOrBefore r x)
  signs_from {t = t} {a = a} {x = x} s =
      let g = gave_call N s.earlier (each_at _ premise.1 s.came s.step refl x s.answers (rw s.by s.trusted)) in
      let c : Call = g.1 in
      let came = came_earlier s.came g.2 in
      let A = accepted_call N g.0 c g.4 in
      let counted = (signs_made s).counted in
      let user : c.user ≡ a = g.3 ∙ s.by in
      let own-count : count x a ≡ count (entry c.list a) a + 1 =
      counted a (signs_user s) ∙ (rw user at (A.counts_own ∙ ap (λ (y : List ℕ). count y c.user + 1) (sym A.current_entry)))
      in (
        length g.0,
        omega (arith, came_shorter g.2, s.when),
        λ h. let l = lists_entry came g.4 a (omega arith) in (l.0, l.1, rw l.2 (sym own-count), λ w b. rw (counted w b) (l.3 w b)),
        λ v h n l.
            let e : count x v ≡ count (entry c.list v) v = counted v h ∙ A.counts_other v h (λ q. n (q ∙ user)) in
            let r = lists_entry came g.4 v (omega arith) in (r.0, r.1, rw r.2 (sym e), λ w b. rw (counted w b) (r.3 w b)),
      )

  lists_signed : {t a : ℕ} {r : List ℕ} → honest a → Lists N run t a r → (t' : ℕ) × (t' < t) × Signs N honest run t' a r
  lists_signed {a = a} {r = r} h l =
      let m : Signed N l.earlier a r =
      rw (l.owned, l.is) at
      (each_at _ premise.0 l.came l.call refl l.counts l.answers l.place l.within (rw l.owned h))
      in
      let s = signed_signs N honest l.earlier h m in (
        s.0,
        omega (arith, s.1, l.when),
        record {
          earlier = s.2.earlier;
          step = s.2.step;
          came = came_earlier l.came s.2.came;
          when = s.2.when;
          by = s.2.by;
          trusted = h;
          answers = s.2.answers;
        },
      )

  clients : Clients count honest (Signs N honest run) (Lists N run)
  clients =
      record {
        user = signs_user;
        once = signs_once;
        made =
            λ s.
            let m = signs_from s in
            (m.0, m.1, λ h. let r = m.2 h in (r.0, r.1, r.2), λ v h n l. let r = m.3 v h n l in (r.0, r.1, r.2));
        ordered = lists_ordered;
        signed = lists_signed;
      }

  pub counting : Counting count honest (Signs N honest run) (Lists N run)
  counting = record { clients = clients; counted = signs_counted; made = signs_from }

-- An entry that is x or later, as a record of an accepted list.
shows_lists :
    {N : ℕ} {honest : ℕ → Type 0} {run earlier : List Event} {c : Call} {s : List ℕ} {t a : ℕ} {x : List ℕ} → Came run earlier (checks c) →
    answer N earlier c ≡ accepted (next s) → Signs N honest run t a x → Shows c.list a (own x) →
    (r : List ℕ) × Lists N run (length earlier) a r × (count x a ≤ count r a)
shows_lists {earlier = earlier} {c = c} {s = s} {a = a} {x = x} m e g h =
    let r : List ℕ = record_at c.list h.0 in
    let o : owner x ≡ a = signs_owner g in (
      r,
      record {
        earlier = earlier;
        call = c;
        counts = s;
        place = h.0;
        came = m;
        when = refl;
        answers = e;
        within = h.1;
        owned = h.2;
        is = refl;
      },
      rw (o, h.2) at h.3,
    )

pub no_join : NoJoin
no_join N honest run premise a b x y ha hb sx sy p q =
    let gx = signed_signs N honest run ha sx in
    let gy = signed_signs N honest run hb sy in
    each_intro _ run
    (λ earlier e m c is s ok showsA showsB.
    let came = rw is at m in
    let la = shows_lists came ok gx.2 showsA in
    let lb = shows_lists came ok gy.2 showsB in
    no_list_joins (clients N honest run premise) ha hb gx.2 gy.2 p q la.1 la.2 lb.1 lb.2)
