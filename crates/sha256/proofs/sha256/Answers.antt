-- Each length that is refused is tested before the first store, and what is stored then is the hash value after the padding, whose
-- bytes are the definition's. There is no loop here: the blocks' is in `blocks`.
use Rattle.std.specs.Prelude.{Ok, Err}
use Rattle.std.proofs.Common.{◌≡◌, ℕ, List, sym, ap, ◌∙◌, ⊎_elim}
use Rattle.refusal.specs.Answer.{Answer, accepted, refused}
use Rattle.refusal.specs.Result.{Gives}
use Rattle.refusal.specs.declared.Refusal.TheVariants.{Length}
use Rattle.sha256.specs.Sha256.{sha256, bytes_of}
use Rattle.sha256.proofs.Laws.{hash_long, hash_room, hash_accepted}
use Rattle.sha256.proofs.sha256.Goals as goal

kept : {due : Answer (List ℕ)} (o : List ℕ) → due ≡ refused 2 0 0 → Gives due o o (Err (Length 0))
kept o e = record { answers = sym e; leaves = rw e }

filled : {due : Answer (List ℕ)} (o : List ℕ) {l a : List ℕ} → due ≡ accepted a → l ≡ a → Gives due o l (Ok tt)
filled o e h = record { answers = rw (e, h); leaves = rw (e, h) }

pub returns-then-message-gt-LONGEST : goal.returns-then-message-gt-LONGEST
returns-then-message-gt-LONGEST c =
    let m = c.args.message.now in
    let o = c.args.out.now in
    kept o (⊎_elim (λ h. hash_long m _ h) (λ h. hash_room m _ h.0 h.1) c.then-message-gt-LONGEST.either)

pub returns : goal.returns
unfolding sha256
returns c =
    let a = c.args in
    filled a.out.now (hash_accepted a.message.now _ c.if-message-gt-LONGEST.false c.if-out-ne32.false)
    (c.write.ensures ∙ ap bytes_of c.hash_value.ensures)
