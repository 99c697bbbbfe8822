-- The call on a buffer of 32 bytes is refused where the message has no hash, and else what it leaves is compared. There is no loop.
use Rattle.std.proofs.Common.{sym, refl, ◌∙◌}
use Rattle.sha256.proofs.Laws.{is_hash_told, is_hash_refused}
use Rattle.sha256.proofs.is_hash.Goals as goal

pub returns-then-is_ok : goal.returns-then-is_ok
returns-then-is_ok c =
    c.equal.ensures ∙
    is_hash_told c.args.message.now _ c.sha256.new.out c.args.wanted.now refl c.sha256.result c.sha256.ensures (sym c.if-is_ok.ensures.value)

pub returns-else-is_ok : goal.returns-else-is_ok
returns-else-is_ok c =
    c.if-is_ok.false ∙
    is_hash_refused c.args.message.now _ c.sha256.new.out c.args.wanted.now refl c.sha256.result c.sha256.ensures (sym c.if-is_ok.ensures.value)
