-- A turn that is refused at the last count, so that the honest half's refusals say something too.
use Rattle.std.specs.Prelude.{ℕ, cond, List, ◌≡◌, eqb, replicate}
use Rattle.refusal.specs.Answer.{refused}
use Rattle.protocol.specs.Version.{structure}
use Rattle.protocol.specs.Check.{last_count}
use Rattle.protocol.specs.MemoryFile.{file_of, none}
use Rattle.protocol.specs.Server.{empty, replaced}
use Rattle.protocol.specs.History.{whole}
use Rattle.protocol.specs.Turns.{Turn, World, turn, after, Fair}
use Rattle.protocol.specs.TwoUsers.{turn_of}
use Rattle.protocol.specs.Steady.{Steady}

-- The structure of user 0 whose own count is 4,294,967,295 and whose other counts are 0.
unfoldable pub last_own : List ℕ
last_own = structure 0 (replicate 32 0) (λ v. cond (eqb v 0) last_count 0)

-- The world of two users in which that structure is held and its file moved over, and nothing else.
unfoldable pub last_world : World
last_world = record { server = replaced (empty 2) last_own; file = λ v. cond (eqb v 0) (file_of last_own) none }

-- User 0's turn, at the end of which its file is marked as sent.
abbrev pub own_turn : Turn
own_turn = turn_of 0 whole

-- That world is steady, as every world after fair turns is, and user 0's turn in it is refused. Turns lead to such a refusal, too: any number
-- of turns of user 0 are fair, and after 4,294,967,295 of them the next is refused.
pub record LastTurn : Type 0 where
  pub steady : Steady 2 last_world.server last_world.file
  pub refused_last : turn 2 last_world own_turn ≡ refused 6 0 0
  pub fair : (n : ℕ) → Fair 2 (replicate n own_turn)
  pub reached : (n : ℕ) → n ≡ last_count → turn 2 (after 2 (replicate n own_turn)) own_turn ≡ refused 6 0 0
