-- What a check on a file gave, the making step on it takes, and what is made is a well formed structure of the user, which pends.
use mathlib.Core.List.{[]}
use mathlib.Core.Path.{refl, ◌∙◌}
use Rattle.protocol.specs.Version.{size}
use Rattle.protocol.specs.Check.{size_steps}
use Rattle.protocol.specs.MemoryFile.{file_size, held, pending_of, check_file}
use Rattle.protocol.specs.History.{Making}
use Rattle.protocol.specs.PendsMade.{PendsMade}
use Rattle.refusal.proofs.Order.{passed}
use Rattle.protocol.proofs.CreateMeans.{create_means}
use Rattle.protocol.proofs.MadeMeans.{made_means}
use Rattle.protocol.proofs.CreateAfterCheck.{create_after_check}
use Rattle.protocol.proofs.FileCalls.{given_passed, gives_held, makes_held, create_of_file}
use Rattle.protocol.proofs.MemoryMeans.{pend_means}

pub pends_made : PendsMade
unfolding check_file
pends_made =
    record {
      creates = λ N u f list marks c handle e h.
          let g = given_passed N u f (passed (size_steps N u [] list marks) e).1 in
          create_of_file N u f c handle size g.0 g.1 ∙
          create_after_check.accepts N u (held f) list marks c handle (gives_held N u f list marks c e) h;
      pends = λ N u f counts handle room x e.
          let m : Making = record { user = u; counts = counts; handle = handle; room = room } in
          let made = makes_held N u f counts handle room x e in
          let users = (((create_means N (held f) m).0 x).0 made).0.0.0.0.0.0 in
          ((pend_means N u x file_size).0 (pending_of x)).1 (
            (users, ((made_means N (held f) m x made).long, refl), create_after_check.formed N u (held f) counts handle room x made, tt),
            refl,
          );
    }
