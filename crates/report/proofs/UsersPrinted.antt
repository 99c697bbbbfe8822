-- Such an input is judged `refuse 1 0 0`, and that line is computed.
use Rattle.search.specs.Search.{find}
use Rattle.input.proofs.UsersRefused.{users_refused}
use Rattle.report.specs.Decimal.{width, decimal}
use Rattle.report.specs.Printed.{refuse_line, printed}
use Rattle.report.specs.UsersPrinted.{UsersPrinted}

pub users_printed : UsersPrinted
unfolding printed refuse_line decimal width find
users_printed input f h = rw (users_refused input f h)
