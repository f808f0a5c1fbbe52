use Rattle.std.proofs.Common.{sym, subst}
use Rattle.std.specs.Prelude.{IsUtf8}
use Rattle.fed_origin.proofs.words.Text.{status_of_word-none}
use Rattle.fed_status.proofs.set_login.read_set_login.Goals as goal

pub returns-in-Err-clause-value : goal.returns-in-Err-clause-value
returns-in-Err-clause-value c =
    status_of_word-none _ (λ text. c.in-Err.ensures.cases.0 (subst IsUtf8 (sym c.essence.ensures) text))
