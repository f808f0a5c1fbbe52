use Rattle.std.proofs.Common.{sym, ◌∙◌}
use Rattle.std.specs.Option.{option_copied}
use Rattle.fed_accounts.specs.Kept.{kept_in}
use Rattle.fed_accounts.proofs.ids.Reading.{whole_done, whole_left, whole_refused}
use Rattle.fed_accounts.proofs.read.keep_whole.Goals as goal

pub returns-in-Err-clause-answer : goal.returns-in-Err-clause-answer
returns-in-Err-clause-answer c =
    whole_refused (kept_in (option_copied c.args.login) (option_copied c.args.domain)) c.args.values.now c.in-Err.fault
    c.in-Err.ensures.answer

pub returns-then-is_done-clause-answer : goal.returns-then-is_done-clause-answer
returns-then-is_done-clause-answer c =
    whole_done (kept_in (option_copied c.args.login) (option_copied c.args.domain)) c.in-Ok.kept c.args.values.now
    c.keep_file.new.values c.in-Ok.ensures.answer (sym c.if-is_done.true ∙ c.is_done.ensures)

pub returns-else-is_done-clause-answer : goal.returns-else-is_done-clause-answer
returns-else-is_done-clause-answer c =
    whole_left (kept_in (option_copied c.args.login) (option_copied c.args.domain)) c.in-Ok.kept c.args.values.now
    c.keep_file.new.values c.in-Ok.ensures.answer (sym c.if-is_done.false ∙ c.is_done.ensures)
