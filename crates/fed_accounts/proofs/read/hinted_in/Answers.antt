use Rattle.std.proofs.Common.{sym, subst}
use Rattle.std.specs.Option.{option_copied}
use Rattle.fed_io.specs.Fault.{Answers}
use Rattle.fed_json.specs.Values.{whole_in}
use Rattle.fed_accounts.proofs.ids.Kept.{hinted_whole}
use Rattle.fed_accounts.proofs.read.hinted_in.Goals as goal

pub returns-in-Ok-Ok : goal.returns-in-Ok-Ok
returns-in-Ok-Ok c =
    let answer = rw c.in-Ok-Ok.field-0-is at c.in-Ok-Ok.ensures.answer in
    subst (Answers c.settled.result)
    (sym (hinted_whole c.args.raw.now (option_copied c.args.login) (option_copied c.args.domain) (whole_in c.in-Ok.values) _ c.in-Ok.ensures
    answer))
    c.settled.ensures
