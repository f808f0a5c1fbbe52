use Rattle.fed_script.proofs.says.Shown.{null_absent, some_there}
use Rattle.fed_script.proofs.member.member.Goals as goal

pub returns-in-Null : goal.returns-in-Null
returns-in-Null c = null_absent c.args.name c.args.d.now c.under.result c.under.ensures c.in-Null.is

pub returns-in_default : goal.returns-in_default
returns-in_default c = some_there c.args.name c.args.d.now c.under.result c.under.ensures c.in_default.not-Null
