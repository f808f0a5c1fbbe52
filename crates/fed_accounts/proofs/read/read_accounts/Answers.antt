use Rattle.std.proofs.Common.{subst}
use Rattle.fed_io.specs.Fault.{Answers}
use Rattle.fed_accounts.proofs.ids.Kept.{no_hints}
use Rattle.fed_accounts.proofs.read.read_accounts.Goals as goal

pub returns : goal.returns
returns c = subst (Answers c.read_hinted.result) (no_hints c.args.raw.now) c.read_hinted.ensures
