use Rattle.std.proofs.Common.{sym}
use Rattle.std.specs.Prelude.{◌==◌}
use Rattle.fed_cookie.proofs.parts.Lists.{split_at_range, split_nowhere}
use Rattle.fed_cookie.proofs.bytes.cut.Goals as goal

pub returns-in-Some-clause-some : goal.returns-in-Some-clause-some
returns-in-Some-clause-some c = split_at_range (λ b. b == c.args.byte) c.args.bytes.now c.in-Some.at (sym c.in-Some.ensures)

pub returns-in-None-clause-none : goal.returns-in-None-clause-none
returns-in-None-clause-none c = split_nowhere (λ b. b == c.args.byte) c.args.bytes.now (sym c.in-None.ensures)
