use Rattle.std.proofs.Common.{sym}
use Rattle.fed_cookie.specs.Date.{is_delimiter}
use Rattle.fed_cookie.proofs.parts.Lists.{split_at_range, split_nowhere}
use Rattle.fed_cookie.proofs.date.cut_at_delimiter.Goals as goal

pub returns-in-Some-clause-some : goal.returns-in-Some-clause-some
returns-in-Some-clause-some c = split_at_range is_delimiter c.args.bytes.now c.in-Some.at (sym c.in-Some.ensures)

pub returns-in-None-clause-none : goal.returns-in-None-clause-none
returns-in-None-clause-none c = split_nowhere is_delimiter c.args.bytes.now (sym c.in-None.ensures)
