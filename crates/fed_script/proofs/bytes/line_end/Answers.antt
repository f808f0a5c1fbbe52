use Rattle.fed_script.proofs.lines.Places.{position_found, found_within}
use Rattle.fed_script.proofs.bytes.line_end.Goals as goal

pub returns-clause-place : goal.returns-clause-place
returns-clause-place c = position_found 10 c.args.rest.now c.memchr.result c.memchr.ensures

pub returns-clause-within : goal.returns-clause-within
returns-clause-within c = found_within 10 c.args.rest.now c.memchr.result c.memchr.ensures
