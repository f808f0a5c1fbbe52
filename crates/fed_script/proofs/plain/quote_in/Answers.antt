use Rattle.fed_script.proofs.lines.Places.{found_within}
use Rattle.fed_script.proofs.plain.quote_in.Goals as goal

pub returns : goal.returns
returns c = found_within 34 c.args.rest.now c.memchr.result c.memchr.ensures
