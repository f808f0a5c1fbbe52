-- The first line ends at the first LF, or is all.
use Rattle.std.proofs.Common.{◌<◌, length, arith}
use Rattle.std.proofs.lemmas.Bool.Decides.{nat_tests}
use Rattle.std.proofs.lemmas.List.{take_rest}
use Rattle.fed_script.proofs.lines.Line.{lines_of-cut, lines_of-whole}
use Rattle.fed_script.proofs.bytes.next_line.Goals as goal

pub returns-in-Some-clause-lines : goal.returns-in-Some-clause-lines
returns-in-Some-clause-lines c = rw take_rest (lines_of-cut c.args.rest.now c.in-Some.end c.in-Some.ensures.within c.in-Some.ensures.place)

pub returns-in-None-clause-lines : goal.returns-in-None-clause-lines
returns-in-None-clause-lines c =
    let some : 0 < length c.args.rest.now = grind (arith, nat_tests, c.if-is_empty.ensures) in
    lines_of-whole c.args.rest.now some c.in-None.ensures.place
