use Rattle.std.proofs.Common.{rules}
use Rattle.std.proofs.lemmas.List.{length-map}
use Rattle.fed_script.proofs.plainly.Gets.{get_event}
use Rattle.fed_script.proofs.plain_get.get_line.Goals as goal

pub returns : goal.returns
returns c =
    let found = rw c.in-Some-2.is at c.in_ok-entries.ensures in
    get_event _ _ _ _ _ _ _ _ c.in-Some-2.active c.in-Some.ensures.text found.names.0 found.names.1 found.text found.plain (rw length-map found.few)
    (search rules) (search rules)
