use Rattle.std.proofs.Common.{rules}
use Rattle.std.proofs.lemmas.List.{take_rest}
use Rattle.fed_suffix.proofs.labels.Label.{labels_in-none, labels_in-first}
use Rattle.fed_suffix.proofs.label.first_label.Goals as goal

pub returns-in-Some : goal.returns-in-Some
returns-in-Some c =
    let found = labels_in-first c.args.text.now c.in-Some.dot (search rules) (search rules) (search rules) in
    rw (found, take_rest)

pub returns-in-None : goal.returns-in-None
returns-in-None c = labels_in-none c.args.text.now (search rules)
