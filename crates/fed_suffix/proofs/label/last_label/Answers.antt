use Rattle.std.proofs.Common.{rules}
use Rattle.std.proofs.lemmas.List.{take_rest}
use Rattle.fed_suffix.proofs.labels.Label.{labels_of-none, labels_of-last, joined-last}
use Rattle.fed_suffix.proofs.label.last_label.Goals as goal

pub returns-in-Some-clause-labels : goal.returns-in-Some-clause-labels
returns-in-Some-clause-labels c =
    let found = labels_of-last c.args.text.now c.in-Some.dot (search rules) (search rules) (search rules) in
    rw (found, take_rest)

pub returns-in-Some-clause-text : goal.returns-in-Some-clause-text
returns-in-Some-clause-text c =
    let found = joined-last c.args.text.now c.in-Some.dot (search rules) (search rules) in
    rw take_rest found

pub returns-in-None-clause-labels : goal.returns-in-None-clause-labels
returns-in-None-clause-labels c = labels_of-none c.args.text.now (search rules)
