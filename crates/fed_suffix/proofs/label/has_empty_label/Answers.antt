use Rattle.std.proofs.Common.{sym, ◌∙◌, rules, tests}
use Rattle.std.specs.List.{slice_split}
use Rattle.std.proofs.lemmas.Iterator.Search.{any_from_yields_List}
use Rattle.std.proofs.lemmas.Iterator.Splits.{YieldsList-from_slice_split}
use Rattle.fed_suffix.specs.Label.{is_dot, is_empty}
use Rattle.fed_suffix.proofs.labels.Label.{list_any-reverse}
use Rattle.fed_suffix.proofs.label.has_empty_label.Goals as goal

pub returns : goal.returns
returns c =
    any_from_yields_List is_empty _ _ _ c.any.ensures.ran
    (YieldsList-from_slice_split _ is_dot c.args.name.now c.split.ensures.rest c.split.ensures.done c.split.ensures.closure
    (λ x r q k. search (rules, tests)))
    (λ x b q k. search (rules, tests))
    ∙ sym (list_any-reverse is_empty (slice_split is_dot c.args.name.now))
