use Rattle.std.proofs.Common.{rules, tests}
use Rattle.std.proofs.lemmas.Iterator.{YieldsList-from_slice}
use Rattle.std.proofs.lemmas.Iterator.Consumers.{count_from_yields_List, YieldsList-from_filter}
use Rattle.fed_run.specs.Make.{is_ignored}
use Rattle.fed_run.proofs.summary.ignored_in.Goals as goal

pub returns : goal.returns
returns c =
    count_from_yields_List c.filter.result c.count.result c.count.ensures.ran
    (YieldsList-from_filter _ is_ignored
    (YieldsList-from_slice c.args.outs.now (cc)) c.filter.ensures.closure (λ x r q k. search (rules, tests)))
