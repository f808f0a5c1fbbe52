use Rattle.std.proofs.Common.{◌∙◌, ap}
use Rattle.fed_table.specs.Lists.{stands_in}
use Rattle.fed_session.specs.StepParts.{awaited_in}
use Rattle.fed_session.proofs.kept.Waiting.{stands_next}
use Rattle.fed_session.proofs.tabs.Tabs.give_back.Goals as goal

pub keep-requires-clause-waits : goal.keep-requires-clause-waits
keep-requires-clause-waits g c =
    ap (stands_in c.args.call) c.in_ok-set_waiting.ensures.ok.waiting
    ∙ stands_next c.args.waited c.args.call (awaited_in c.args.kept) c.args.self.now.table.waits c.requires.waits
