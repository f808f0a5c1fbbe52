use Rattle.std.proofs.Common.{ap, ◌∙◌}
use Rattle.std.proofs.lemmas.Result.{IfOk-weaker}
use Rattle.fed_provider.specs.FirstReplies.{reply_heard}
use Rattle.fed_status.specs.Shared.{world_of}
use Rattle.fed_disconnect.proofs.replies.Heard.{reading_hears}
use Rattle.fed_disconnect.proofs.reading.hears.Goals as goal

pub returns-clause-state : goal.returns-clause-state
returns-clause-state c =
    let heard = c.in_ok-heard.ensures ∙ ap (λ config. reply_heard (world_of c.args.shared.now).rules c.args.replies
    config c.args.kind c.args.raw.now) c.config.ensures.value in
    IfOk-weaker c.goes_on.result _ _ (λ r says. says ∙ reading_hears (world_of c.args.shared.now) c.args.begun c.args.replies
    c.args.kind c.args.raw.now c.in_ok-heard.heard heard) c.goes_on.ensures.state
