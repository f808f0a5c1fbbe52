use Rattle.std.proofs.Common.{◌+◌, ap, length}
use Rattle.fed_run.proofs.lives.Fed.{fed_front}
use Rattle.fed_run.proofs.live.Live.feed_front.Goals as goal

pub returns-in-Ok-clause-none : goal.returns-in-Ok-clause-none
returns-in-Ok-clause-none c =
    fed_front _ c.args.self.now _ c.args.front.now (ap (λ n. n + length c.args.front.now) c.in-Ok.ensures.count) c.requires
    c.in-Ok.ensures.none
