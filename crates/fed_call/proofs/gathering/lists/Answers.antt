use Rattle.fed_call.proofs.providers.May.{has_some, inside, may_settle}
use Rattle.fed_call.proofs.gathering.lists.Goals as goal

pub with_progress-progress-requires : goal.with_progress-progress-requires
with_progress-progress-requires c = inside c.args.begun.providers c.args.progress c.args.place c.requires.may c.requires.known

pub settles-requires-clause-some : goal.settles-requires-clause-some
settles-requires-clause-some c = has_some c.args.begun.providers c.args.place c.requires.known

pub settles-requires-clause-may : goal.settles-requires-clause-may
settles-requires-clause-may c =
    rw c.with_progress-progress.ensures
    (may_settle c.args.begun.providers c.args.progress c.args.place c.args.came c.requires.may c.requires.known c.requires.settled)
