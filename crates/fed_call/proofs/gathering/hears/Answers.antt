use Rattle.std.proofs.Common.{refl}
use Rattle.fed_call.specs.declared.progress.Progress.TheVariants.{Reading, Listing, Dropped}
use Rattle.fed_call.proofs.providers.Left.{some_there}
use Rattle.fed_call.proofs.providers.May.{fits_gathering, has_some, inside, may_set, may_settle}
use Rattle.fed_call.proofs.gathering.hears.Goals as goal

pub with_progress-progress-requires : goal.with_progress-progress-requires
with_progress-progress-requires c = inside c.args.begun.providers c.args.progress c.args.place c.requires.may c.requires.known

pub settles-requires-clause-some : goal.settles-requires-clause-some
settles-requires-clause-some c = has_some c.args.begun.providers c.args.place c.requires.known

pub settles-requires-clause-may : goal.settles-requires-clause-may
settles-requires-clause-may c =
    rw c.with_progress-progress.ensures
    (may_settle c.args.begun.providers c.args.progress c.args.place (Dropped c.of_provider-failure.result) c.requires.may c.requires.known
    refl)

pub with_progress-progress-requires-in-Waits : goal.with_progress-progress-requires-in-Waits
with_progress-progress-requires-in-Waits c = inside c.args.begun.providers c.args.progress c.args.place c.requires.may c.requires.known

pub pending-requires : goal.pending-requires
pending-requires c =
    let there = some_there c.args.begun.providers c.args.place c.requires.known in
    rw c.with_progress-progress-in-Waits.ensures
    (fits_gathering _ _ c.requires.several
    (may_set c.args.begun.providers c.args.progress c.args.place there.0 (Reading c.in-Waits.replies) c.requires.may there.1
    (rw there.1 at c.requires.secure)))

pub with_progress-progress-requires-in-Both : goal.with_progress-progress-requires-in-Both
with_progress-progress-requires-in-Both c = inside c.args.begun.providers c.args.progress c.args.place c.requires.may c.requires.known

pub pending-requires-in-Both : goal.pending-requires-in-Both
pending-requires-in-Both c =
    let there = some_there c.args.begun.providers c.args.place c.requires.known in
    rw c.with_progress-progress-in-Both.ensures
    (fits_gathering _ _ c.requires.several
    (may_set c.args.begun.providers c.args.progress c.args.place there.0 (Listing c.in-Both.config) c.requires.may there.1 refl))
