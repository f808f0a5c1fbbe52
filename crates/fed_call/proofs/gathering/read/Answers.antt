use Rattle.std.proofs.Common.{◌≡◌, Some, None, refl, sym}
use Rattle.std.specs.Prelude.{slice_get}
use Rattle.fed_call.proofs.providers.May.{may_at}
use Rattle.fed_call.proofs.gathering.read.Goals as goal

pub read_by-requires : goal.read_by-requires
read_by-requires c =
    let at : slice_get c.args.progress.now c.args.incoming.now.place ≡ Some c.in-Some.so_far.now =
    sym (rw c.in-Some.is at c.progress_at.ensures) in
    may_at c.args.begun.now.providers c.args.progress.now c.args.incoming.now.place c.provider_of-provider.result.now
    c.in-Some.so_far.now c.requires.may c.provider_of-provider.ensures at

pub returns-in-Some-clause-came : goal.returns-in-Some-clause-came
returns-in-Some-clause-came c =
    let at : slice_get c.args.progress.now c.args.incoming.now.place ≡ Some c.in-Some.so_far.now =
    sym (rw c.in-Some.is at c.progress_at.ensures) in
    rw (c.provider_of-provider.ensures, at) c.read_by.ensures.came

pub returns-in-None-clause-came : goal.returns-in-None-clause-came
returns-in-None-clause-came c =
    let at : slice_get c.args.progress.now c.args.incoming.now.place ≡ None = sym (rw c.in-None.is at c.progress_at.ensures) in
    rw (c.provider_of-provider.ensures, at) refl
