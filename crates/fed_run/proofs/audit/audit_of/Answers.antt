use Rattle.std.proofs.Common.{arith}
use Rattle.fed_run.specs.Recorded.{recorded_in}
use Rattle.fed_run.proofs.transcripts.Reads.{may_be_audited}
use Rattle.fed_run.proofs.audit.audit_of.Goals as goal

pub audited-requires-clause-rising : goal.audited-requires-clause-rising
audited-requires-clause-rising c = (may_be_audited c.args.bytes.now (recorded_in c.in-Ok.recorded) c.in-Ok.ensures).rising

pub audited-requires-clause-few : goal.audited-requires-clause-few
audited-requires-clause-few c =
    let few = (may_be_audited c.args.bytes.now (recorded_in c.in-Ok.recorded) c.in-Ok.ensures).few in omega arith
