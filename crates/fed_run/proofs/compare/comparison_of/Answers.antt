use Rattle.std.proofs.Common.{arith}
use Rattle.fed_run.specs.Recorded.{recorded_in}
use Rattle.fed_run.proofs.transcripts.Reads.{may_be_audited}
use Rattle.fed_run.proofs.compare.comparison_of.Goals as goal

pub compared-requires : goal.compared-requires
compared-requires c =
    let few = (may_be_audited c.args.bytes.now (recorded_in c.in-Ok.recorded) c.in-Ok.ensures).few in omega arith
