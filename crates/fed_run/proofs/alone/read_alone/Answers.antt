use Rattle.fed_script.specs.Script.{script_of}
use Rattle.fed_run.proofs.transcripts.Reads.{script_stops}
use Rattle.fed_run.proofs.alone.read_alone.Goals as goal

pub returns-in-Err-Step : goal.returns-in-Err-Step
returns-in-Err-Step c =
    rw c.stop_at.ensures
    (script_stops (script_of c.args.bytes.now) c.in-Err-Step.bad (rw c.in-Err-Step.field-0-is at c.in-Err-Step.ensures))
