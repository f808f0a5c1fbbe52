use Rattle.fed_script.specs.Script.{lines_of, script_of}
use Rattle.fed_run.proofs.transcripts.Reads.{divided_reads, divided_refused}
use Rattle.fed_run.proofs.recorded.read_divided.Goals as goal

pub returns-in-Ok : goal.returns-in-Ok
returns-in-Ok c =
    divided_reads c.args.before (script_of c.args.script.now) (lines_of c.args.text.now) c.in-Ok.script c.in-Ok.ensures

pub returns-in-Err : goal.returns-in-Err
returns-in-Err c =
    divided_refused c.args.before (script_of c.args.script.now) (lines_of c.args.text.now) c.in-Err.fault c.in-Err.ensures
