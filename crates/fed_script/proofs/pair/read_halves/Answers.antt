use Rattle.fed_script.specs.Script.{script_of}
use Rattle.fed_script.proofs.halves.Half.{first_refused, second_refused}
use Rattle.fed_script.proofs.pair.read_halves.Goals as goal

pub returns-in-Err : goal.returns-in-Err
returns-in-Err c = first_refused c.args.before (script_of c.args.first.now) (script_of c.args.second.now) c.in-Err.fault c.in-Err.ensures

pub returns-in-Err-read_half : goal.returns-in-Err-read_half
returns-in-Err-read_half c =
    second_refused c.args.before (script_of c.args.first.now) (script_of c.args.second.now) c.in-Ok.first c.in-Err-read_half.fault
    c.in-Ok.ensures c.in-Err-read_half.ensures
