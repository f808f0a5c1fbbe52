use Rattle.std.proofs.Common.{arith}
use Rattle.fed_script.specs.Script.{script_of}
use Rattle.fed_script.proofs.halves.Half.{half_stops}
use Rattle.fed_script.proofs.scripts.Stop.{bad_line-le}
use Rattle.fed_script.proofs.pair.read_half.Goals as goal

pub moved-requires : goal.moved-requires
moved-requires c = omega (arith, bad_line-le c.args.bytes.now c.in-Err-Step.bad (rw c.in-Err-Step.field-0-is at c.in-Err-Step.ensures))

pub returns-in-Err-Step : goal.returns-in-Err-Step
returns-in-Err-Step c =
    rw c.moved.ensures
    (half_stops c.args.before (script_of c.args.bytes.now) c.in-Err-Step.bad (rw c.in-Err-Step.field-0-is at c.in-Err-Step.ensures))
