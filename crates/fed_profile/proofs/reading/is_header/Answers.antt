use Rattle.std.proofs.Common.{subst}
use Rattle.fed_io.specs.Fault.{Refuses}
use Rattle.fed_script.specs.Line.{header_of}
use Rattle.fed_profile.proofs.read.Headers.{header_told, header_refused}
use Rattle.fed_profile.proofs.reading.is_header.Goals as goal

pub returns-in-Ok : goal.returns-in-Ok
returns-in-Ok c = header_told c.args.rules.now c.args.now (header_of c.args.line.now) c.in-Ok.header c.in-Ok.ensures c.is_same.ensures

pub returns-in-Err-Step : goal.returns-in-Err-Step
returns-in-Err-Step c =
    header_refused c.args.rules.now c.args.now (header_of c.args.line.now) c.in-Err-Step.field-0-0
    (subst (λ f. Refuses f (header_of c.args.line.now)) c.in-Err-Step.field-0-is c.in-Err-Step.ensures)
