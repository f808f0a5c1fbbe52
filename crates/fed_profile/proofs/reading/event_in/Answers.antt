use Rattle.std.proofs.Common.{sym, ap, ◌∙◌, subst}
use Rattle.fed_io.specs.Fault.{Refuses}
use Rattle.fed_script.specs.Line.{event_of}
use Rattle.fed_profile.proofs.read.Events.{none_read, some_read}
use Rattle.fed_profile.proofs.reading.event_in.Goals as goal

pub returns-in-Ok : goal.returns-in-Ok
returns-in-Ok c = some_read c.args.rules.now c.args.now c.args.line.now c.new-used.result c.in-Ok.event c.in-Ok.ensures.answer

pub returns-in-Err-Step : goal.returns-in-Err-Step
returns-in-Err-Step c =
    let line = c.args.line.now in
    let told =
    subst (λ f. Refuses f (event_of line c.new-used.result)) c.in-Err-Step.field-0-is c.in-Err-Step.ensures.answer in
    sym (none_read c.args.rules.now c.args.now line c.in-Err-Step.field-0-0 (ap (event_of line) (sym c.new-used.ensures) ∙ told))
