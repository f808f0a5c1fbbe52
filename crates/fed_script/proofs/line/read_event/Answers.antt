-- What is so of each event that a line names.
use Rattle.fed_script.proofs.events.Event.{named-good}
use Rattle.fed_script.proofs.line.read_event.Goals as goal

pub returns-in_ok-note-in-Ok-clause-provider : goal.returns-in_ok-note-in-Ok-clause-provider
returns-in_ok-note-in-Ok-clause-provider c = (named-good c.args.line.now c.in_ok-event.event c.in_ok-event.ensures.answer).0

pub returns-in_ok-note-in-Ok-clause-status : goal.returns-in_ok-note-in-Ok-clause-status
returns-in_ok-note-in-Ok-clause-status c = (named-good c.args.line.now c.in_ok-event.event c.in_ok-event.ensures.answer).1
