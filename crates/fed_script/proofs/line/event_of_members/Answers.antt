use Rattle.std.proofs.Common.{subst}
use Rattle.fed_io.specs.Fault.{Answers}
use Rattle.fed_script.proofs.says.Lines.{get_read, event_read, no_kind_read}
use Rattle.fed_script.proofs.line.event_of_members.Goals as goal

pub returns-in-Ok-get : goal.returns-in-Ok-get
returns-in-Ok-get c =
    subst (Answers c.get.result) (get_read c.args.line.now c.read_said.new.said c.in_ok-read_said.ensures
    (rw c.in-Ok-get.is-get at (rw c.in-Ok-get.is at c.kind_of.ensures))) c.get.ensures

pub returns-in-Ok : goal.returns-in-Ok
returns-in-Ok c =
    subst (Answers c.event_of_kind.result) (event_read c.args.line.now c.read_said.new.said c.in-Ok.kind.now c.in_ok-read_said.ensures
    (rw c.in-Ok.is at c.kind_of.ensures) c.in-Ok.not-get) c.event_of_kind.ensures

pub returns : goal.returns
returns c =
    no_kind_read c.args.line.now c.read_said.new.said c.in-Err.cause c.in_ok-read_said.ensures (rw c.in-Err.is at c.kind_of.ensures)
