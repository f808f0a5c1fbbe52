use Rattle.std.proofs.Common.{◌≡◌, ◌++◌, drop}
use Rattle.fed_session.specs.Session.{item_known}
use Rattle.fed_session.specs.StepParts.{shown_calls}
use Rattle.fed_session.proofs.view.shown_calls.Given as goal

-- What was shown, and what is left, is all.
abbrev pub invariant-loop-call : goal.invariant-loop-call
invariant-loop-call l =
    l.shown ++ shown_calls (item_known l.table.items) (drop l.call-index l.call-items) ≡ shown_calls (item_known l.table.items) l.taken
