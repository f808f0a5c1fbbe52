use Rattle.std.proofs.Common.{◌≤◌, ◌+◌, ◌*◌, drop, length}
use Rattle.fed_session.specs.StepParts.{cookies_of, world_in}
use Rattle.fed_session.proofs.waits.Turns.{Continues}
use Rattle.fed_session.proofs.resume.resume_all.Given as goal

-- What was done, and what is left, is the whole; and so many links were read and written at most.
abbrev pub invariant-loop-call : goal.invariant-loop-call
invariant-loop-call g l =
    Continues (world_in l.sight) (cookies_of l.sight) l.line l.calls l.fn.tabs (drop l.call-index l.calls) l.tabs l.outs.items
    × (l.steps + 20 * length (drop l.call-index l.calls) ≤ l.fn.steps + 20 * length l.calls)
