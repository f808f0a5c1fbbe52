use Rattle.std.proofs.Common.{◌≡◌, take}
use Rattle.fed_session.proofs.view.shown_flags.Given as goal

-- What stands up to here was shown.
abbrev pub invariant-loop-place : goal.invariant-loop-place
invariant-loop-place l = l.shown ≡ take l.place l.fn.flags
