use Rattle.std.proofs.Common.{◌≡◌, take}
use Rattle.fed_session.proofs.view.shown_logins.Given as goal

-- The statuses so far were shown.
abbrev pub invariant-loop-place : goal.invariant-loop-place
invariant-loop-place l = l.shown ≡ take l.place l.fn.login
