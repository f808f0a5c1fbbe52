use Rattle.std.proofs.Common.{◌≡◌, map}
use Rattle.fed_reply.specs.Fields.{values}
use Rattle.fed_trace.specs.Row.{set_login_name}
use Rattle.fed_session.specs.StepParts.{with_statuses, logins_in}
use Rattle.fed_session.proofs.load.set_statuses.Given as goal

-- What is set, and then what is left, is the whole.
abbrev pub invariant-loop-value : goal.invariant-loop-value
invariant-loop-value l =
    with_statuses l.fn.origin (logins_in (map (λ v. v.bytes) l.value-iterator)) l.login
    ≡ with_statuses l.fn.origin (logins_in (values set_login_name l.fn.head.fields)) l.fn.login
