use Rattle.std.proofs.Common.{◌∙◌, subst}
use Rattle.fed_trace.specs.OfScript.{start}
use Rattle.fed_session.specs.Session.{Stands}
use Rattle.fed_run.proofs.save.session_after.Goals as goal

pub take_events-requires : goal.take_events-requires
take_events-requires g c =
    subst (λ h. Stands c.in_ok-session.session (start h)) (c.in_ok-copy.ensures ∙ c.header.ensures) c.in_ok-session.ensures
