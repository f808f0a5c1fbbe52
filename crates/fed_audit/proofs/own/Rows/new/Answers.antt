use Rattle.std.proofs.Common.{refl, subst, ◌∙◌}
use Rattle.fed_session.specs.Session.{Stands}
use Rattle.fed_trace.specs.OfScript.{start}
use Rattle.fed_audit.proofs.rows.Steps.{at_start}
use Rattle.fed_audit.proofs.own.Rows.new.Goals as goal

pub returns : goal.returns
returns c =
    at_start c.args.script.now _ c.events.ensures.read
    (subst (λ h. Stands c.in_ok-new.field-0 (start h)) (c.in_ok-copy.ensures ∙ c.header.ensures) c.in_ok-new.ensures) refl
    c.events.ensures.events c.new-2.ensures
