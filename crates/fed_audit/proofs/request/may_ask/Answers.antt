use Rattle.std.proofs.Common.{ap₂, ◌∙◌}
use Rattle.std.specs.Prelude.{◌&&◌, not}
use Rattle.fed_audit.specs.Scene.{trace_through}
use Rattle.fed_audit.proofs.consents.Consents.{agreed}
use Rattle.fed_audit.proofs.request.may_ask.Goals as goal

pub returns : goal.returns
returns c = λ s h n.
    agreed s c.args.call c.args.provider c.args.body.now c.args.seen.now.asks _ c.in_ok-account.account _ c.are_agreed.result h.stands.run
    h.asks (n.asked c.args.call) c.in_ok-account.ensures (c.account.ensures (trace_through s) h.stands)
    (c.are_agreed.ensures ∙ ap₂ (λ x y. x && y) c.is_pair-asks.ensures (ap₂ (λ x y. not x
    && y) c.has-asked.ensures c.same_text-same.ensures))
