use Rattle.std.proofs.Common.{◌∙◌, sym, subst}
use Rattle.fed_session.specs.Session.{State, Stands}
use Rattle.fed_session.proofs.events.Event.{page_kept}
use Rattle.fed_session.proofs.session.Session.page_origin.Goals as goal

pub returns : goal.returns
returns c = λ T h.
    c.origin.ensures ∙ page_kept _ T c.args.page (subst (λ (s : State). Stands s T) (sym c.self.view_is) h)
