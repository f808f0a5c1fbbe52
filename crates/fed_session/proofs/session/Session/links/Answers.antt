use Rattle.std.proofs.Common.{sym, subst}
use Rattle.fed_session.specs.Links.{AreLinked}
use Rattle.fed_session.specs.Session.{State, Stands}
use Rattle.fed_session.proofs.linked.Linked.{linked}
use Rattle.fed_session.proofs.session.Session.links.Goals as goal

pub returns-clause-linked : goal.returns-clause-linked
returns-clause-linked c = λ T h.
    subst (λ (s : State). AreLinked s.tabs.table.links s.tabs.table.nodes T) c.self.view_is
    (linked _ T (subst (λ (s : State). Stands s T) (sym c.self.view_is) h) c.links.ensures.lists)
