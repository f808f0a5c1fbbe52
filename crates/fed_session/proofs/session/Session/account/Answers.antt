use Rattle.std.proofs.Common.{◌∙◌, ap, sym, subst}
use Rattle.fed_session.specs.Account.{account_known}
use Rattle.fed_session.specs.Session.{State, Stands}
use Rattle.fed_session.proofs.session.Session.account.Goals as goal

pub returns : goal.returns
returns c = λ T h.
    let stands = subst (λ (s : State). Stands s T) (sym c.self.view_is) h in
    c.account.ensures ∙ ap account_known (stands.known c.args.call)
