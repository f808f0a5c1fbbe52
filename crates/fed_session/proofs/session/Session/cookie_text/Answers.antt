use Rattle.std.proofs.Common.{◌∙◌, sym, subst}
use Rattle.std.proofs.lemmas.Result.{IfOk-weaker}
use Rattle.fed_consent.specs.declared.table.ask.Ask.TheVariants.{Accounts}
use Rattle.fed_session.specs.Session.{State, Stands}
use Rattle.fed_session.proofs.clauses.Sight.{cookies_same}
use Rattle.fed_session.proofs.session.Session.cookie_text.Goals as goal

pub returns-clause-text : goal.returns-clause-text
returns-clause-text c = λ T h.
    let stands = subst (λ (s : State). Stands s T) (sym c.self.view_is) h in
    IfOk-weaker c.text.result _ _ (λ text is. is ∙ cookies_same _ T (Accounts c.args.url.now) stands) c.text.ensures.value
