use Rattle.std.proofs.Common.{◌∙◌, sym, ap, subst, map}
use Rattle.fed_session.specs.Session.{State, Stands, with_stage}
use Rattle.fed_session.proofs.shown.View.{shown}
use Rattle.fed_session.proofs.session.Session.view.Goals as goal

pub returns-clause-shows : goal.returns-clause-shows
returns-clause-shows c = λ T h.
    let stands = subst (λ (s : State). Stands s T) (sym c.self.view_is) h in
    record {
      now = stands.time;
      login = c.in_ok-shown_logins.ensures ∙ stands.login;
      kept = c.in_ok-list.ensures ∙ stands.kept;
      silent = c.in_ok-shown_flags.ensures ∙ stands.flags;
      cookies = c.from_vec.ensures ∙ c.in_ok-list-2.ensures ∙ stands.cookies;
      pages = c.in_ok-shown_pages.ensures ∙ stands.pages;
      calls = ap (map with_stage) c.in_ok-shown_calls.ensures ∙ shown _ T stands;
    }
