use Rattle.std.proofs.Common.{ap, ◌∙◌}
use Rattle.std.proofs.lemmas.Result.{IfOk-weaker}
use Rattle.fed_jar.specs.Cookie.{cookies_in}
use Rattle.fed_jar.specs.Parts.{lists_of}
use Rattle.fed_jar.proofs.parts.Kept.{cookies_by_number}
use Rattle.fed_jar.proofs.jar.Jar.list.Goals as goal

pub returns-clause-value : goal.returns-clause-value
returns-clause-value c =
    IfOk-weaker c.all_cookies.result _ _ (λ list is. is ∙ cookies_by_number (lists_of (λ key. key.items) c.self.inside.parties.entries)
    ∙ ap cookies_in c.self.view_is) c.all_cookies.ensures
