use Rattle.std.proofs.Common.{sym, ap, ◌∙◌}
use Rattle.std.proofs.lemmas.Result.{IfOk-weaker}
use Rattle.fed_jar.specs.Cookie.{kept_under}
use Rattle.fed_jar.specs.Parts.{numbered_cookies}
use Rattle.fed_jar.proofs.parts.Kept.{cookies_numbered}
use Rattle.fed_jar.proofs.parts.Put.{part_cookies}
use Rattle.fed_jar.proofs.jar.Jar.list_of.Goals as goal

pub returns : goal.returns
returns c =
    IfOk-weaker c.copies.result _ _
    (λ list is. is
    ∙ ap numbered_cookies c.of_party.ensures
    ∙ cookies_numbered (kept_under c.args.party.now c.args.self.now.kept)
    ∙ sym (part_cookies c.args.rules.now c.args.party.now c.args.self.now.kept c.requires))
    c.copies.ensures
