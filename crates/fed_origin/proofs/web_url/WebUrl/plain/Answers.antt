use Rattle.std.proofs.Common.{Ok, sym, ap, subst, ◌∙◌}
use Rattle.std.specs.Option.{option_copied}
use Rattle.fed_origin.specs.Plain.{IsPlain}
use Rattle.fed_origin.specs.WebUrl.{web_part}
use Rattle.fed_origin.proofs.urls.PlainUrl.{reads_plain}
use Rattle.fed_origin.proofs.web_url.WebUrl.plain.Goals as goal

pub returns-in_ok-new-in-Some : goal.returns-in_ok-new-in-Some
returns-in_ok-new-in-Some c =
    let host = c.in-Some.plain.host.now in
    let path = c.in-Some.plain.path.now in
    let query = option_copied c.in-Some.plain.query in
    let plain = subst (λ t. IsPlain t host path query) c.as_bytes.ensures.value c.in-Some.ensures in
    λ base. ap web_part (reads_plain _ host path query base plain) ∙ ap Ok (sym (c.in_ok-new-in-Some.ensures.ok
    ∙ c.in_ok-layout-in-Some.ensures))
