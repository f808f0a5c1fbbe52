use Rattle.std.proofs.Common.{◌≡◌, Ok, true, sym, ap, ◌∙◌}
use Rattle.std.proofs.lemmas.Slice.Eq.{bytes_eq-Decides}
use Rattle.std.specs.Prelude.{bytes_eq, string_bytes}
use Rattle.url.specs.Parser.{parse_url}
use Rattle.url.specs.Parts.{serialize}
use Rattle.fed_origin.specs.Layout.{parts_of_text}
use Rattle.fed_origin.specs.WebUrl.{web_part}
use Rattle.fed_origin.proofs.urls.Reads.{reads_itself}
use Rattle.fed_origin.proofs.layout.Layout.is_text.Goals as goal

pub returns-clause-read : goal.returns-clause-read
returns-clause-read c told base =
    let i = c.self.invariant in
    let url = parts_of_text (string_bytes c.self.inside.text) in
    let equal : bytes_eq c.as_str.result.now c.args.text.now ≡ true = sym c.eq.ensures ∙ told in
    let same : c.args.text.now ≡ serialize url = sym ((bytes_eq-Decides c.as_str.result.now c.args.text.now).0 equal)
    ∙ c.as_str.ensures.value
    ∙ i.spelled in
    ap (λ t. web_part (parse_url base t)) same
    ∙ ap web_part (reads_itself url base i.valid i.web)
    ∙ i.web
    ∙ ap Ok c.self.view_is
