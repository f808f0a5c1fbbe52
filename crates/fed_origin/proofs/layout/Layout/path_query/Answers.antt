use Rattle.std.proofs.Common.{◌∙◌, ap}
use Rattle.std.specs.Prelude.{string_bytes}
use Rattle.fed_origin.specs.Layout.{parts_of_text}
use Rattle.fed_origin.proofs.urls.Places.{path_query_is}
use Rattle.fed_origin.specs.WebUrl.{path_query_of}
use Rattle.fed_origin.proofs.layout.Layout.path_query.Goals as goal

pub returns : goal.returns
returns c =
    let i = c.self.invariant in
    let url = parts_of_text (string_bytes c.self.inside.text) in
    c.range.ensures.value
    ∙ path_query_is c.as_str.result.now url c.self.inside.path c.self.inside.end (c.as_str.ensures.value ∙ i.spelled) i.path i.end
    ∙ ap path_query_of c.self.view_is
