use Rattle.std.proofs.Common.{◌<◌, Some, ◌∙◌, sym, ap, subst, arith}
use Rattle.std.specs.Prelude.{slice_index, string_bytes}
use Rattle.fed_origin.specs.Layout.{parts_of_text}
use Rattle.fed_origin.proofs.urls.Places.{query_is, end_within}
use Rattle.fed_origin.proofs.layout.Layout.query.Goals as goal

pub range-requires-clause-end_boundary : goal.range-requires-clause-end_boundary
range-requires-clause-end_boundary c =
    let i = c.self.invariant in
    let url = parts_of_text (string_bytes c.self.inside.text) in
    let low : slice_index c.as_str.result.now c.self.inside.end < 128 = subst (λ t. slice_index t c.self.inside.end < 128) (sym
    c.as_str.ensures.value) (i.ascii c.self.inside.end) in (
      end_within c.as_str.result.now url c.self.inside.end (c.as_str.ensures.value ∙ i.spelled) i.end,
      λ inside high. absurd (omega arith),
    )

pub returns-in-Some : goal.returns-in-Some
returns-in-Some c =
    let i = c.self.invariant in
    let url = parts_of_text (string_bytes c.self.inside.text) in
    ap Some c.range.ensures.value
    ∙ query_is c.as_str.result.now url c.in-Some.mark c.self.inside.end (c.as_str.ensures.value ∙ i.spelled) (sym c.in-Some.is
    ∙ i.query) i.end
    ∙ ap (λ u. u.query) c.self.view_is
