use Rattle.std.proofs.Common.{ap, sym, ◌∙◌, map, arith, rules}
use Rattle.std.specs.Prelude.{codes, slice_get}
use Rattle.fed_head.specs.Section.{name_and_trimmed}
use Rattle.fed_reply.specs.Body.{framing_of}
use Rattle.std.specs.List.{list_all}
use Rattle.http_header.specs.Token.{lowercase}
use Rattle.fed_reply.specs.Fields.{fields_of, is_only, values_in}
use Rattle.fed_reply.specs.Json.{is_json_type}
use Rattle.fed_reply.proofs.head.Asked.{each_asked}
use Rattle.fed_reply.proofs.head.Front.{no_status, front_short}
use Rattle.fed_reply.proofs.head.Values.{values_found}
use Rattle.fed_reply.proofs.json_head.json_head_at.Goals as goal

pub returns-then-not-contains : goal.returns-then-not-contains
returns-then-not-contains c = no_status _ _ _ _ c.requires.1 c.requires.2 (λ range. grind (rules, arith))

pub returns-then-not-are_short : goal.returns-then-not-are_short
returns-then-not-are_short c =
    front_short _ _ _ _ _ c.requires.1 c.requires.2 (search rules) (sym c.if-not-are_short.true ∙ c.are_short.ensures)

pub returns : goal.returns
returns c =
    let at = c.requires.2 in (
      c.requires.0,
      front_short _ _ _ _ _ c.requires.1 at (search rules) (sym c.if-not-are_short.false ∙ c.are_short.ensures),
      record {
        status = at.status;
        is_json =
            c.has_json_type.ensures
            ∙ (ap (λ ps. is_json_type (slice_get (values_in (codes "content-type") ps) 0)) at.fields
            ∙ ap (λ vs. is_json_type (slice_get vs 0))
            (sym (values_found (codes "content-type") (map name_and_trimmed c.requires.0.fields))));
        has_each =
            c.has_each.ensures
            ∙ (ap (λ ps. list_all (λ f. is_only f.1.now (values_in (lowercase f.0.now) ps)) c.args.only.now) at.fields
            ∙ each_asked c.args.only.now (map name_and_trimmed c.requires.0.fields));
        framing = c.body_framing.ensures ∙ ap (λ ps. framing_of (fields_of ps)) at.fields;
        rest = at.rest;
        len = at.len;
      },
    )
