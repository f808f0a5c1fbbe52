use Rattle.std.proofs.Common.{◌≡◌, ◌+◌, length, Ok, None, refl, sym, ap, subst, ◌∙◌, arith}
use Rattle.std.specs.Prelude.{IsAscii, option_map, string_bytes}
use Rattle.std.specs.Option.{option_copied}
use Rattle.url.specs.Parser.{parse_url}
use Rattle.fed_origin.specs.Layout.{IsLayoutOf}
use Rattle.fed_origin.specs.Plain.{plain_parts}
use Rattle.fed_origin.proofs.urls.Reads.{parts_are, same_parts}
use Rattle.fed_origin.proofs.urls.PlainUrl.{valid, ascii, room, reads_plain, spelled, path_place, query_place, end_place, host_place}
use Rattle.fed_origin.proofs.layout.Layout.of_plain.Goals as goal

pub range-requires-clause-start_boundary : goal.range-requires-clause-start_boundary
range-requires-clause-start_boundary c =
    let low = ascii _ _ _ _ c.requires in
    let within = room _ _ _ _ c.requires in
    λ _. (omega arith, λ inside high. absurd (omega (arith, low 8)))

pub range-requires-clause-end_boundary : goal.range-requires-clause-end_boundary
range-requires-clause-end_boundary c =
    let low = ascii _ _ _ _ c.requires in
    let within = room _ _ _ _ c.requires in
    (omega arith, λ inside high. absurd (omega (arith, low (8 + length c.args.plain.host.now))))

pub invariant_of-result : goal.invariant_of-result
invariant_of-result c =
    let host = c.args.plain.host.now in
    let path = c.args.plain.path.now in
    let query = option_copied c.args.plain.query in
    let same = c.in_ok-from_str.ensures.ok in
    let again : parse_url None (string_bytes c.in_ok-from_str.field-0) ≡ Ok (plain_parts host path query) = ap (parse_url None) same
    ∙ reads_plain _ host path query None c.requires in
    let read = parts_are _ (plain_parts host path query) again in
    subst (IsLayoutOf _) (sym read) (record {
      read = read;
      again = again;
      spelled = same ∙ spelled _ host path query c.requires;
      ascii = subst IsAscii (sym same) (ascii _ host path query c.requires);
      valid = valid host path query _ c.requires;
      web = refl;
      origin = same_parts refl (c.in_ok-host.ensures ∙ c.range.ensures.value ∙ host_place _ host path query _ c.requires refl) refl;
      path = path_place host path query;
      query = c.marked-query.ensures ∙ ap (λ n. option_map (λ _. n) query) (query_place host path query);
      end = end_place _ host path query c.requires;
    })

pub returns : goal.returns
returns c =
    let host = c.args.plain.host.now in
    let path = c.args.plain.path.now in
    let query = option_copied c.args.plain.query in
    parts_are _ (plain_parts host path query) (ap (parse_url None) c.in_ok-from_str.ensures.ok
    ∙ reads_plain _ host path query None c.requires)
