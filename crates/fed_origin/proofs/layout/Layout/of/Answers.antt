use Rattle.std.proofs.Common.{◌≡◌, Ok, None, sym, ap, subst, ◌∙◌}
use Rattle.std.specs.Prelude.{IsAscii, string_bytes}
use Rattle.url.specs.Parser.{parse_url}
use Rattle.url.proofs.ValidLemmas.{IsAscii-serialize}
use Rattle.fed_origin.specs.Layout.{IsLayoutOf}
use Rattle.fed_origin.proofs.urls.Reads.{reads_itself, parts_are, same_parts}
use Rattle.fed_origin.proofs.layout.Layout.of.Goals as goal

pub invariant_of-result : goal.invariant_of-result
invariant_of-result c =
    let url = c.args.url in
    let valid = c.port.ensures.valid in
    let again : parse_url None (string_bytes c.from-text.result) ≡ Ok url = ap (parse_url None) c.from-text.ensures
    ∙ reads_itself url None valid c.requires in
    let read = parts_are _ url again in
    subst (IsLayoutOf _) (sym read) (record {
      read = read;
      again = again;
      spelled = c.from-text.ensures;
      ascii = subst IsAscii (sym c.from-text.ensures) (IsAscii-serialize url valid);
      valid = valid;
      web = c.requires;
      origin = same_parts c.scheme_of-scheme.ensures (c.in_ok-host.ensures ∙ c.host_text.ensures.value)
          (c.unwrap_or-port.ensures ∙ rw (c.port.ensures.value, c.own_port.ensures, c.scheme_of-scheme.ensures));
      path = c.index-path.ensures;
      query = c.query_mark-query.ensures;
      end = c.index-end.ensures;
    })

pub returns : goal.returns
returns c =
    let url = c.args.url in
    parts_are _ url (ap (parse_url None) c.from-text.ensures ∙ reads_itself url None c.port.ensures.valid c.requires)
