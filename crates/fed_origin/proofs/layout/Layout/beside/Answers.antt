use Rattle.std.proofs.Common.{◌≡◌, ◌+◌, ◌++◌, take, length, Ok, Some, None, sym, ap, subst, ◌∙◌}
use Rattle.std.specs.Prelude.{IsAscii, option_map, string_bytes}
use Rattle.std.specs.Option.{option_copied}
use Rattle.std.proofs.Math.Nat.{sub-zero}
use Rattle.url.specs.Parser.{parse_url}
use Rattle.url.specs.Parts.{serialize}
use Rattle.url.proofs.ValidLemmas.{IsAscii-serialize}
use Rattle.fed_origin.specs.Layout.{parts_of_text, IsLayoutOf}
use Rattle.fed_origin.specs.Plain.{beside}
use Rattle.fed_origin.specs.WebUrl.{web_part}
use Rattle.fed_origin.proofs.urls.Reads.{reads_itself, parts_are}
use Rattle.fed_origin.proofs.urls.Beside.{beside_valid, beside_web, beside_text, beside_path, beside_query, beside_end, reads_beside}
use Rattle.fed_origin.proofs.layout.Layout.beside.Goals as goal

pub invariant_of-result : goal.invariant_of-result
invariant_of-result c =
    let i = c.self.invariant in
    let base = parts_of_text (string_bytes c.self.inside.text) in
    let path = c.args.tail.path.now in
    let query = option_copied c.args.tail.query in
    let url = beside base path query in
    let valid = beside_valid base path query i.valid i.web c.requires.tail.path c.requires.tail.query in
    let web = beside_web base path query i.web in
    let front : c.range.result.now ≡ take c.self.inside.path c.as_str.result.now = c.range.ensures.value
    ∙ ap (λ n. take n c.as_str.result.now) (sub-zero c.self.inside.path) in
    let spelled : string_bytes c.in_ok-text.text ≡ serialize url =
    c.in_ok-text.ensures ∙ ap (λ t. t ++ c.args.text.now) front
    ∙ beside_text base _ c.args.text.now path query _ i.valid i.web (c.as_str.ensures.value
    ∙ i.spelled) i.path c.requires.tail.spelled in
    let again : parse_url None (string_bytes c.in_ok-text.text) ≡ Ok url = ap (parse_url None) spelled
    ∙ reads_itself url None valid web in
    let read = parts_are _ url again in
    subst (IsLayoutOf _) (sym read) (record {
      read = read;
      again = again;
      spelled = spelled;
      ascii = subst IsAscii (sym spelled) (IsAscii-serialize url valid);
      valid = valid;
      web = web;
      origin = c.in_ok-origin.ensures ∙ i.origin;
      path = i.path ∙ beside_path base path query i.valid i.web;
      query = c.marked-query.ensures ∙ ap (λ n. option_map (λ _. n) query) (ap (λ n. n + length path) i.path
          ∙ beside_query base path query i.valid i.web);
      end = beside_end base path query _ (ap length (c.as_str-end.ensures.value ∙ spelled));
    })

pub returns : goal.returns
returns c =
    let i = c.self.invariant in
    let base = parts_of_text (string_bytes c.self.inside.text) in
    let path = c.args.tail.path.now in
    let query = option_copied c.args.tail.query in
    let url = beside base path query in
    let valid = beside_valid base path query i.valid i.web c.requires.tail.path c.requires.tail.query in
    let web = beside_web base path query i.web in
    let front : c.range.result.now ≡ take c.self.inside.path c.as_str.result.now = c.range.ensures.value
    ∙ ap (λ n. take n c.as_str.result.now) (sub-zero c.self.inside.path) in
    let spelled : string_bytes c.in_ok-text.text ≡ serialize url =
    c.in_ok-text.ensures ∙ ap (λ t. t ++ c.args.text.now) front
    ∙ beside_text base _ c.args.text.now path query _ i.valid i.web (c.as_str.ensures.value
    ∙ i.spelled) i.path c.requires.tail.spelled in
    ap (λ b. web_part (parse_url (Some b) c.args.text.now)) (sym c.self.view_is)
    ∙ ap web_part (reads_beside base c.args.text.now path query i.valid i.web c.requires)
    ∙ web
    ∙ ap Ok (sym (parts_are _ url (ap (parse_url None) spelled ∙ reads_itself url None valid web)))
