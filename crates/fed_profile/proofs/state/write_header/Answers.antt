use Rattle.std.proofs.Common.{◌≡◌, ◌↔◌, IsTrue, ◌-◌, length, take, drop, Ok, ap, ap₂, subst, ◌∙◌, arith}
use Rattle.fed_print.specs.Object.{members_of}
use Rattle.fed_script.specs.Line.{header_of}
use Rattle.fed_profile.specs.Lines.{header_members, bare_line}
use Rattle.fed_profile.proofs.read.Cut.{line_behind, line_more}
use Rattle.fed_profile.proofs.state.write_header.Goals as goal

pub line_from-line-requires : goal.line_from-line-requires
line_from-line-requires c =
    let members = members_of c.in_ok-header_object.field-0 in
    let more = line_more c.args.text.now.items c.append_line.new.text.items members c.in_ok-append_line.ensures.ok in
    omega (arith, more, ap length c.as_slice-start.ensures.value, ap length c.as_slice.ensures.value)

pub returns-clause-restores : goal.returns-clause-restores
returns-clause-restores c =
    let rules = c.args.rules.now in
    let now = c.args.now in
    let members = members_of c.in_ok-header_object.field-0 in
    subst (λ line. IsTrue c.in_ok-same.same ↔ (header_of line ≡ Ok (record { rules = rules; now = now })))
    (c.line_from-line.ensures
    ∙ ap₂ (λ t n. take (length t - n - 1) (drop n t)) c.as_slice.ensures.value (ap length c.as_slice-start.ensures.value)
    ∙ line_behind c.args.text.now.items c.append_line.new.text.items members c.in_ok-append_line.ensures.ok
    ∙ ap bare_line (c.in_ok-header_object.ensures ∙ ap (header_members now) c.requires))
    c.in_ok-same.ensures
