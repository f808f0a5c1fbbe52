use Rattle.std.proofs.Common.{inl, inr, option_map, sym, ap, ◌∙◌}
use Rattle.fed_origin.specs.Host.{host_kind}
use Rattle.fed_suffix.specs.Label.{labels_of, name_of}
use Rattle.fed_suffix.specs.Registrable.{registrable_labels}
use Rattle.fed_suffix.proofs.sets.Set.{registrable-name, registrable-V4, registrable-V6}
use Rattle.fed_suffix.proofs.suffixes.Suffixes.registrable.Goals as goal

pub returns-in-Name : goal.returns-in-Name
returns-in-Name c =
    let text = c.as_bytes.ensures.value ∙ c.as_str.ensures ∙ c.host.view_is in
    let kind = ap host_kind (sym c.host.view_is) ∙ sym c.host.invariant.0 ∙ c.in-Name.is in
    c.of_name.ensures ∙ ap (λ t. option_map name_of (registrable_labels c.args.self.now (labels_of t))) text
    ∙ sym (registrable-name c.args.self.now c.args.host.now kind)

pub returns-in-V4 : goal.returns-in-V4
returns-in-V4 c =
    let kind = ap host_kind (sym c.host.view_is) ∙ sym c.host.invariant.0 in
    elim c.in-V4.is [
      | inl four ↦ sym (registrable-V4 c.args.self.now c.args.host.now (kind ∙ four))
      | inr six ↦ sym (registrable-V6 c.args.self.now c.args.host.now (kind ∙ six))
    ]
