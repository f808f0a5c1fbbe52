use Rattle.std.proofs.Common.{Option, sym, ap, ap₂, ◌∙◌}
use Rattle.url.specs.Parts.{Parts}
use Rattle.fed_reply.specs.Members.{text_under}
use Rattle.fed_reply.proofs.asked.Found.{found_at}
use Rattle.fed_provider.specs.declared.metadata.PolicyLinks.{PolicyLinks}
use Rattle.fed_provider.specs.Metadata.{link_by, links_of, MetadataOf}
use Rattle.fed_provider.proofs.metadata.links_of_reply.Goals as goal

abbrev made : Option Parts → Option Parts → PolicyLinks
made privacy terms = record { privacy = privacy; terms = terms }

pub returns-in_ok-terms-in-Ok : goal.returns-in_ok-terms-in-Ok
unfolding MetadataOf
returns-in_ok-terms-in-Ok c =
    let read = c.in-Ok.ensures in
    let file = read.0 in
    let after = c.read_texts.new.asked in
    ap₂ made
    (c.in_ok-privacy-in-Ok.ensures
    ∙ ap link_by (found_at 0 after _ _ read.2 ∙ ap (λ a. text_under a.name.now file) c.new.ensures))
    (c.in_ok-terms-in-Ok.ensures
    ∙ ap link_by (found_at 1 after _ _ read.2 ∙ ap (λ a. text_under a.name.now file) c.new-2.ensures))
    ∙ sym (ap links_of read.1)
