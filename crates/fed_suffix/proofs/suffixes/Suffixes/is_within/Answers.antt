use Rattle.std.proofs.Common.{ap, ◌∙◌}
use Rattle.std.specs.List.{list_all}
use Rattle.std.specs.FinSet as set
use Rattle.fed_suffix.specs.Packed.{rules_in}
use Rattle.fed_suffix.proofs.sets.Set.{is_subset-from_list}
use Rattle.fed_suffix.proofs.suffixes.Suffixes.is_within.Goals as goal

pub returns : goal.returns
returns c =
    let list = c.self.inside in
    c.are_within.ensures
    ∙ (λ i. list_all (set.contains (c.other.view_is i)) (rules_in (c.as_slice.ensures.value i) (c.as_slice-2.ensures.value i)))
    ∙ is_subset-from_list (rules_in list.texts.items list.marks.items) c.args.other.now
    ∙ ap (λ rules. set.is_subset rules c.args.other.now) (c.self.invariant.same ∙ c.self.view_is)
