use Rattle.std.proofs.Common.{rules, subst, sym}
use Rattle.fed_provider.specs.Rules.{IsKept}
use Rattle.fed_provider.proofs.kept.Sites.{one_changed}
use Rattle.fed_provider.proofs.rules.Rules.keep_config.Goals as goal

pub invariant_of-self : goal.invariant_of-self
invariant_of-self c =
    let before : IsKept c.self.inside.suffixes c.index_mut.result.now =
    subst (IsKept c.self.inside.suffixes) (sym c.index_mut.ensures.value)
    (c.self.invariant c.slot_of-place.result c.index_mut.result.now (search rules)) in
    one_changed (IsKept c.self.inside.suffixes) c.self.inside.sites.items c.slot_of-place.result c.keep_config.new.kept c.self.invariant
    (c.keep_config.ensures c.self.inside.suffixes before)
