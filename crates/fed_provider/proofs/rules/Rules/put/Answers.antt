use Rattle.std.proofs.Common.{Some, subst, sym}
use Rattle.fed_provider.specs.Rules.{IsKept, IsSite}
use Rattle.fed_provider.proofs.kept.Sites.{one_changed}
use Rattle.fed_provider.proofs.rules.Rules.put.Goals as goal

pub invariant_of-self : goal.invariant_of-self
invariant_of-self c =
    one_changed (IsKept c.self.inside.suffixes) c.self.inside.sites.items c.args.place (Some c.args.site) c.self.invariant
    (subst (λ rules. IsSite rules c.args.site) (sym c.self.view_is) c.requires)

pub invariant_of-self-then-place-len-2 : goal.invariant_of-self-then-place-len-2
invariant_of-self-then-place-len-2 c =
    one_changed (IsKept c.self.inside.suffixes) c.self.inside.sites.items c.args.place (Some c.args.site) c.self.invariant
    (subst (λ rules. IsSite rules c.args.site) (sym c.self.view_is) c.requires)
