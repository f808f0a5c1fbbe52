use Rattle.std.specs.Prelude.{All}
use Rattle.fed_suffix.specs.Rule.{RuleSet}
use Rattle.fed_provider.specs.Rules.{IsKept}
use Rattle.fed_provider.proofs.rules.no_sites.Given as goal

-- No place has a site.
abbrev pub invariant-loop : goal.invariant-loop
invariant-loop l = (rules : RuleSet) → All (IsKept rules) l.sites.items
