use Rattle.std.proofs.Common.{sym, ◌∙◌}
use Rattle.fed_suffix.proofs.sets.Set.{same_rules-then, same_rules-else, tells_equal}
use Rattle.fed_suffix.proofs.suffixes.Suffixes.same.Goals as goal

pub returns-then-is_within-clause-value : goal.returns-then-is_within-clause-value
returns-then-is_within-clause-value c =
    c.is_within-then-is_within.ensures
    ∙ same_rules-then c.args.self.now c.args.other.now (sym c.is_within.ensures ∙ c.if-is_within.true)

pub returns-then-is_within-clause-equal : goal.returns-then-is_within-clause-equal
returns-then-is_within-clause-equal c =
    tells_equal c.args.self.now c.args.other.now _
    (c.is_within-then-is_within.ensures
    ∙ same_rules-then c.args.self.now c.args.other.now (sym c.is_within.ensures ∙ c.if-is_within.true))

pub returns-else-is_within-clause-value : goal.returns-else-is_within-clause-value
returns-else-is_within-clause-value c =
    c.if-is_within.false
    ∙ same_rules-else c.args.self.now c.args.other.now (sym c.is_within.ensures ∙ c.if-is_within.false)

pub returns-else-is_within-clause-equal : goal.returns-else-is_within-clause-equal
returns-else-is_within-clause-equal c =
    tells_equal c.args.self.now c.args.other.now _
    (c.if-is_within.false ∙ same_rules-else c.args.self.now c.args.other.now (sym c.is_within.ensures ∙ c.if-is_within.false))
