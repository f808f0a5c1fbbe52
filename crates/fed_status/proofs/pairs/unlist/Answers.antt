use Rattle.std.proofs.Common.{◌∙◌, sym}
use Rattle.fed_status.proofs.numbers.Listed.{lists_nothing}
use Rattle.fed_status.proofs.pairs.unlist.Goals as goal

pub returns-then-not-has_some : goal.returns-then-not-has_some
returns-then-not-has_some c = λ kept id stands found p a.
    lists_nothing c.args.pair c.list_less.new.pairs.entries c.take.new.pairs.entries
    (sym c.has_some.ensures ∙ c.if-not-has_some.true) c.take.ensures.others kept p a
    ∙ c.list_less.ensures kept id stands found p a
