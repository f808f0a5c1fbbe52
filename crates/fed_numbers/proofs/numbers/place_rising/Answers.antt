use Rattle.std.proofs.Common.{sym, ◌∙◌}
use Rattle.fed_numbers.proofs.rising.Rising.{none_above, searched}
use Rattle.fed_numbers.proofs.numbers.place_rising.Goals as goal

-- src/numbers.rt:117:9
pub returns-then-is_above : goal.returns-then-is_above
returns-then-is_above c = sym (none_above c.args.number c.args.rising.now (c.is_above.ensures c.if-is_above.true))

-- src/numbers.rt:112:1
pub returns : goal.returns
returns c =
    c.ok.ensures.value
    ∙ searched c.args.rising.now c.requires c.args.number c.binary_search.result c.binary_search.ensures.bound
    c.binary_search.ensures.position
