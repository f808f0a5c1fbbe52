use Rattle.std.proofs.Common.{◌∙◌, ap, is_some, sym}
use Rattle.fed_status.proofs.numbers.Tables.{present, with_names}
use Rattle.fed_status.proofs.table.Table.add.Goals as goal

pub returns-in_err-pair-clause-table : goal.returns-in_err-pair-clause-table
returns-in_err-pair-clause-table c = with_names c.args.self.now c.requires c.enter.new.self c.enter.ensures.grows

pub returns-then-is_some-clause-ok : goal.returns-then-is_some-clause-ok
returns-then-is_some-clause-ok c =
    present _ (with_names c.args.self.now c.requires c.enter.new.self c.enter.ensures.grows) c.args.triple c.in_ok-pair.pair
    c.in_ok-pair.ensures.pair (ap is_some (sym c.find.ensures) ∙ sym c.is_some.ensures ∙ c.if-is_some.true)

pub returns-then-is_some-clause-table : goal.returns-then-is_some-clause-table
returns-then-is_some-clause-table c = with_names c.args.self.now c.requires c.enter.new.self c.enter.ensures.grows

pub put-requires-clause-table : goal.put-requires-clause-table
put-requires-clause-table c = with_names c.args.self.now c.requires c.enter.new.self c.enter.ensures.grows
