use Rattle.std.proofs.Common.{◌∙◌, ap, refl, is_some, nat_eq}
use Rattle.std.specs.Map.{values_of, remove_entry}
use Rattle.fed_status.proofs.numbers.Tables.{fresh, goes_again, put_last, undone, with_one}
use Rattle.fed_status.proofs.table.Table.put.Goals as goal

pub insert_new-requires : goal.insert_new-requires
insert_new-requires c = ap is_some (fresh c.args.self.now c.requires.table)

pub returns-in-Ok-clause-ok : goal.returns-in-Ok-clause-ok
returns-in-Ok-clause-ok c =
    ap values_of c.in_ok-insert_new.ensures.ok
    ∙ put_last c.args.self.now c.requires.table c.args.triple c.args.pair c.requires.pair c.requires.absent

pub returns-in-Ok-clause-table : goal.returns-in-Ok-clause-table
returns-in-Ok-clause-table c =
    with_one c.args.self.now c.requires.table c.args.triple c.args.pair c.requires.pair c.requires.absent
    _ refl c.in_ok-insert_new.ensures.ok c.in-Ok.ensures.ok c.in-Some.ensures.1

pub returns-in-Err-clause-err : goal.returns-in-Err-clause-err
returns-in-Err-clause-err c =
    ap values_of (c.remove.ensures ∙ ap (remove_entry (nat_eq c.args.self.now.next)) c.in_ok-insert_new.ensures.ok
    ∙ goes_again c.args.self.now c.requires.table c.args.triple)

pub returns-in-Err-clause-table : goal.returns-in-Err-clause-table
returns-in-Err-clause-table c =
    undone c.args.self.now c.requires.table _ refl
    (c.remove.ensures ∙ ap (remove_entry (nat_eq c.args.self.now.next)) c.in_ok-insert_new.ensures.ok
    ∙ goes_again c.args.self.now c.requires.table c.args.triple)
    refl c.in-Err.ensures.err
