use Rattle.std.proofs.Common.{ap, ◌∙◌}
use Rattle.fed_origin.specs.Status.{same_triple}
use Rattle.fed_status.specs.Kept.{triple_of, but_triple}
use Rattle.fed_status.specs.Table.{triples_of}
use Rattle.fed_status.proofs.lists.Others.{remove_key-others}
use Rattle.fed_status.proofs.kept.KeptSet.remove.Goals as goal

pub returns-clause-others : goal.returns-clause-others
returns-clause-others c =
    ap (but_triple (triple_of c.args.page.now c.args.provider.now c.args.account.now)) c.remove.ensures.value
    ∙ remove_key-others (same_triple (triple_of c.args.page.now c.args.provider.now c.args.account.now)) (triples_of c.self.inside.table)
    ∙ ap (but_triple (triple_of c.args.page.now c.args.provider.now c.args.account.now)) c.self.view_is
