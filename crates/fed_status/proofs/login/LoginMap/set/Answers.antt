use Rattle.fed_origin.specs.Origin.{same_origin}
use Rattle.fed_status.specs.Login.{but_origin}
use Rattle.fed_status.proofs.lists.Others.{insert_entry-others, others_after}
use Rattle.fed_status.proofs.lists.Same.{same_origin_self}
use Rattle.fed_status.proofs.login.LoginMap.set.Goals as goal

pub returns-clause-others : goal.returns-clause-others
returns-clause-others c =
    others_after c.put.result (but_origin c.args.origin.now) _ _ _ c.put.ensures.ok c.put.ensures.err
    (insert_entry-others same_origin c.args.origin.now c.args.status (same_origin_self c.args.origin.now) c.args.self.now)
