use Rattle.std.proofs.Common.{ap, ◌∙◌}
use Rattle.fed_origin.specs.Status.{same_triple}
use Rattle.fed_status.specs.Kept.{has_triple, but_triple}
use Rattle.fed_status.specs.Table.{triples_of}
use Rattle.fed_status.proofs.lists.Others.{put_last-others, others_after}
use Rattle.fed_status.proofs.lists.Same.{same_triple_self}
use Rattle.fed_status.proofs.kept.KeptSet.add.Goals as goal

pub returns-clause-others : goal.returns-clause-others
returns-clause-others c =
    others_after c.add.result (but_triple c.args.triple) _ _ _ c.add.ensures.ok c.add.ensures.err
    (put_last-others (same_triple c.args.triple) c.args.triple (same_triple_self c.args.triple)
    (has_triple (triples_of c.self.inside.table) c.args.triple) (triples_of c.self.inside.table))
    ∙ ap (but_triple c.args.triple) c.self.view_is
