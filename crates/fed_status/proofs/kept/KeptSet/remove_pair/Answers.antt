use Rattle.std.proofs.Common.{ap, ◌∙◌}
use Rattle.fed_status.specs.Kept.{triples_of_pair, without_each}
use Rattle.fed_status.specs.Table.{triples_of}
use Rattle.fed_status.proofs.removals.PairGoes.{without_pair-each}
use Rattle.fed_status.proofs.kept.KeptSet.remove_pair.Goals as goal

pub returns-clause-each : goal.returns-clause-each
returns-clause-each c =
    c.remove_pair.ensures.value
    ∙ without_pair-each (triples_of c.self.inside.table) c.args.page.now c.args.provider.now
    ∙ ap (λ kept. without_each kept (triples_of_pair kept c.args.page.now c.args.provider.now)) c.self.view_is
