use Rattle.std.proofs.Common.{◌∷◌, [], map, append_assoc}
use Rattle.std.specs.Vec.Iter.{into_iter_items}
use Rattle.fed_call.specs.Gathering.{listed_config}
use Rattle.fed_call.proofs.providers.Left.{inside, is_there, one_fewer, one_more, some_there}
use Rattle.fed_call.proofs.offers.gathered.Goals as goal

pub add-requires-clause-known : goal.add-requires-clause-known
add-requires-clause-known c =
    is_there c.args.begun.now.providers c.loop-progress.place
    (inside c.args.begun.now.providers _ c.in-Some.progress c.loop-progress.place
    (rw c.in-Some.ensures.steps.0 at c.loop-progress.invariant.left))

pub loop-progress-preserved : goal.loop-progress-preserved
loop-progress-preserved c =
    let providers = c.args.begun.now.providers in
    let place = c.loop-progress.place in
    let left = rw c.in-Some.ensures.steps.0 at c.loop-progress.invariant.left in
    let at = some_there providers place
    (is_there providers place (inside providers (into_iter_items c.next.new.self) c.in-Some.progress place left)) in
    let before = rw c.in-Some.ensures.steps.0 at c.loop-progress.invariant.offers in
    let configs = rw c.in-Some.ensures.steps.0 at c.loop-progress.invariant.configs in
    record {
      offers = one_more c.args.shared.now.kept.now c.args.begun.now.origin place providers at.0 c.in-Some.progress _
          c.loop-progress.found.offers c.add.new.self.offers _ at.1 (rw at.1 at c.in_ok-add.ensures.offers) before;
      configs = rw (
        c.in_ok-add.ensures.configs,
        append_assoc c.loop-progress.found.configs (listed_config c.in-Some.progress ∷ [])
            (map listed_config (into_iter_items c.next.new.self)),
      ) configs;
      left = one_fewer providers (into_iter_items c.next.new.self) c.in-Some.progress place left;
      some = c.in_ok-add.ensures.some;
    }
