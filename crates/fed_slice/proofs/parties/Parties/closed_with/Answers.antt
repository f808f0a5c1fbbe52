use Rattle.std.proofs.Common.{ap, ◌∙◌}
use Rattle.fed_slice.specs.Linked.{chosen}
use Rattle.fed_slice.proofs.joined.Told.{tells_parties}
use Rattle.fed_slice.proofs.parties.Parties.closed_with.Goals as goal

pub returns : goal.returns
returns c =
    tells_parties c.args.self.now c.told.new.self c.args.name.now c.in_ok-told.told.items c.in_ok-parties.parties.items
    c.in_ok-told.ensures c.copy_told.ensures.distinct
    (c.in_ok-parties.ensures.names ∙ ap (chosen c.told.new.self.names) c.as_slice.ensures.value)
