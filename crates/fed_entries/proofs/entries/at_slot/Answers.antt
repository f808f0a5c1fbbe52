use Rattle.std.proofs.Common.{◌∙◌}
use Rattle.fed_entries.proofs.slots.Standing.{full}
use Rattle.fed_entries.proofs.entries.at_slot.Goals as goal

pub returns : goal.returns
returns g c = c.value_at.ensures ∙ full c.args.slots.now c.args.k c.requires
