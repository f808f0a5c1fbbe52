use Rattle.fed_jar.proofs.parties.Parties.{other_parts_stay, own_part_is_changed, part_is_of_changes}
use Rattle.fed_jar.proofs.laws.parts_are_apart.Goals as goal

pub returns : goal.returns
returns c = record { others = other_parts_stay; own = own_part_is_changed; changes = part_is_of_changes }
