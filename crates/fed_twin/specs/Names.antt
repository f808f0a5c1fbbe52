-- What contracts see of the origins that two scripts named.
use Rattle.fed_twin.specs.declared.names.Names.{Names}
use Rattle.fed_twin.specs.Origins.{Named}

abbrev pub names_of : Names → Named
names_of names = record { first = names.first.keys; second = names.second.keys }
