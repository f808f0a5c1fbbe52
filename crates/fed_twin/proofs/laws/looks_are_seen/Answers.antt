use Rattle.fed_twin.proofs.seen.Look.{looks_are_seen_lem}
use Rattle.fed_twin.proofs.laws.looks_are_seen.Goals as goal

pub returns : goal.returns
returns c = looks_are_seen_lem
