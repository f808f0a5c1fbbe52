-- A permission is the same as itself.
use Rattle.std.proofs.Common.{rules, ◌≡◌, true}
use Rattle.fed_origin.specs.declared.status.Triple.{Triple}
use Rattle.fed_origin.specs.Status.{same_triple}

pub same_itself : (triple : Triple) → same_triple triple triple ≡ true
same_itself triple = search rules
