use Rattle.std.proofs.Common.{take}
use Rattle.std.specs.List.{AllZip}
use Rattle.fed_call.specs.Opening.{Knows}
use Rattle.fed_call.proofs.start.wellknowns.Given as goal

abbrev pub invariant-loop-provider : goal.invariant-loop-provider
invariant-loop-provider l = AllZip (Knows l.rules) (take l.provider-index l.providers) l.all
