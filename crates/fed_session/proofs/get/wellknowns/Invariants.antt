use Rattle.std.proofs.Common.{◌≡◌, take}
use Rattle.std.specs.List.{AllZip}
use Rattle.fed_call.specs.Opening.{Knows}
use Rattle.fed_session.specs.StepParts.{world_in}
use Rattle.fed_session.proofs.get.wellknowns.Given as goal

-- Those so far are known, and what all calls look at stays as it was.
abbrev pub invariant-loop-provider : goal.invariant-loop-provider
invariant-loop-provider l =
    AllZip (Knows (world_in l.fn.sight).rules) (take l.provider-index l.providers) l.all × (l.sight ≡ l.fn.sight)
