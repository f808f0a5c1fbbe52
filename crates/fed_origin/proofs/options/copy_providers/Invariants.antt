use Rattle.std.proofs.Common.{◌≡◌, take}
use Rattle.fed_origin.proofs.options.copy_providers.Given as goal

abbrev pub invariant-loop-provider : goal.invariant-loop-provider
invariant-loop-provider l = l.copy ≡ take l.provider-index l.all
