use Rattle.fed_provider.proofs.promises.EndpointsAreOwn.{endpoints_are_own_lem}
use Rattle.fed_provider.proofs.laws.endpoints_are_own.Goals as goal

pub returns : goal.returns
returns c = endpoints_are_own_lem
