use Rattle.fed_provider.proofs.promises.OneConfiguration.{one_configuration_lem}
use Rattle.fed_provider.proofs.laws.one_configuration.Goals as goal

pub returns : goal.returns
returns c = one_configuration_lem
