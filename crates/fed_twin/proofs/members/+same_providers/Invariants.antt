use Rattle.std.proofs.Common.{length}
use Rattle.fed_twin.proofs.members.+same_providers.Given as goal

abbrev pub decreases-same_providers : goal.decreases-same_providers
decreases-same_providers l = length l.a.now
