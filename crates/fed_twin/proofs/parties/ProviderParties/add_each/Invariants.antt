use Rattle.std.proofs.Common.{drop}
use Rattle.fed_twin.proofs.twins.Party.{LeavesOf}
use Rattle.fed_twin.specs.Clauses.{provider_parties}
use Rattle.fed_twin.proofs.parties.ProviderParties.add_each.Given as goal

-- the parties of the providers that are left are to be gathered
abbrev pub invariant-loop-provider : goal.invariant-loop-provider
invariant-loop-provider l =
    LeavesOf l.initial.self l.self (provider_parties l.rules l.providers)
    (provider_parties l.rules (drop l.provider-index l.providers))
