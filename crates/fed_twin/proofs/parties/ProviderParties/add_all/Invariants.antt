use Rattle.std.proofs.Common.{drop}
use Rattle.fed_twin.specs.Clauses.{parties_of}
use Rattle.fed_twin.specs.Twin.{configs}
use Rattle.fed_twin.proofs.twins.Party.{LeavesOf}
use Rattle.fed_twin.proofs.parties.ProviderParties.add_all.Given as goal

-- the parties of the events that are left are to be gathered
abbrev pub invariant-loop-numbered : goal.invariant-loop-numbered
invariant-loop-numbered l =
    LeavesOf l.initial.self l.self (parties_of l.rules (configs l.events))
    (parties_of l.rules (configs (drop l.numbered-index l.events)))
