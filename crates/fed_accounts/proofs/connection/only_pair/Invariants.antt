-- The eligible pairs are the pair that was found, and then those of the offers that are left.
use Rattle.std.proofs.Common.{◌≡◌, ◌++◌, drop}
use Rattle.std.specs.Option.{option_to_list}
use Rattle.fed_accounts.specs.Connection.{eligible_pairs}
use Rattle.fed_accounts.proofs.connection.only_pair.Given as goal

abbrev pub invariant-loop-n : goal.invariant-loop-n
invariant-loop-n l = eligible_pairs 0 l.offers ≡ option_to_list l.pair ++ eligible_pairs l.n (drop l.n l.offers)
