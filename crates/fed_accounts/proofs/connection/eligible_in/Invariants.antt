-- The eligible places are the one that was found, and then those that are left.
use Rattle.std.proofs.Common.{◌≡◌, ◌++◌, drop}
use Rattle.std.specs.Option.{option_to_list}
use Rattle.fed_accounts.specs.Connection.{eligible_places}
use Rattle.fed_accounts.proofs.connection.eligible_in.Given as goal

abbrev pub invariant-loop-place : goal.invariant-loop-place
invariant-loop-place l =
    eligible_places 0 l.client l.accounts l.kept
    ≡ option_to_list l.found ++ eligible_places l.place l.client (drop l.place l.accounts) (drop l.place l.kept)
