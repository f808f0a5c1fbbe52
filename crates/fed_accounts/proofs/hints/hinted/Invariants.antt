use Rattle.std.proofs.Common.{◌≡◌, ◌++◌}
use Rattle.std.specs.Prelude.{filter}
use Rattle.std.specs.Option.{option_copied}
use Rattle.std.specs.Vec.Iter.{into_iter_items}
use Rattle.fed_accounts.specs.Hints.{is_hinted}
use Rattle.fed_accounts.proofs.hints.hinted.Given as goal

abbrev pub invariant-loop-account : goal.invariant-loop-account
invariant-loop-account l =
    l.kept ++ filter (is_hinted (option_copied l.login) (option_copied l.domain)) (into_iter_items l.account-iterator)
    ≡ filter (is_hinted (option_copied l.login) (option_copied l.domain)) l.fn.accounts
