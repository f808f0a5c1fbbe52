use Rattle.std.proofs.Common.{◌≡◌, take}
use Rattle.std.specs.Prelude.{map}
use Rattle.fed_call.specs.Accounts.{is_kept}
use Rattle.fed_call.proofs.accounts.kept_at.Given as goal

abbrev pub invariant-loop-account : goal.invariant-loop-account
invariant-loop-account l = l.all ≡ map (is_kept l.kept l.page l.provider) (take l.account-index l.accounts)
