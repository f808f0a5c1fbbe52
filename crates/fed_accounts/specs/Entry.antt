-- Accounts as the code finds them in their entries, for private clauses.
use Rattle.std.specs.Prelude.{ℕ, List, map, Option, option_map, Result}
use Rattle.std.specs.Borrow.{Bor}
use Rattle.std.specs.Option.{option_copied}
use Rattle.std.specs.Result.{result_map_both}
use Rattle.fed_accounts.specs.declared.account.Account.{Account}
use Rattle.fed_accounts.specs.declared.entry.Entry.{Entry}
use Rattle.fed_accounts.specs.declared.step.AccountsStep.{AccountsStep}

-- the texts that are lent
abbrev pub texts : List (Bor (List ℕ)) → List (List ℕ)
texts lent = map (λ t. t.now) lent

-- the same of a list that may be left out
abbrev pub list_seen : Result (Option (List (Bor (List ℕ)))) AccountsStep → Result (Option (List (List ℕ))) AccountsStep
list_seen list = result_map_both (option_map texts) (λ e. e) list

-- the account that an entry has
abbrev pub account : Entry → Account
account e =
    record {
      id = e.id.now;
      name = e.name.now;
      email = e.email.now;
      given_name = option_copied e.given_name;
      picture = option_copied e.picture;
      approved = option_map texts e.approved;
      login_hints = texts e.login_hints;
      domain_hints = texts e.domain_hints;
    }
