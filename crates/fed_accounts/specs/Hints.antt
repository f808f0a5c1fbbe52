-- The accounts that the hints of a call ask for (FedCM, "login_hint" and "domain_hint").
use Rattle.std.specs.Prelude.{ℕ, Bool, true, not, ◌&&◌, ◌==◌, List, [], ◌∷◌, length, filter, codes, bytes_eq, Option, Some}
use Rattle.std.specs.Prelude.{None, Result}
use Rattle.std.specs.Prelude.{Ok, Err, if◌then◌else◌}
use Rattle.fed_accounts.specs.declared.account.Account.{Account}
use Rattle.fed_accounts.specs.declared.step.AccountsStep.{AccountsStep}
use Rattle.fed_accounts.specs.declared.step.AccountsStep.TheVariants.{HintsNone}
use Rattle.fed_reply.specs.Steps.{◌>>=◌}
use Rattle.fed_accounts.specs.Connection.{has_text}
use Rattle.fed_accounts.specs.Read.{AccountsOf}

-- the login hint, where it is given, is one of an account's login hints
abbrev pub has_login : Option (List ℕ) → List (List ℕ) → Bool
has_login None hints = true
has_login (Some hint) hints = has_text hint hints

-- the domain hint, where it is given, is one of an account's domain hints; `any` is each
abbrev pub has_domain : Option (List ℕ) → List (List ℕ) → Bool
has_domain None hints = true
has_domain (Some hint) hints =
    if bytes_eq hint (codes "any") then not (length hints == 0)
    else has_text hint hints

-- both hints ask for the account
abbrev pub is_hinted : Option (List ℕ) → Option (List ℕ) → Account → Bool
is_hinted login domain account = has_login login account.login_hints && has_domain domain account.domain_hints

-- accounts of which some are left
abbrev pub some_left : List Account → Result (List Account) AccountsStep
some_left [] = Err HintsNone
some_left (a ∷ accounts) = Ok (a ∷ accounts)

-- the accounts that both hints ask for, in their order, or the step where there is none
unfoldable pub Hinted : List Account → Option (List ℕ) → Option (List ℕ) → Result (List Account) AccountsStep
Hinted accounts login domain = some_left (filter (is_hinted login domain) accounts)

-- the accounts in the reply `raw` that both hints ask for, or the first step
unfoldable pub HintedOf : List ℕ → Option (List ℕ) → Option (List ℕ) → Result (List Account) AccountsStep
HintedOf raw login domain = do
  accounts ← AccountsOf raw
  Hinted accounts login domain
