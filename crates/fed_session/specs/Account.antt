-- Whose token a call of a session awaits.
use Rattle.std.specs.Prelude.{ℕ, List, Option, option_and_then}
use Rattle.fed_call.specs.Account.{account_awaited}
use Rattle.fed_trace.specs.Call.{Known, get_facts}

-- the id of the account whose token a call awaits, by what is known of it
abbrev pub account_known : Option Known → Option (List ℕ)
account_known known = account_awaited (option_and_then get_facts known)
