-- Whose token a call awaits.
use Rattle.std.specs.Prelude.{ℕ, List, Option, None, option_and_then, option_map}
use Rattle.fed_origin.specs.declared.stage.Stage.{Stage}
use Rattle.fed_origin.specs.declared.stage.Stage.TheVariants.{Asserting}
use Rattle.fed_call.specs.Accounts.{Offered}
use Rattle.fed_call.specs.Facts.{Facts}

-- the id of the account whose token a call awaits, by its stage
abbrev pub id_awaited : Stage → Option Offered → Option (List ℕ)
id_awaited Asserting picked = option_map (λ offered. offered.candidate.account.id) picked
id_awaited _ picked = None

-- the same of a call that may be over
abbrev pub account_awaited : Option Facts → Option (List ℕ)
account_awaited facts = option_and_then (λ f. id_awaited f.stage f.picked) facts
