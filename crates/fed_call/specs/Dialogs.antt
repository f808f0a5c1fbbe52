-- The dialogs of a call, and what comes first of each.
use Rattle.std.specs.Prelude.{ℕ, Bool, true, false, List, map, Option, Some, None, option_map}
use Rattle.url.specs.Parts.{Parts, serialize}
use Rattle.fed_origin.specs.declared.origin.Origin.{Origin}
use Rattle.fed_origin.specs.declared.stage.Stage.TheVariants as stages
use Rattle.fed_suffix.specs.Registrable.{party}
use Rattle.fed_provider.specs.declared.metadata.PolicyLinks.{PolicyLinks}
use Rattle.fed_status.specs.Shared.{World}
use Rattle.fed_consent.specs.declared.table.ask.Ask.TheVariants.{Metadata}
use Rattle.fed_consent.specs.declared.table.dialog.Dialog.TheVariants as dialogs
use Rattle.fed_consent.specs.declared.table.dialog.Shown.{Shown}
use Rattle.fed_consent.specs.declared.table.effect.Effect.{Effect}
use Rattle.fed_consent.specs.declared.table.effect.Effect.TheVariants.{Send, Dialog}
use Rattle.fed_consent.specs.Consent.{Candidate}
use Rattle.fed_consent.specs.Outcomes.{Outcome, moves}
use Rattle.fed_call.specs.Accounts.{Offered}
use Rattle.fed_call.specs.Facts.{Facts}

-- the party of the page's host
abbrev pub site_of : World → Origin → List ℕ
site_of world page = party world.rules page.host

-- an account of the provider at this place as a dialog shows it
abbrev pub shown_of : ℕ → Candidate → Shown
shown_of place candidate =
    record {
      provider = place;
      id = candidate.account.id;
      name = candidate.account.name;
      email = candidate.account.email;
      given_name = candidate.account.given_name;
      picture = candidate.account.picture;
      connected = candidate.connected;
    }

abbrev pub shown : Offered → Shown
shown offered = shown_of offered.place offered.candidate

-- the accounts are shown, to choose one of
abbrev pub choice_dialog : World → Facts → List Offered → Effect
choice_dialog world facts offered = Dialog (dialogs.Choose (map shown offered) facts.options.context (site_of world facts.origin))

-- an account is shown, to go on with, and the links of the client, serialized
abbrev pub prompt_dialog : World → Facts → Offered → PolicyLinks → Effect
prompt_dialog world facts offered links =
    Dialog
    (dialogs.Prompt (shown offered) facts.options.context (site_of world facts.origin)
    (option_map serialize links.privacy) (option_map serialize links.terms))

abbrev pub no_links : PolicyLinks
no_links = record { privacy = None; terms = None }

-- What comes first of a prompt, by whether the account is connected and by the metadata endpoint: it is shown, or the links of
-- the client are asked for.
abbrev pub prompt_effect : World → Facts → Offered → Bool → Option Parts → Effect
prompt_effect world facts offered true endpoint = prompt_dialog world facts offered no_links
prompt_effect world facts offered false None = prompt_dialog world facts offered no_links
prompt_effect world facts offered false (Some to) = Send offered.place (Metadata to offered.options.client facts.origin)

-- the user is to go on with this account
abbrev pub prompts : World → Facts → Offered → Outcome
prompts world facts offered =
    moves stages.Prompting (prompt_effect world facts offered offered.candidate.connected offered.config.metadata)
