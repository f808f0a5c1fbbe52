-- The well-known file of a site (FedCM, "The Well-Known File").
use Rattle.std.specs.Prelude.{ℕ, Bool, true, false, List, ◌++◌, codes, bytes_eq, Option, Some, None, Result, Ok, Err, ok_or, option_and_then}
use Rattle.std.specs.Prelude.{if◌then◌else◌}
use Rattle.url.specs.Parts.{Parts, serialize}
use Rattle.serde_json.specs.Data.{Data, Items, no_items, item}
use Rattle.serde_json.specs.Find.{as_str}
use Rattle.fed_origin.specs.declared.refusal.UrlRefusal.{UrlRefusal}
use Rattle.fed_origin.specs.WebUrl.{web_url, joined_url, host_of}
use Rattle.fed_suffix.specs.Rule.{RuleSet}
use Rattle.fed_suffix.specs.Registrable.{registrable}
use Rattle.fed_reply.specs.Steps.{◌>>=◌, with_step}
use Rattle.fed_reply.specs.Json.{ReplyJsonOf}
use Rattle.fed_reply.specs.Members.{list_under, text_under}
use Rattle.fed_reply.specs.declared.member.Member.{Member}
use Rattle.fed_reply.specs.declared.member.Member.TheVariants.{Absent, Wrong, Is}
use Rattle.fed_origin.specs.declared.stage.Endpoint.{Endpoint}
use Rattle.fed_origin.specs.declared.stage.Endpoint.TheVariants.{Accounts, Login}
use Rattle.fed_provider.specs.declared.config.Config.{Config}
use Rattle.fed_provider.specs.declared.wellknown.WellKnown.{WellKnown}
use Rattle.fed_provider.specs.declared.wellknown.WellKnown.TheVariants.{Listed, Direct}
use Rattle.fed_provider.specs.declared.step.ProviderStep.{ProviderStep}
use Rattle.fed_provider.specs.declared.step.ProviderStep.TheVariants.{NoSite, WellKnownReply, WellKnownShape, WellKnownOther}

-- ---- its URL

-- the text of a site's well-known URL
unfoldable pub wellknown_text : List ℕ → List ℕ
wellknown_text site = codes "https://" ++ site ++ codes "/.well-known/web-identity"

-- the URL that was read, whatever refuses it
abbrev pub url_of_site : Result Parts UrlRefusal → Result Parts ProviderStep
url_of_site (Ok url) = Ok url
url_of_site (Err refusal) = Err NoSite

-- the well-known URL of a site, if there is one
abbrev pub of_site : Option (List ℕ) → Result Parts ProviderStep
of_site None = Err NoSite
of_site (Some site) = url_of_site (web_url (wellknown_text site))

-- the well-known URL for a configuration URL
unfoldable pub WellKnownUrlOf : RuleSet → Parts → Result Parts ProviderStep
WellKnownUrlOf rules config = of_site (registrable rules (host_of config))

-- ---- the file

-- the only item of a list
abbrev pub only_item : Items → Option Data
only_item no_items = None
only_item (item d no_items) = Some d
only_item (item d (item e ds)) = None

-- the text that is the only item of a list
abbrev pub only_text : Member Items → Option (List ℕ)
only_text Absent = None
only_text Wrong = None
only_text (Is items) = option_and_then as_str (only_item items)

-- the URL that was read is the configuration URL, by their serialized texts
abbrev pub names : Parts → Result Parts UrlRefusal → Result WellKnown ProviderStep
names config (Ok url) = if bytes_eq (serialize url) (serialize config) then Ok Listed else Err WellKnownOther
names config (Err refusal) = Err WellKnownOther

-- the one URL that is listed, if one is, is the configuration URL
abbrev pub listed : Parts → Parts → Option (List ℕ) → Result WellKnown ProviderStep
listed base config only = do
  text ← ok_or only WellKnownShape
  names config (joined_url base text)

-- the one URL that the file names is the configuration URL
abbrev pub lists : Parts → Parts → Data → Result WellKnown ProviderStep
lists base config file = listed base config (only_text (list_under (codes "provider_urls") file))

-- a URL that the file names
abbrev pub file_url : Result Parts UrlRefusal → Result Parts ProviderStep
file_url (Ok url) = Ok url
file_url (Err refusal) = Err WellKnownShape

-- the file names the endpoints itself, by their texts
abbrev pub direct : Parts → List ℕ → List ℕ → Result WellKnown ProviderStep
direct base accounts login = do
  to ← file_url (joined_url base accounts)
  window ← file_url (joined_url base login)
  Ok (Direct to window)

-- by what stands under the names of the two endpoints: where both are texts, the list is not looked at
abbrev pub by_form : Parts → Parts → Data → Member (List ℕ) → Member (List ℕ) → Result WellKnown ProviderStep
by_form base config file (Is accounts) (Is login) = direct base accounts login
by_form base config file (Is accounts) Absent = lists base config file
by_form base config file (Is accounts) Wrong = lists base config file
by_form base config file Absent login = lists base config file
by_form base config file Wrong login = lists base config file

-- what the file says
abbrev pub form_of : Parts → Parts → Data → Result WellKnown ProviderStep
form_of base config file =
    by_form base config file (text_under (codes "accounts_endpoint") file) (text_under (codes "login_url") file)

-- what the well-known file in the reply `raw` of the URL `base` says for the configuration URL, or the first step
unfoldable pub WellKnownOf : List ℕ → Parts → Parts → Result WellKnown ProviderStep
WellKnownOf raw base config = do
  file ← with_step WellKnownReply (ReplyJsonOf raw)
  form_of base config file

-- ---- the configuration beside it

-- the first endpoint of which the texts differ
abbrev pub first_other : Bool → Bool → Option Endpoint
first_other true true = None
first_other true false = Some Login
first_other false login = Some Accounts

abbrev pub same_text : Parts → Parts → Bool
same_text a b = bytes_eq (serialize a) (serialize b)

-- the endpoint in which the configuration differs from the file, if the file names endpoints
abbrev pub agrees : WellKnown → Config → Option Endpoint
agrees Listed config = None
agrees (Direct accounts login) config = first_other (same_text config.accounts accounts) (same_text config.login login)
