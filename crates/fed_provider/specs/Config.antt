-- The configuration of a provider (FedCM, "The config file").
use Rattle.std.specs.Prelude.{ℕ, List, codes, Option, Some, None, Result, Ok, Err, if◌then◌else◌}
use Rattle.std.specs.Borrow.{Bor}
use Rattle.std.specs.Option.{option_copied}
use Rattle.url.specs.Parts.{Parts}
use Rattle.serde_json.specs.Data.{Data}
use Rattle.fed_origin.specs.declared.stage.Endpoint.{Endpoint}
use Rattle.fed_origin.specs.declared.stage.Endpoint.TheVariants.{Accounts, Assertion, Login, Metadata, Disconnect}
use Rattle.fed_origin.specs.declared.refusal.UrlRefusal.{UrlRefusal}
use Rattle.fed_origin.specs.Origin.{same_origin}
use Rattle.fed_origin.specs.WebUrl.{joined_url, origin_of}
use Rattle.fed_reply.specs.Steps.{◌>>=◌, with_ok, with_step}
use Rattle.fed_reply.specs.Json.{ReplyJsonOf}
use Rattle.fed_reply.specs.declared.member.Member.{Member}
use Rattle.fed_reply.specs.Members.{member_map, text_under}
use Rattle.fed_provider.specs.declared.config.Config.{Config}
use Rattle.fed_provider.specs.declared.config.Texts.{Texts}
use Rattle.fed_provider.specs.declared.step.ProviderStep.{ProviderStep}
use Rattle.fed_provider.specs.declared.step.ProviderStep.TheVariants.{ConfigReply, ConfigShape, EndpointOrigin}
use Rattle.fed_reply.specs.Shape.{required, optional}

-- ---- the texts of the file

pub record ConfigTexts : Type 0 where
  pub accounts : List ℕ
  pub assertion : List ℕ
  pub login : List ℕ
  pub metadata : Option (List ℕ)
  pub disconnect : Option (List ℕ)

-- the texts that the code holds
abbrev pub seen : Texts → ConfigTexts
seen texts =
    record {
      accounts = texts.accounts.now;
      assertion = texts.assertion.now;
      login = texts.login.now;
      metadata = option_copied texts.metadata;
      disconnect = option_copied texts.disconnect;
    }

-- a member that the code found
abbrev pub found : Member (Bor (List ℕ)) → Member (List ℕ)
found text = member_map (λ s. s.now) text

-- the texts of what is found under the names, or the step where one is missing or no text
abbrev pub texts_by : Member (List ℕ) → Member (List ℕ) → Member (List ℕ) → Member (List ℕ) → Member (List ℕ)
    → Result ConfigTexts ProviderStep
texts_by accounts_endpoint id_assertion_endpoint login_url client_metadata_endpoint disconnect_endpoint = do
  accounts ← required ConfigShape accounts_endpoint
  assertion ← required ConfigShape id_assertion_endpoint
  login ← required ConfigShape login_url
  metadata ← optional ConfigShape client_metadata_endpoint
  disconnect ← optional ConfigShape disconnect_endpoint
  Ok (record { accounts = accounts; assertion = assertion; login = login; metadata = metadata; disconnect = disconnect })

-- the texts of the members
unfoldable pub texts_of : Data → Result ConfigTexts ProviderStep
texts_of file =
    texts_by (text_under (codes "accounts_endpoint") file) (text_under (codes "id_assertion_endpoint") file)
    (text_under (codes "login_url") file) (text_under (codes "client_metadata_endpoint") file)
    (text_under (codes "disconnect_endpoint") file)

-- ---- the endpoints

-- the URL, where it is same-origin with the configuration URL
abbrev pub own_url : Parts → Endpoint → Result Parts UrlRefusal → Result Parts ProviderStep
own_url config endpoint (Ok url) =
    if same_origin (origin_of url) (origin_of config) then Ok url else Err (EndpointOrigin endpoint)
own_url config endpoint (Err refusal) = Err (EndpointOrigin endpoint)

-- the URL of an endpoint by its text
unfoldable pub endpoint_url : Parts → Endpoint → List ℕ → Result Parts ProviderStep
endpoint_url config endpoint text = own_url config endpoint (joined_url config text)

-- the same of an endpoint that may be left out
abbrev pub optional_url : Parts → Endpoint → Option (List ℕ) → Result (Option Parts) ProviderStep
optional_url config endpoint None = Ok None
optional_url config endpoint (Some text) = with_ok Some (endpoint_url config endpoint text)

-- the endpoints, tested one after the other
unfoldable pub endpoints : Parts → ConfigTexts → Result Config ProviderStep
endpoints config texts = do
  accounts ← endpoint_url config Accounts texts.accounts
  assertion ← endpoint_url config Assertion texts.assertion
  login ← endpoint_url config Login texts.login
  metadata ← optional_url config Metadata texts.metadata
  disconnect ← optional_url config Disconnect texts.disconnect
  Ok (record { accounts = accounts; assertion = assertion; login = login; metadata = metadata; disconnect = disconnect })

-- the configuration in the reply `raw` of the configuration URL, or the first step
unfoldable pub ConfigOf : List ℕ → Parts → Result Config ProviderStep
ConfigOf raw config = do
  file ← with_step ConfigReply (ReplyJsonOf raw)
  texts ← texts_of file
  endpoints config texts
