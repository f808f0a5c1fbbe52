-- The files of providers are good.
use Rattle.std.proofs.Common.{ℕ, List, Option, Some, None}
use Rattle.std.specs.Prelude.{⊤, codes, Result, Ok, Err}
use Rattle.std.specs.Result.{result_ok}
use Rattle.std.specs.Str.{IsUtf8}
use Rattle.std.proofs.lemmas.Bool.{cond_both}
use Rattle.url.specs.Parts.{Parts}
use Rattle.serde_json.specs.Data.{Data}
use Rattle.fed_origin.specs.declared.refusal.UrlRefusal.{UrlRefusal}
use Rattle.fed_origin.specs.declared.stage.Endpoint.{Endpoint}
use Rattle.fed_origin.specs.declared.stage.Endpoint.TheVariants as ends
use Rattle.fed_origin.specs.declared.stage.ReplyKind.{ReplyKind}
use Rattle.fed_origin.specs.declared.stage.ReplyKind.TheVariants as kinds
use Rattle.fed_origin.specs.Origin.{same_origin}
use Rattle.fed_origin.specs.WebUrl.{joined_url, origin_of, web_url}
use Rattle.fed_suffix.specs.Rule.{RuleSet}
use Rattle.fed_reply.specs.declared.member.Member.{Member}
use Rattle.fed_reply.specs.declared.step.ReplyStep.{ReplyStep}
use Rattle.fed_reply.specs.Json.{ReplyJsonOf}
use Rattle.fed_reply.specs.Members.{text_under}
use Rattle.fed_reply.specs.Shape.{optional, present, required}
use Rattle.fed_reply.specs.Steps.{with_step}
use Rattle.fed_provider.specs.declared.config.Config.{Config}
use Rattle.fed_provider.specs.declared.first_replies.FirstReplies.{FirstReplies}
use Rattle.fed_provider.specs.declared.first_replies.Heard.{Heard}
use Rattle.fed_provider.specs.declared.first_replies.Heard.TheVariants as heard
use Rattle.fed_provider.specs.declared.step.ProviderStep.{ProviderStep}
use Rattle.fed_provider.specs.declared.step.ProviderStep.TheVariants.{ConfigReply, ConfigShape}
use Rattle.fed_provider.specs.declared.wellknown.WellKnown.{WellKnown}
use Rattle.fed_provider.specs.Config.{ConfigOf, ConfigTexts, endpoint_url, endpoints, optional_url, own_url, texts_of}
use Rattle.fed_provider.specs.FirstReplies.{by_agreement, config_heard, first_config, first_wellknown, reply_heard, wellknown_heard}
use Rattle.fed_provider.specs.FirstReplies.{wellknown_read}
use Rattle.fed_provider.specs.Metadata.{MetadataOf, link_by, links_of, url_in}
use Rattle.fed_provider.specs.WellKnown.{agrees}
use Rattle.fed_own.proofs.json.Values.{HasTexts, IfSo}
use Rattle.fed_own.proofs.plain.Good.{GoodConfig, GoodLinks, GoodReplies}
use Rattle.fed_own.proofs.plain.Json.{reply_texts, text_is}
use Rattle.fed_own.proofs.plain.Results.{IfIs, IfOk, ok_mapped, optional_is, present_is, required_is, some_then, step_mapped, steps_then}
use Rattle.fed_own.proofs.plain.Web.{IsWeb, joined_web, read_web}

-- ---- a configuration

record GoodTexts (texts : ConfigTexts) : Type 0 where
  accounts : IsUtf8 texts.accounts
  assertion : IsUtf8 texts.assertion
  login : IsUtf8 texts.login
  metadata : IfSo IsUtf8 texts.metadata
  disconnect : IfSo IsUtf8 texts.disconnect

file_texts : (file : Data) → HasTexts file → IfOk GoodTexts (texts_of file)
unfolding texts_of
file_texts file h =
    steps_then IsUtf8 GoodTexts (required ConfigShape (text_under (codes "accounts_endpoint") file)) _
    (required_is IsUtf8 ConfigShape (text_under (codes "accounts_endpoint") file) (text_is (codes "accounts_endpoint") file h))
    (λ accounts a. steps_then IsUtf8 GoodTexts (required ConfigShape (text_under (codes "id_assertion_endpoint") file)) _
    (required_is IsUtf8 ConfigShape (text_under (codes "id_assertion_endpoint") file) (text_is (codes "id_assertion_endpoint") file h))
    (λ assertion b. steps_then IsUtf8 GoodTexts (required ConfigShape (text_under (codes "login_url") file)) _
    (required_is IsUtf8 ConfigShape (text_under (codes "login_url") file) (text_is (codes "login_url") file h))
    (λ login c. steps_then (IfSo IsUtf8) GoodTexts (optional ConfigShape (text_under (codes "client_metadata_endpoint") file)) _
    (optional_is IsUtf8 ConfigShape (text_under (codes "client_metadata_endpoint") file)
    (text_is (codes "client_metadata_endpoint") file h))
    (λ metadata d. steps_then (IfSo IsUtf8) GoodTexts (optional ConfigShape (text_under (codes "disconnect_endpoint") file)) _
    (optional_is IsUtf8 ConfigShape (text_under (codes "disconnect_endpoint") file) (text_is (codes "disconnect_endpoint") file h))
    (λ disconnect e. record { accounts = a; assertion = b; login = c; metadata = d; disconnect = e })))))

own_web : (config : Parts) (endpoint : Endpoint) (r : Result Parts UrlRefusal) → IfOk IsWeb r → IfOk IsWeb (own_url config endpoint r)
own_web config endpoint (Ok url) web =
    cond_both (same_origin (origin_of url) (origin_of config)) _ _ (IfOk IsWeb) (λ t. web) (λ f. tt)
own_web config endpoint (Err refusal) web = tt

endpoint_web : (config : Parts) (endpoint : Endpoint) (text : List ℕ) → IsWeb config → IsUtf8 text
    → IfOk IsWeb (endpoint_url config endpoint text)
unfolding endpoint_url
endpoint_web config endpoint text web u = own_web config endpoint (joined_url config text) (joined_web config text web u)

optional_web : (config : Parts) (endpoint : Endpoint) (text : Option (List ℕ)) → IsWeb config → IfSo IsUtf8 text
    → IfOk (IfSo IsWeb) (optional_url config endpoint text)
optional_web config endpoint None web u = tt
optional_web config endpoint (Some text) web u =
    ok_mapped IsWeb (IfSo IsWeb) Some (endpoint_url config endpoint text) (endpoint_web config endpoint text web u) (λ url h. h)

endpoints_good : (config : Parts) (texts : ConfigTexts) → IsWeb config → GoodTexts texts → IfOk GoodConfig (endpoints config texts)
unfolding endpoints
endpoints_good config texts web t =
    steps_then IsWeb GoodConfig (endpoint_url config ends.Accounts texts.accounts) _
    (endpoint_web config ends.Accounts texts.accounts web t.accounts)
    (λ accounts a. steps_then IsWeb GoodConfig (endpoint_url config ends.Assertion texts.assertion) _
    (endpoint_web config ends.Assertion texts.assertion web t.assertion)
    (λ assertion b. steps_then IsWeb GoodConfig (endpoint_url config ends.Login texts.login) _
    (endpoint_web config ends.Login texts.login web t.login)
    (λ login c. steps_then (IfSo IsWeb) GoodConfig (optional_url config ends.Metadata texts.metadata) _
    (optional_web config ends.Metadata texts.metadata web t.metadata)
    (λ metadata d. steps_then (IfSo IsWeb) GoodConfig (optional_url config ends.Disconnect texts.disconnect) _
    (optional_web config ends.Disconnect texts.disconnect web t.disconnect)
    (λ disconnect e. record { accounts = a; assertion = b; login = c; metadata = d; disconnect = e })))))

pub config_good : (raw : List ℕ) (config : Parts) → IsWeb config → IfOk GoodConfig (ConfigOf raw config)
unfolding ConfigOf
config_good raw config web =
    steps_then HasTexts GoodConfig (with_step ConfigReply (ReplyJsonOf raw)) _
    (step_mapped HasTexts ConfigReply (ReplyJsonOf raw) (reply_texts raw))
    (λ file h. steps_then GoodTexts GoodConfig (texts_of file) _ (file_texts file h) (λ texts t. endpoints_good config texts web t))

-- ---- the first two replies

abbrev pub GoodHeard : Heard → Type 0
GoodHeard (heard.Refused step) = ⊤
GoodHeard (heard.Waits replies) = GoodReplies replies
GoodHeard (heard.Both config) = GoodConfig config
GoodHeard (heard.NotWaited replies) = GoodReplies replies

agreed_good : (config : Config) (o : Option Endpoint) → GoodConfig config → GoodHeard (by_agreement config o)
agreed_good config None h = h
agreed_good config (Some endpoint) h = tt

first_file : (config : Option Config) (r : Result WellKnown ProviderStep) → IfSo GoodConfig config → GoodHeard (first_wellknown config r)
first_file config (Err step) h = tt
first_file None (Ok file) h = tt
first_file (Some config) (Ok file) h = agreed_good config (agrees file config) h

wellknown_good : (file : Option WellKnown) (config : Option Config) (r : Result WellKnown ProviderStep) → IfSo GoodConfig config
    → GoodHeard (wellknown_heard file config r)
wellknown_good (Some file) config r h = h
wellknown_good None config r h = first_file config r h

first_good : (file : Option WellKnown) (r : Result Config ProviderStep) → IfOk GoodConfig r → GoodHeard (first_config file r)
first_good file (Err step) h = tt
first_good None (Ok config) h = h
first_good (Some file) (Ok config) h = agreed_good config (agrees file config) h

configured_good : (file : Option WellKnown) (config : Option Config) (r : Result Config ProviderStep) → IfSo GoodConfig config
    → IfOk GoodConfig r → GoodHeard (config_heard file config r)
configured_good file (Some config) r h g = h
configured_good file None r h g = first_good file r g

pub heard_good : (rules : RuleSet) (replies : FirstReplies) (config : Parts) (kind : ReplyKind) (raw : List ℕ) → IsWeb config
    → GoodReplies replies → GoodHeard (reply_heard rules replies config kind raw)
heard_good rules replies config kinds.WellKnown raw web h =
    wellknown_good replies.wellknown replies.config (wellknown_read rules config raw) h
heard_good rules replies config kinds.Config raw web h =
    configured_good replies.wellknown replies.config (ConfigOf raw config) h (config_good raw config web)
heard_good rules replies config kinds.Accounts raw web h = h
heard_good rules replies config kinds.Metadata raw web h = h
heard_good rules replies config kinds.Assertion raw web h = h
heard_good rules replies config kinds.Disconnect raw web h = h

-- ---- the links of a client

ok_web : (r : Result Parts UrlRefusal) → IfOk IsWeb r → IfSo IsWeb (result_ok r)
ok_web (Ok url) h = h
ok_web (Err refusal) h = tt

link_web : (text : List ℕ) → IsUtf8 text → IfSo IsWeb (url_in text)
unfolding url_in
link_web text u = ok_web (web_url text) (read_web text u)

link_good : (m : Member (List ℕ)) → IfIs IsUtf8 m → IfSo IsWeb (link_by m)
link_good m h = some_then IsUtf8 IsWeb url_in (present m) (present_is IsUtf8 m h) link_web

links_good : (r : Result Data ReplyStep) → IfOk HasTexts r → GoodLinks (links_of r)
links_good (Err step) h = record { privacy = tt; terms = tt }
links_good (Ok file) h =
    record {
      privacy = link_good (text_under (codes "privacy_policy_url") file) (text_is (codes "privacy_policy_url") file h);
      terms = link_good (text_under (codes "terms_of_service_url") file) (text_is (codes "terms_of_service_url") file h);
    }

pub metadata_good : (raw : List ℕ) → GoodLinks (MetadataOf raw)
unfolding MetadataOf
metadata_good raw = links_good (ReplyJsonOf raw) (reply_texts raw)
