-- Each endpoint of a configuration that was read is same-origin with the configuration URL.
use Rattle.std.proofs.Common.{◌≡◌, ℕ, Bool, true, false, List, Option, Some, None, Result, Ok, Err, refl, subst, rules, if◌then◌else◌}
use Rattle.std.specs.Prelude.{IfSome}
use Rattle.url.specs.Parts.{Parts}
use Rattle.fed_origin.specs.declared.stage.Endpoint.{Endpoint}
use Rattle.fed_origin.specs.declared.stage.Endpoint.TheVariants.{Accounts, Assertion, Login, Metadata, Disconnect}
use Rattle.fed_origin.specs.declared.refusal.UrlRefusal.{UrlRefusal}
use Rattle.fed_origin.specs.Origin.{same_origin}
use Rattle.fed_origin.specs.WebUrl.{joined_url, origin_of}
use Rattle.fed_reply.specs.Steps.{◌>>=◌, with_ok, with_step}
use Rattle.fed_reply.specs.Json.{ReplyJsonOf}
use Rattle.fed_provider.specs.declared.config.Config.{Config}
use Rattle.fed_provider.specs.declared.step.ProviderStep.{ProviderStep}
use Rattle.fed_provider.specs.declared.step.ProviderStep.TheVariants.{ConfigReply, EndpointOrigin}
use Rattle.fed_provider.specs.Config.{ConfigTexts, texts_of, own_url, endpoint_url, optional_url, endpoints, ConfigOf}
use Rattle.fed_provider.specs.Laws.{IsOwn, HasOwnEndpoints}

-- a chain that succeeds
record Succeeds {A B E : Type 0} (r : Result A E) (f : A → Result B E) (b : B) : Type 0 where
  value : A
  is : r ≡ Ok value
  then_is : f value ≡ Ok b

chain : {A B E : Type 0} (r : Result A E) (f : A → Result B E) (b : B) → (r >>= f) ≡ Ok b → Succeeds r f b
chain (Ok a) f b e = record { value = a; is = refl; then_is = e }
chain (Err step) f b e = absurd (grind rules)

own_by : (config url found : Parts) (endpoint : Endpoint) (t : Bool) → same_origin (origin_of found) (origin_of config) ≡ t
    → (if t then Ok found else Err (EndpointOrigin endpoint)) ≡ Ok url → IsOwn config url
own_by config url found endpoint true is e = let k : found ≡ url = grind rules in subst (IsOwn config) k is
own_by config url found endpoint false is e = absurd (grind rules)

own_joined : (config url : Parts) (endpoint : Endpoint) (r : Result Parts UrlRefusal) → own_url config endpoint r ≡ Ok url
    → IsOwn config url
own_joined config url endpoint (Ok found) e = own_by config url found endpoint _ refl e
own_joined config url endpoint (Err refusal) e = absurd (grind rules)

own_endpoint : (config url : Parts) (endpoint : Endpoint) (text : List ℕ) → endpoint_url config endpoint text ≡ Ok url → IsOwn config url
unfolding endpoint_url
own_endpoint config url endpoint text e = own_joined config url endpoint (joined_url config text) e

own_some : (config : Parts) (o : Option Parts) (r : Result Parts ProviderStep) → ((url : Parts) → r ≡ Ok url → IsOwn config url)
    → with_ok Some r ≡ Ok o → IfSome o (IsOwn config)
own_some config o (Ok url) own e = let k : Some url ≡ o = grind rules in subst (λ x. IfSome x (IsOwn config)) k (own url refl)
own_some config o (Err step) own e = absurd (grind rules)

own_optional : (config : Parts) (endpoint : Endpoint) (text : Option (List ℕ)) (o : Option Parts)
    → optional_url config endpoint text ≡ Ok o
    → IfSome o (IsOwn config)
own_optional config endpoint None o e = let k : None ≡ o = grind rules in subst (λ x. IfSome x (IsOwn config)) k tt
own_optional config endpoint (Some text) o e =
    own_some config o (endpoint_url config endpoint text) (λ url is. own_endpoint config url endpoint text is) e

read_as : (config : Parts) (texts : ConfigTexts) (read : Config) → endpoints config texts ≡ Ok read → HasOwnEndpoints config read
unfolding endpoints
read_as config texts read e =
    let a = chain (endpoint_url config Accounts texts.accounts) _ read e in
    let b = chain (endpoint_url config Assertion texts.assertion) _ read a.then_is in
    let c = chain (endpoint_url config Login texts.login) _ read b.then_is in
    let d = chain (optional_url config Metadata texts.metadata) _ read c.then_is in
    let f = chain (optional_url config Disconnect texts.disconnect) _ read d.then_is in
    let made : Config = record { accounts = a.value; assertion = b.value; login = c.value; metadata = d.value; disconnect = f.value } in
    let k : made ≡ read = grind (rules, f.then_is) in
    subst (HasOwnEndpoints config) k (record {
      accounts = own_endpoint config a.value Accounts texts.accounts a.is;
      assertion = own_endpoint config b.value Assertion texts.assertion b.is;
      login = own_endpoint config c.value Login texts.login c.is;
      metadata = own_optional config Metadata texts.metadata d.value d.is;
      disconnect = own_optional config Disconnect texts.disconnect f.value f.is;
    })

pub endpoints_are_own_lem : (raw : List ℕ) (config : Parts) (read : Config) → ConfigOf raw config ≡ Ok read → HasOwnEndpoints config read
unfolding ConfigOf
endpoints_are_own_lem raw config read e =
    let a = chain (with_step ConfigReply (ReplyJsonOf raw)) _ read e in
    let b = chain (texts_of a.value) _ read a.then_is in
    read_as config b.value read b.then_is
