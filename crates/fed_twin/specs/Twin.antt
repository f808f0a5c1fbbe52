-- Scripts that differ only in what providers are not to tell before a request names it.
use Rattle.std.specs.Prelude.{◌≡◌, ℕ, false, List, [], ◌∷◌, ◌++◌, length, map, zip, Option, Some, None, ⊤, ◌⊎◌}
use Rattle.std.specs.List.{filter_map, flat_map, AllByRecursion, AllZip}
use Rattle.url.specs.Parts.{Parts}
use Rattle.fed_origin.specs.declared.options.GetOptions.{GetOptions}
use Rattle.fed_origin.specs.declared.options.ProviderOptions.{ProviderOptions}
use Rattle.fed_origin.specs.declared.origin.Origin.{Origin}
use Rattle.fed_origin.specs.declared.stage.ReplyKind.{ReplyKind}
use Rattle.fed_origin.specs.declared.stage.ReplyKind.TheVariants as kinds
use Rattle.fed_origin.specs.Origin.{is_trustworthy, same_origin}
use Rattle.fed_origin.specs.WebUrl.{host_of, origin_of}
use Rattle.fed_suffix.specs.Registrable.{party}
use Rattle.fed_script.specs.declared.event.Event.{Event}
use Rattle.fed_script.specs.declared.event.Event.TheVariants as events
use Rattle.fed_script.specs.declared.event.Have.{Have}
use Rattle.fed_script.specs.declared.event.Have.TheVariants as haves
use Rattle.fed_script.specs.declared.event.Numbered.{Numbered}
use Rattle.fed_script.specs.Script.{Script}
use Rattle.fed_twin.specs.declared.kind.Kind.{Kind}
use Rattle.fed_twin.specs.declared.kind.Kind.TheVariants as kinds_of
use Rattle.fed_twin.specs.Script.{kept_events}
use Rattle.fed_twin.specs.Providers.{Providers, is_provider}

-- ---- 1 and 2: kinds

-- the kind of an event
abbrev pub kind_of : Event → Kind
kind_of (events.Have have) = kinds_of.Have
kind_of (events.At time) = kinds_of.At
kind_of (events.Load page url raw) = kinds_of.Load
kind_of (events.ClosePage page) = kinds_of.ClosePage
kind_of (events.Get page call options) = kinds_of.Get
kind_of (events.Abort call) = kinds_of.Abort
kind_of (events.GoOn call) = kinds_of.GoOn
kind_of (events.Cancel call) = kinds_of.Cancel
kind_of (events.SignIn call) = kinds_of.SignIn
kind_of (events.ShutWindow call) = kinds_of.ShutWindow
kind_of (events.IdpClose page) = kinds_of.IdpClose
kind_of (events.Reply call provider kind raw) = kinds_of.Reply
kind_of (events.Choose call provider account) = kinds_of.Choose
kind_of (events.Prevent page) = kinds_of.Prevent
kind_of (events.SetStatus page status) = kinds_of.SetStatus
kind_of (events.Disconnect page call config client hint) = kinds_of.Disconnect

-- ---- 3: members

-- all that a get says of a provider, but for the client, the nonce and the params
pub record SharesProvider (a b : ProviderOptions) : Type 0 where
  pub config : a.config ≡ b.config
  pub login_hint : a.login_hint ≡ b.login_hint
  pub domain_hint : a.domain_hint ≡ b.domain_hint

-- all that a get says, but for these and the context
pub record SharesOptions (a b : GetOptions) : Type 0 where
  pub mediation : a.mediation ≡ b.mediation
  pub mode : a.mode ≡ b.mode
  pub activation : a.activation ≡ b.activation
  pub providers : AllZip SharesProvider a.providers b.providers

-- the bytes of these replies may differ
abbrev pub SharesBytes : ReplyKind → List ℕ → List ℕ → Type 0
SharesBytes kinds.Assertion raw raw' = ⊤
SharesBytes kinds.Disconnect raw raw' = ⊤
SharesBytes _ raw raw' = raw ≡ raw'

-- what stands from before is of one kind, and equal but for the origin of a flag; permissions are not compared
abbrev pub SharesHave : Have → Have → Type 0
SharesHave (haves.Login origin status) (haves.Login origin' status') = (origin ≡ origin') × (status ≡ status')
SharesHave (haves.Kept triple) (haves.Kept triple') = ⊤
SharesHave (haves.Silent origin) (haves.Silent origin') = ⊤
SharesHave (haves.Cookie url field) (haves.Cookie url' field') = (url ≡ url') × (field ≡ field')
SharesHave _ _ = ⊥

-- two events of one kind are equal but for what is free; loads are looked at later
abbrev pub SharesMembers : Event → Event → Type 0
SharesMembers (events.Have have) (events.Have have') = SharesHave have have'
SharesMembers (events.At time) (events.At time') = time ≡ time'
SharesMembers (events.ClosePage page) (events.ClosePage page') = page ≡ page'
SharesMembers (events.Get page call options) (events.Get page' call' options') =
    (page ≡ page') × (call ≡ call') × SharesOptions options options'
SharesMembers (events.Abort call) (events.Abort call') = call ≡ call'
SharesMembers (events.GoOn call) (events.GoOn call') = call ≡ call'
SharesMembers (events.Cancel call) (events.Cancel call') = call ≡ call'
SharesMembers (events.SignIn call) (events.SignIn call') = call ≡ call'
SharesMembers (events.ShutWindow call) (events.ShutWindow call') = call ≡ call'
SharesMembers (events.IdpClose page) (events.IdpClose page') = page ≡ page'
SharesMembers (events.Reply call provider kind raw) (events.Reply call' provider' kind' raw') =
    (call ≡ call') × (provider ≡ provider') × (kind ≡ kind') × SharesBytes kind raw raw'
SharesMembers (events.Choose call provider account) (events.Choose call' provider' account') =
    (call ≡ call') × (provider ≡ provider') × (account ≡ account')
SharesMembers (events.Prevent page) (events.Prevent page') = page ≡ page'
SharesMembers (events.SetStatus page status) (events.SetStatus page' status') = (page ≡ page') × (status ≡ status')
SharesMembers (events.Disconnect page call config client hint) (events.Disconnect page' call' config' client' hint') =
    (page ≡ page') × (call ≡ call') × (config ≡ config') × (hint ≡ hint')
SharesMembers _ _ = ⊤

-- ---- 4: loads

-- the page is trustworthy, and no provider has its party
pub record AreFar (p : Providers) (url url' : Parts) : Type 0 where
  pub trust : is_trustworthy (origin_of url) ≡ is_trustworthy (origin_of url')
  pub far : is_provider p (host_of url) ≡ false
  pub far' : is_provider p (host_of url') ≡ false

abbrev pub SharesLoad : Providers → Event → Event → Type 0
SharesLoad p (events.Load page url raw) (events.Load page' url' raw') =
    (page ≡ page') × (((url ≡ url') × (raw ≡ raw')) ⊎ AreFar p url url')
SharesLoad p _ _ = ⊤

-- ---- 5: origins

-- the origin that a load names, or a flag from before
abbrev pub origin_named : Event → Option Origin
origin_named (events.Have (haves.Silent origin)) = Some origin
origin_named (events.Load page url raw) = Some (origin_of url)
origin_named _ = None

-- those of two events
abbrev pub both_named : Option Origin → Option Origin → Option (Origin × Origin)
both_named (Some o) (Some u) = Some (o, u)
both_named _ _ = None

abbrev pub origins_named : List (Event × Event) → List (Origin × Origin)
origins_named pairs = filter_map (λ p. both_named (origin_named p.0) (origin_named p.1)) pairs

-- any two pairs are equal on the one side exactly where they are on the other
abbrev pub AreOneToOne : List (Origin × Origin) → Type 0
AreOneToOne pairs = AllByRecursion (λ p. AllByRecursion (λ q. same_origin p.0 q.0 ≡ same_origin p.1 q.1) pairs) pairs

-- ---- twins

-- the configuration URLs of an event, and of a script
abbrev pub configs_in : Event → List Parts
configs_in (events.Get page call options) = map (λ p. p.config) options.providers
configs_in (events.Disconnect page call config client hint) = config ∷ []
configs_in _ = []

abbrev pub configs : List Numbered → List Parts
configs events = flat_map (λ n. configs_in n.event) events

-- the parties of the configuration URLs of either script
abbrev pub providers_of : Script → Script → Providers
providers_of a b =
    record {
      rules = a.header.rules;
      parties = map (λ url. party a.header.rules (host_of url)) (configs a.events ++ configs b.events);
    }

-- the kept events of the same numbers
abbrev pub pairs_of : Script → Script → List (Event × Event)
pairs_of a b = zip (kept_events a.events) (kept_events b.events)

pub record Twin (a b : Script) : Type 0 where
  pub now : a.header.now ≡ b.header.now
  pub rules : a.header.rules ≡ b.header.rules
  pub kind : AllByRecursion (λ p. kind_of p.0 ≡ kind_of p.1) (pairs_of a b)
  pub member : AllByRecursion (λ p. SharesMembers p.0 p.1) (pairs_of a b)
  pub load : AllByRecursion (λ p. SharesLoad (providers_of a b) p.0 p.1) (pairs_of a b)
  pub origins : AreOneToOne (origins_named (pairs_of a b))
  pub count : length (kept_events a.events) ≡ length (kept_events b.events)
