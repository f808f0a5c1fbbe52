-- On which side of a part effects and calls stand.
use Rattle.std.specs.Prelude.{◌≡◌, ℕ, Bool, true, List, IfSome, ⊤}
use Rattle.std.specs.List.{AllByRecursion}
use Rattle.fed_origin.specs.declared.options.ProviderOptions.{ProviderOptions}
use Rattle.fed_origin.specs.WebUrl.{host_of}
use Rattle.fed_provider.specs.declared.config.Config.{Config}
use Rattle.fed_call.specs.declared.progress.Progress.{Progress}
use Rattle.fed_call.specs.declared.progress.Progress.TheVariants as progress_is
use Rattle.fed_call.specs.Accounts.{Offered}
use Rattle.fed_call.specs.Facts.{Facts}
use Rattle.fed_disconnect.specs.Facts.{DisconnectFacts}
use Rattle.fed_trace.specs.Begun.{Begun, CallOptions, ToGet, ToDisconnect}
use Rattle.fed_trace.specs.Call.{Known, OfGet, OfDisconnect}
use Rattle.fed_trace.specs.Effect.{Effect}
use Rattle.fed_trace.specs.Effect as does
use Rattle.fed_trace.specs.Trace.{Row}
use Rattle.fed_slice.specs.Part.{Part, has}

-- ---- calls

-- the endpoints that get cookies are in the part, or none is
pub record ConfigSide (p : Part) (side : Bool) (config : Config) : Type 0 where
  pub accounts : has p (host_of config.accounts) ≡ side
  pub assertion : has p (host_of config.assertion) ≡ side
  pub disconnect : IfSome config.disconnect (λ to. has p (host_of to) ≡ side)

abbrev pub ProviderSide : Part → Bool → ProviderOptions → Type 0
ProviderSide p side provider = has p (host_of provider.config) ≡ side

-- so is the configuration of a provider, where it was read
abbrev pub ProgressSide : Part → Bool → Progress → Type 0
ProgressSide p side (progress_is.Reading replies) = IfSome replies.config (ConfigSide p side)
ProgressSide p side (progress_is.Listing config) = ConfigSide p side config
ProgressSide p side (progress_is.Listed config accounts) = ConfigSide p side config
ProgressSide p side (progress_is.Dropped failure) = ⊤

-- the provider of an account that is offered is in the part, or not
pub record OfferedSide (p : Part) (side : Bool) (offered : Offered) : Type 0 where
  pub provider : ProviderSide p side offered.options
  pub config : ConfigSide p side offered.config

pub record GetSide (p : Part) (side : Bool) (f : Facts) : Type 0 where
  pub page : has p f.origin.host ≡ side
  pub providers : AllByRecursion (ProviderSide p side) f.options.providers
  pub progress : AllByRecursion (ProgressSide p side) f.progress
  pub offered : AllByRecursion (OfferedSide p side) f.offered
  pub picked : IfSome f.picked (OfferedSide p side)

pub record DisconnectSide (p : Part) (side : Bool) (f : DisconnectFacts) : Type 0 where
  pub page : has p f.origin.host ≡ side
  pub provider : has p (host_of f.options.config) ≡ side
  pub config : IfSome f.replies.config (ConfigSide p side)

-- the page and the providers of a call are in the part, or none is
abbrev pub KnownSide : Part → Bool → Known → Type 0
KnownSide p side (OfGet f) = GetSide p side f
KnownSide p side (OfDisconnect f) = DisconnectSide p side f

-- the providers that a page asks for are
abbrev pub AskedSide : Part → Bool → CallOptions → Type 0
AskedSide p side (ToGet options) = AllByRecursion (ProviderSide p side) options.providers
AskedSide p side (ToDisconnect options) = has p (host_of options.config) ≡ side

-- ---- effects

-- a call begins on the side of its page's number
pub record BegunFits (p : Part) (begun : Begun) : Type 0 where
  pub call : p.calls begun.call ≡ p.pages begun.page
  pub page : has p begun.origin.host ≡ p.pages begun.page
  pub asked : AskedSide p (p.pages begun.page) begun.options

-- a page stands on the side of its number, which is one that is loaded
pub record PageFits (p : Part) (loaded : ℕ → Bool) (page : ℕ) (host : List ℕ) : Type 0 where
  pub side : has p host ≡ p.pages page
  pub loaded_once : loaded page ≡ true

abbrev pub Fits : Part → (ℕ → Bool) → Effect → Type 0
Fits p loaded (does.Page page origin) = PageFits p loaded page origin.host
Fits p loaded (does.Begin begun) = BegunFits p begun
Fits p loaded _ = ⊤

abbrev pub AllFit : Part → (ℕ → Bool) → List Row → Type 0
AllFit p loaded rows = AllByRecursion (λ row. AllByRecursion (Fits p loaded) row.effects) rows
