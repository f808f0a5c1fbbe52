-- What is good of what a call does.
use Rattle.std.proofs.Common.{◌≡◌, ℕ, ◌^◌, ◌<◌, ◌≤◌, List, length}
use Rattle.std.specs.Prelude.{⊤}
use Rattle.std.specs.List.{AllByRecursion}
use Rattle.std.specs.Str.{IsUtf8}
use Rattle.url.specs.Parts.{Parts}
use Rattle.fed_origin.specs.declared.origin.Origin.{Origin}
use Rattle.fed_origin.specs.WebUrl.{origin_of}
use Rattle.fed_consent.specs.declared.table.ask.Ask.{Ask}
use Rattle.fed_consent.specs.declared.table.ask.Ask.TheVariants as asks
use Rattle.fed_consent.specs.declared.table.dialog.Dialog.{Dialog}
use Rattle.fed_consent.specs.declared.table.effect.Effect.{Effect as CallEffect}
use Rattle.fed_consent.specs.declared.table.effect.Effect.TheVariants as does
use Rattle.fed_consent.specs.declared.table.finish.Finish.{Finish}
use Rattle.fed_consent.specs.declared.table.finish.Finish.TheVariants as finishes
use Rattle.fed_consent.specs.Consent.{AssertionFields}
use Rattle.fed_consent.specs.Outcomes.{Outcome}
use Rattle.fed_disconnect.specs.Facts.{DisconnectOptions}
use Rattle.fed_trace.specs.Begun.{Begun, CallOptions, ToDisconnect, ToGet}
use Rattle.fed_trace.specs.Effect.{Effect, Begin, Cookie, Dropped, Page, Result, Sent, Shown, Window}
use Rattle.fed_own.specs.Line.{dialog_numbers, dialog_texts}
use Rattle.fed_own.proofs.json.Values.{IfSo}
use Rattle.fed_origin.specs.declared.options.ProviderOptions.{ProviderOptions}
use Rattle.fed_own.proofs.plain.Good.{GoodOptions}
use Rattle.fed_own.proofs.plain.Lists.{IsField}
use Rattle.fed_own.proofs.plain.Web.{IsWeb}
use Rattle.fed_own.proofs.walk.Jar.{GoodChange}

-- a number of 32 bits
abbrev pub IsSmall : ℕ → Type 0
IsSmall n = n < 2 ^ 32

-- the origin of a URL of the web
pub record IsPage (origin : Origin) : Type 0 where
  pub url : Parts
  pub web : IsWeb url
  pub is : origin ≡ origin_of url

-- ---- requests

pub record GoodAssertion (ask : AssertionFields) : Type 0 where
  pub to : IsWeb ask.to
  pub origin : IsPage ask.origin
  pub client : IsUtf8 ask.client
  pub nonce : IfSo IsUtf8 ask.nonce
  pub params : IfSo IsUtf8 ask.params
  pub account : IsUtf8 ask.account

abbrev pub GoodAsk : Ask → Type 0
GoodAsk (asks.WellKnown to) = IsWeb to
GoodAsk (asks.Config to) = IsWeb to
GoodAsk (asks.Accounts to) = IsWeb to
GoodAsk (asks.Metadata to client origin) = IsWeb to × IsPage origin
GoodAsk (asks.Assertion ask) = GoodAssertion ask
GoodAsk (asks.Disconnect to client hint origin) = IsWeb to × IsPage origin

-- ---- what a call does

pub record GoodDialog (dialog : Dialog) : Type 0 where
  pub texts : AllByRecursion IsUtf8 (dialog_texts dialog)
  pub places : AllByRecursion IsSmall (dialog_numbers dialog)

abbrev pub GoodFinish : Finish → Type 0
GoodFinish (finishes.Token auto place token) = IsSmall place × IsUtf8 token
GoodFinish finishes.Disconnected = ⊤
GoodFinish (finishes.Failed failure) = ⊤
GoodFinish (finishes.ProviderError code url) = IsUtf8 code × IfSo IsUtf8 url

abbrev pub GoodDoes : CallEffect → Type 0
GoodDoes (does.Send place ask) = IsSmall place × GoodAsk ask
GoodDoes (does.Dropped place failure) = IsSmall place
GoodDoes (does.Dialog dialog) = GoodDialog dialog
GoodDoes (does.Window place url) = IsSmall place × IsWeb url
GoodDoes (does.Finish finish) = GoodFinish finish
GoodDoes _ = ⊤

abbrev pub AllGood : Outcome → Type 0
AllGood o = AllByRecursion GoodDoes o.effects

-- ---- what an event does

pub record GoodDisconnectOptions (options : DisconnectOptions) : Type 0 where
  pub config : IsWeb options.config

pub record GoodGet (providers : List ProviderOptions) : Type 0 where
  pub all : AllByRecursion GoodOptions providers
  pub few : length providers ≤ 10

abbrev pub GoodCall : CallOptions → Type 0
GoodCall (ToGet options) = GoodGet options.providers
GoodCall (ToDisconnect options) = GoodDisconnectOptions options

pub record GoodBegun (b : Begun) : Type 0 where
  pub call : IsSmall b.call
  pub page : IsSmall b.page
  pub origin : IsPage b.origin
  pub options : GoodCall b.options

abbrev pub GoodEffect : Effect → Type 0
GoodEffect (Begin begun) = GoodBegun begun
GoodEffect (Page page origin) = IsPage origin
GoodEffect (Cookie change) = GoodChange change
GoodEffect (Sent kind call provider ask cookies) = IsSmall call × IsSmall provider × GoodAsk ask × IsField cookies
GoodEffect (Dropped call provider failure) = IsSmall call × IsSmall provider
GoodEffect (Shown call dialog) = IsSmall call × GoodDialog dialog
GoodEffect (Window call provider url) = IsSmall call × IsSmall provider × IsWeb url
GoodEffect (Result call page finish) = IsSmall call × IsSmall page × GoodFinish finish
GoodEffect _ = ⊤
