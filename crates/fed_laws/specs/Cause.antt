-- Why a token or a disconnect is asked for, and to whom a token is given: what happened, by events alone.
use Rattle.std.specs.Prelude.{◌≡◌, ℕ, suc, Bool, true, false, ◌&&◌, nat_eq, ◌==◌, ◌≤◌, List, [], ◌∷◌, ◌++◌, length, Option}
use Rattle.std.specs.Prelude.{Some, None, is_some}
use Rattle.std.specs.Prelude.{option_and_then, option_map, not, if◌then◌else◌, Result as Answer, Ok, Err, ◌⊎◌}
use Rattle.std.specs.Option.{option_or}
use Rattle.std.specs.List.{filter_map, list_any}
use Rattle.std.specs.Result.{result_ok}
use Rattle.url.specs.Parts.{Parts}
use Rattle.fed_origin.specs.declared.options.GetOptions.{GetOptions}
use Rattle.fed_origin.specs.declared.options.ProviderOptions.{ProviderOptions}
use Rattle.fed_origin.specs.declared.origin.Origin.{Origin}
use Rattle.fed_origin.specs.declared.status.LoginStatus.TheVariants.{LoggedIn}
use Rattle.fed_origin.specs.declared.status.Triple.{Triple}
use Rattle.fed_origin.specs.Origin.{origin_text, same_origin}
use Rattle.fed_origin.specs.WebUrl.{origin_of}
use Rattle.fed_suffix.specs.Rule.{RuleSet}
use Rattle.fed_provider.specs.declared.config.Config.{Config}
use Rattle.fed_provider.specs.declared.wellknown.WellKnown.{WellKnown}
use Rattle.fed_provider.specs.Config.{ConfigOf}
use Rattle.fed_provider.specs.WellKnown.{agrees}
use Rattle.fed_accounts.specs.declared.account.Account.{Account}
use Rattle.fed_accounts.specs.declared.step.AccountsStep.{AccountsStep}
use Rattle.fed_token.specs.declared.step.TokenStep.{TokenStep}
use Rattle.fed_token.specs.Read.{AssertionOf, DisconnectOf}
use Rattle.fed_status.specs.Kept.{has_pair, has_triple, is_of_pair, triple_of}
use Rattle.fed_consent.specs.declared.table.finish.Finish.TheVariants.{Token}
use Rattle.fed_consent.specs.declared.table.input.Input.{Input}
use Rattle.fed_consent.specs.Outcomes.{only_place}
use Rattle.fed_disconnect.specs.Facts.{DisconnectOptions, provider_origin}
use Rattle.fed_consent.specs.Consent.{AssertionFields, Choices, Pick, chosen, picks, reselection_on}
use Rattle.fed_accounts.specs.declared.offer.Offer.{Offer}
use Rattle.fed_status.specs.Flags.{has_flag}
use Rattle.fed_call.specs.Accounts.{accounts_of, offer_of, provider_at}
use Rattle.fed_provider.specs.FirstReplies.{config_read, wellknown_read}
use Rattle.fed_script.specs.declared.event.Event.{Event}
use Rattle.fed_script.specs.declared.event.Event.TheVariants.{Have, Reply, Choose, GoOn}
use Rattle.fed_script.specs.declared.event.Have.TheVariants as haves
use Rattle.fed_origin.specs.declared.stage.ReplyKind.TheVariants as kinds
use Rattle.fed_consent.specs.declared.table.ask.Ask.{Ask}
use Rattle.fed_consent.specs.declared.table.ask.Ask.TheVariants as asks
use Rattle.fed_consent.specs.declared.table.input.Input.TheVariants as inputs
use Rattle.fed_trace.specs.Begun.{Begun, ToGet, ToDisconnect, GetCall, DisconnectCall}
use Rattle.fed_trace.specs.Effect.{Effect, Begin, Login, Sent, Result, is_ignored}
use Rattle.fed_trace.specs.Known.{input_to}
use Rattle.fed_trace.specs.Row.{effects_of, row_of}
use Rattle.fed_trace.specs.Trace.{Row, Trace, flags, kept, page_at}
use Rattle.fed_trace.specs.OfCall.{Has, disturbs, call_at, assertions, dropped}

-- ---- what a call began with, and what it was given

-- the bytes of a configuration of the provider at this place, where an input gives these and was not ignored
abbrev pub config_given : ℕ → Bool → Option Input → Option (List ℕ)
config_given provider false (Some (inputs.Reply place kinds.Config raw)) = if nat_eq provider place then Some raw else None
config_given provider _ _ = None

-- those of its last configuration that the call took
abbrev pub config_taken : ℕ → ℕ → List Row → Option (List ℕ)
config_taken call provider [] = None
config_taken call provider (row ∷ rows) =
    option_or (config_given provider (list_any is_ignored row.effects) (input_to call row.event)) (config_taken call provider rows)

-- the configuration that bytes hold of the provider at this place of a call with these options
abbrev pub config_in : GetOptions → ℕ → List ℕ → Option Config
config_in options provider raw = option_and_then result_ok (config_read raw (provider_at provider options))

-- the configuration of the provider at this place of a call with these options, where it has one
abbrev pub config_at : List Row → ℕ → ℕ → GetOptions → Option Config
config_at rows call provider options = option_and_then (config_in options provider) (config_taken call provider rows)

-- ---- how the providers of a call are settled

-- a provider of a call is settled: it drops out, or this is an accounts reply by which the user is logged in there
pub data Settlement : Type 0 where
  DropsOut : Settlement
  Gives : (raw : List ℕ) → Settlement

-- the provider at this place of the call drops out by these effects
abbrev pub drops : ℕ → ℕ → List Effect → Bool
drops call place effects = list_any (nat_eq place) (filter_map (dropped call) effects)

-- the user is logged in at the provider by the effect
abbrev pub logs_in : Origin → Effect → Bool
logs_in provider (Login origin LoggedIn) = same_origin provider origin
logs_in provider _ = false

-- the accounts reply for the provider at this place of the call that an event is, if it is one
abbrev pub accounts_reply : ℕ → ℕ → Event → Option (List ℕ)
accounts_reply call place (Reply c p kinds.Accounts raw) = if nat_eq call c && nat_eq place p then Some raw else None
accounts_reply call place _ = None

-- by whether the provider drops out, and by whether the user is logged in there
abbrev pub settled_so : Bool → Bool → Option (List ℕ) → Option Settlement
settled_so true logged_in raw = Some DropsOut
settled_so false true raw = option_map Gives raw
settled_so false false raw = None

-- how the row settles the provider at this place, if it does
abbrev pub settled_in : ℕ → ℕ → ProviderOptions → Row → Option Settlement
settled_in call place provider row =
    settled_so (drops call place row.effects) (list_any (logs_in (origin_of provider.config)) row.effects)
    (accounts_reply call place row.event)

-- how the rows settled it
abbrev pub settled_by : ℕ → ℕ → ProviderOptions → List Row → Option Settlement
settled_by call place provider [] = None
settled_by call place provider (row ∷ rows) = option_or (settled_in call place provider row) (settled_by call place provider rows)

-- one more, if all of them are
abbrev pub and_settled : Option Settlement → Option (List Settlement) → Option (List Settlement)
and_settled (Some settlement) (Some settlements) = Some (settlement ∷ settlements)
and_settled _ _ = None

-- how each of the providers is settled, if each is, where the first has the place n
abbrev pub all_settled : ℕ → ℕ → List ProviderOptions → List Row → Option (List Settlement)
all_settled call n [] rows = Some []
all_settled call n (provider ∷ providers) rows =
    and_settled (settled_by call n provider rows) (all_settled call (suc n) providers rows)

-- what a provider offers, by how it is settled and by the permissions that are kept
abbrev pub offer_read : List Triple → Origin → ℕ → ProviderOptions → Answer (List Account) AccountsStep → List Offer
offer_read kept page place provider (Ok accounts) = offer_of kept page place provider accounts ∷ []
offer_read kept page place provider (Err step) = []

abbrev pub offer_by : List Triple → Origin → ℕ → ProviderOptions → Settlement → List Offer
offer_by kept page place provider DropsOut = []
offer_by kept page place provider (Gives raw) = offer_read kept page place provider (accounts_of raw provider)

abbrev pub offers_from : List Triple → Origin → ℕ → List ProviderOptions → List Settlement → List Offer
offers_from kept page n [] settlements = []
offers_from kept page n (provider ∷ providers) [] = []
offers_from kept page n (provider ∷ providers) (settlement ∷ settlements) =
    offer_by kept page n provider settlement ++ offers_from kept page (suc n) providers settlements

-- what the providers of a call offer, by how they are settled and by the permissions that are kept after what happened
abbrev pub choices_after : Trace → Begun → GetOptions → List Settlement → Choices
choices_after T begun get settlements =
    record { call = begun.call; offers = offers_from (kept T) begun.origin 0 get.providers settlements }

-- the event is the choice of one of the accounts
abbrev pub chooses : Choices → Event → Bool
chooses choices (Choose call place id) = nat_eq choices.call call && is_some (chosen place id choices)
chooses choices _ = false

-- the event is a metadata reply for the provider at this place of the call
abbrev pub is_metadata : ℕ → ℕ → Event → Bool
is_metadata call provider (Reply c p kinds.Metadata raw) = nat_eq call c && nat_eq provider p
is_metadata call provider _ = false

-- ---- the cause of a request for a token

-- This row, after those before it, settles the last provider of a call, a get that began as `rows` say.
pub record SettlesLast (rows before : List Row) (row : Row) (call : ℕ) : Type 0 where
  pub begun : Begun
  pub began : call_at rows call ≡ Some begun
  pub get : GetOptions
  pub is_get : begun.options ≡ ToGet get
  pub settlements : List Settlement
  pub all : all_settled call 0 get.providers (row ∷ before) ≡ Some settlements
  pub not_before : all_settled call 0 get.providers before ≡ None

-- A row settled the last of the call's providers, and since then nothing disturbed it.
pub record Settled (T : Trace) (call : ℕ) : Type 0 where
  -- the rows since, the row, and the rows before it, the newest first
  pub since : List Row
  pub settling : Row
  pub before : List Row
  pub rows : T.rows ≡ since ++ settling ∷ before
  pub last : SettlesLast T.rows before settling call
  pub stands : list_any (disturbs call last.begun.page) (since ++ settling ∷ []) ≡ false

-- the accounts that are offered then
abbrev pub choices_of : (T : Trace) (call : ℕ) → Settled T call → Choices
choices_of T call settled =
    choices_after (record { header = T.header; rows = settled.before }) settled.last.begun settled.last.get settled.last.settlements

-- the configuration has no metadata endpoint, or a metadata reply came in these rows
abbrev pub IsReady : ℕ → ℕ → Config → List Row → Type 0
IsReady call provider config rows =
    (config.metadata ≡ None) ⊎ (list_any (λ row. is_metadata call provider row.event) rows ≡ true)

-- the user chose this account, the first choice among several since they were offered
pub record FirstChoice (provider : ℕ) (id : List ℕ) (choices : Choices) (since : List Row) : Type 0 where
  pub several : 2 ≤ length (picks choices)
  -- the rows since the choice, its row, and the rows between the offer and it
  pub after : List Row
  pub choice : Row
  pub waiting : List Row
  pub rows : since ≡ after ++ choice ∷ waiting
  pub event : choice.event ≡ Choose choices.call provider id
  pub first : list_any (λ row. chooses choices row.event) waiting ≡ false

-- how the user agreed to name the page to the provider for an account
pub data Agreed (event : Event) (id : List ℕ) (choices : Choices) (pick : Pick) (config : Config) (since : List Row) : Type 0 where
  -- by the first choice among several, of a connected account
  ByChoice : 2 ≤ length (picks choices) → event ≡ Choose choices.call pick.provider id
      → list_any (λ row. chooses choices row.event) since ≡ false
      → pick.candidate.connected ≡ true → Agreed event id choices pick config since
  -- by going on with the only account, which is connected or was shown with what the client's metadata say
  BySinglePrompt : event ≡ GoOn choices.call → picks choices ≡ pick ∷ []
      → (pick.candidate.connected ≡ true) ⊎ IsReady choices.call pick.provider config since → Agreed event id choices pick config since
  -- by going on with the account that was chosen, which was shown with what the client's metadata say
  ByChosenPrompt : event ≡ GoOn choices.call → (choice : FirstChoice pick.provider id choices since)
      → IsReady choices.call pick.provider config choice.after → Agreed event id choices pick config since

-- The event makes the call ask the provider for a token of the account with this id: all providers of the call were settled and this
-- account is among those that they offer, no token was asked for, and the user agreed.
pub record UserCause (T : Trace) (event : Event) (call provider : ℕ) (id : List ℕ) : Type 0 where
  pub settled : Settled T call
  pub pick : Pick
  pub is_offered : chosen provider id (choices_of T call settled) ≡ Some pick
  pub first : assertions call T.rows ≡ []
  pub config : Config
  pub is_configured : config_at T.rows call provider settled.last.get ≡ Some config
  pub agreed : Agreed event id (choices_of T call settled) pick config settled.since

-- The event does so by itself: by its row the last of the call's providers is settled, no token was asked for, and of all that they
-- offer the rules of reselection name the account with this id, by the permissions and the flag that stood before.
pub record PermissionCause (T : Trace) (event : Event) (call provider : ℕ) (id : List ℕ) : Type 0 where
  -- whatever its line
  pub line : ℕ
  pub last : SettlesLast T.rows T.rows (row_of T line event) call
  pub first : assertions call T.rows ≡ []
  pub pick : Pick
  pub names :
      reselection_on (record {
        call = call;
        offers = (choices_after T last.begun last.get last.settlements).offers;
        flag = has_flag (flags T) last.begun.origin;
        mediation = last.get.mediation;
      }) ≡ Some pick
  pub is_provider : pick.provider ≡ provider
  pub is_account : pick.candidate.account.id ≡ id

-- why a token is asked for: the user agreed, or a permission that is kept suffices
pub data AssertionCause (T : Trace) (event : Event) (call provider : ℕ) (id : List ℕ) : Type 0 where
  ByUser : UserCause T event call provider id → AssertionCause T event call provider id
  ByPermission : PermissionCause T event call provider id → AssertionCause T event call provider id

-- the event is that the user went on with the call's prompt
abbrev pub is_going : Event → Bool
is_going (GoOn call) = true
is_going _ = false

-- The request goes to the assertion endpoint, names the call's page, client, nonce and text and the account, and says whether the account
-- was reselected, and whether the user was shown what the provider tells the page.
pub record Says (rows : List Row) (call provider : ℕ) (begun : Begun) (get : GetOptions) (options : ProviderOptions) (id : List ℕ)
    (auto disclosure : Bool) (ask : AssertionFields) : Type 0 where
  pub to : Some ask.to ≡ option_map (λ config. config.assertion) (config_at rows call provider get)
  pub origin : ask.origin ≡ begun.origin
  pub client : ask.client ≡ options.client
  pub nonce : ask.nonce ≡ options.nonce
  pub params : ask.params ≡ options.params
  pub account : ask.account ≡ id
  pub auto_is : ask.auto ≡ auto
  pub disclosure_is : ask.disclosure ≡ disclosure

-- the request says why, with what the call said of the provider at this place
pub record SaysOf (rows : List Row) (call provider : ℕ) (begun : Begun) (get : GetOptions) (id : List ℕ) (auto disclosure : Bool)
    (ask : AssertionFields) : Type 0 where
  pub options : ProviderOptions
  pub has_provider : provider_at provider get ≡ Some options
  pub says : Says rows call provider begun get options id auto disclosure ask

-- the account was reselected exactly where a permission suffices, and something was disclosed exactly where the user went on with an
-- account that was not connected
abbrev pub SaysWhy : (T : Trace) (event : Event) (call provider : ℕ) (id : List ℕ) → AssertionCause T event call provider id
    → AssertionFields → Type 0
SaysWhy T event call provider id (ByUser cause) ask =
    SaysOf T.rows call provider cause.settled.last.begun cause.settled.last.get id false
    (is_going event && not cause.pick.candidate.connected) ask
SaysWhy T event call provider id (ByPermission cause) ask = SaysOf T.rows call provider cause.last.begun cause.last.get id true false ask

-- ---- to whom a token is given

-- the call began, and since then nothing disturbed it
pub record Undisturbed (rows : List Row) (call : ℕ) (begun : Begun) : Type 0 where
  pub since : List Row
  pub beginning : Row
  pub before : List Row
  pub rows_are : rows ≡ since ++ beginning ∷ before
  pub begins_it : Has beginning.effects (Begin begun)
  pub is_it : begun.call ≡ call
  pub stands : list_any (disturbs call begun.page) since ≡ false

-- an earlier row asked the provider for a token of the call
pub record Asked (rows : List Row) (call provider : ℕ) : Type 0 where
  pub since : List Row
  pub asking : Row
  pub before : List Row
  pub rows_are : rows ≡ since ++ asking ∷ before
  pub ask : AssertionFields
  pub cookies : List ℕ
  pub sends : Has asking.effects (Sent GetCall call provider (asks.Assertion ask) cookies)

-- The event gives the token to the page: it is the reply to the call's request, the call is of the page, and the page stands, with the
-- origin that it had when the call began and neither loaded nor closed since.
pub record Delivers (T : Trace) (event : Event) (call page provider : ℕ) (token : List ℕ) : Type 0 where
  pub begun : Begun
  pub undisturbed : Undisturbed T.rows call begun
  pub is_page : page ≡ begun.page
  pub stands : page_at T page ≡ Some begun.origin
  pub asked : Asked T.rows call provider
  pub raw : List ℕ
  pub is_reply : event ≡ Reply call provider kinds.Assertion raw
  pub reads : AssertionOf raw (origin_text begun.origin) ≡ Ok token

-- ---- where permissions come from, and where they go

-- The row gives a token to the page of a call, and the permission is that of the call: of its page's origin, its provider's origin, and
-- the account that the token was asked for.
pub record SignsIn (rows : List Row) (effects : List Effect) (triple : Triple) : Type 0 where
  pub call : ℕ
  pub provider : ℕ
  pub auto : Bool
  pub token : List ℕ
  pub begun : Begun
  pub began : call_at rows call ≡ Some begun
  pub gives : Has effects (Result call begun.page (Token auto provider token))
  pub get : GetOptions
  pub is_get : begun.options ≡ ToGet get
  pub options : ProviderOptions
  pub has_provider : provider_at provider get ≡ Some options
  pub asked : Asked rows call provider
  pub is_triple : triple ≡ triple_of begun.origin (origin_of options.config) asked.ask.account

-- why a permission is kept: a line says that it was kept before, or a page was given a token
pub data IsKept (T : Trace) (event : Event) (triple : Triple) : Type 0 where
  FromBefore : event ≡ Have (haves.Kept triple) → IsKept T event triple
  BySigningIn : SignsIn T.rows (effects_of T event) triple → IsKept T event triple

-- what was read of a disconnect reply makes the permission go: alone, where it is the one of the account that the reply names, or
-- with all of its pair, where that one is not kept or the reply is refused
pub data Takes (kept : List Triple) (page provider : Origin) (triple : Triple) : Answer (List ℕ) TokenStep → Type 0 where
  Alone : (account : List ℕ) → triple ≡ triple_of page provider account → Takes kept page provider triple (Ok account)
  WithPair : (account : List ℕ) → is_of_pair page provider triple ≡ true
      → has_triple kept (triple_of page provider account) ≡ false → Takes kept page provider triple (Ok account)
  Refused : (step : TokenStep) → is_of_pair page provider triple ≡ true → Takes kept page provider triple (Err step)

-- an earlier row sent the request of a disconnect call, for its page and for what that asked
pub record AskedToDisconnect (rows : List Row) (call : ℕ) (page : Origin) (options : DisconnectOptions) : Type 0 where
  pub since : List Row
  pub asking : Row
  pub before : List Row
  pub rows_are : rows ≡ since ++ asking ∷ before
  pub to : Parts
  pub cookies : List ℕ
  pub sends : Has asking.effects (Sent DisconnectCall call only_place (asks.Disconnect to options.client options.hint page) cookies)

-- Why a permission goes: the event is the reply to the request of a disconnect call, the call is of a page that stands, with the origin
-- that it had when the call began and neither loaded nor closed since, and the permission was kept.
pub record IsTaken (T : Trace) (event : Event) (triple : Triple) : Type 0 where
  pub call : ℕ
  pub begun : Begun
  pub began : call_at T.rows call ≡ Some begun
  pub options : DisconnectOptions
  pub is_disconnect : begun.options ≡ ToDisconnect options
  pub undisturbed : Undisturbed T.rows call begun
  pub stands : page_at T begun.page ≡ Some begun.origin
  pub asked : AskedToDisconnect T.rows call begun.origin options
  pub raw : List ℕ
  pub is_reply : event ≡ Reply call only_place kinds.Disconnect raw
  pub was_kept : has_triple (kept T) triple ≡ true
  pub takes : Takes (kept T) begun.origin (provider_origin options) triple (DisconnectOf raw (origin_text begun.origin))

-- ---- the cause of a request for a disconnect

-- the bytes of a well-known reply of the only provider, where an input brings these
abbrev pub wellknown_brought : Option Input → Option (List ℕ)
wellknown_brought (Some (inputs.Reply place kinds.WellKnown raw)) = if place == only_place then Some raw else None
wellknown_brought _ = None

-- the bytes of a configuration of it
abbrev pub config_brought : Option Input → Option (List ℕ)
config_brought (Some (inputs.Reply place kinds.Config raw)) = if place == only_place then Some raw else None
config_brought _ = None

-- the first such bytes that the rows bring to the call
abbrev pub first_in : (Option Input → Option (List ℕ)) → ℕ → List Row → Option (List ℕ)
first_in brought call [] = None
first_in brought call (row ∷ rows) = option_or (first_in brought call rows) (brought (input_to call row.event))

-- the same of the rows and then an event
abbrev pub first_by : (Option Input → Option (List ℕ)) → ℕ → List Row → Event → Option (List ℕ)
first_by brought call rows event = option_or (first_in brought call rows) (brought (input_to call event))

-- The first well-known file and the first configuration that the rows and the event bring to the call are good, they agree, and the
-- event brings one of the two.
pub record FilesAreGood (rules : RuleSet) (url : Parts) (call : ℕ) (since : List Row) (event : Event) : Type 0 where
  pub wellknown : List ℕ
  pub wellknown_came : first_by wellknown_brought call since event ≡ Some wellknown
  pub said : WellKnown
  pub names_it : wellknown_read rules url wellknown ≡ Ok said
  pub file : List ℕ
  pub file_came : first_by config_brought call since event ≡ Some file
  pub config : Config
  pub holds : ConfigOf file url ≡ Ok config
  pub agree : agrees said config ≡ None
  pub not_before : (first_in wellknown_brought call since ≡ None) ⊎ (first_in config_brought call since ≡ None)

-- Why a provider is asked to disconnect: the call is a disconnect of a page that stands, with the origin that it had when the call began
-- and neither loaded nor closed since, a permission of its page's origin and its provider's origin was kept when it began, and by the
-- event both files of its provider are good, and they agree.
pub record DisconnectCause (T : Trace) (event : Event) (call : ℕ) : Type 0 where
  pub begun : Begun
  pub options : DisconnectOptions
  pub is_disconnect : begun.options ≡ ToDisconnect options
  pub undisturbed : Undisturbed T.rows call begun
  pub stands : page_at T begun.page ≡ Some begun.origin
  pub was_kept : has_pair (kept (record { header = T.header; rows = undisturbed.before })) begun.origin (provider_origin options) ≡ true
  pub files : FilesAreGood T.header.rules options.config call undisturbed.since event

-- the request goes to the disconnect endpoint, and names the call's client, hint and page
pub record SaysDisconnect (T : Trace) (event : Event) (call : ℕ) (cause : DisconnectCause T event call) (to : Parts)
    (client hint : List ℕ) (origin : Origin) : Type 0 where
  pub to_is : Some to ≡ cause.files.config.disconnect
  pub client_is : client ≡ cause.options.client
  pub hint_is : hint ≡ cause.options.hint
  pub origin_is : origin ≡ cause.begun.origin

-- ---- which requests name a page

-- Why a request names its page: it is the one for the client's links, and then it carries no cookies, or it asks for a token or for a
-- disconnect, and has the cause of that.
pub data Naming (T : Trace) (event : Event) (call provider : ℕ) (ask : Ask) (cookies : List ℕ) : Type 0 where
  ForLinks : (to : Parts) (client : List ℕ) (origin : Origin) → ask ≡ asks.Metadata to client origin → cookies ≡ []
      → Naming T event call provider ask cookies
  ForToken : (fields : AssertionFields) → ask ≡ asks.Assertion fields
      → (cause : AssertionCause T event call provider fields.account) → SaysWhy T event call provider fields.account cause fields
      → Naming T event call provider ask cookies
  ForDisconnect : (to : Parts) (client hint : List ℕ) (origin : Origin) → ask ≡ asks.Disconnect to client hint origin
      → (cause : DisconnectCause T event call) → SaysDisconnect T event call cause to client hint origin
      → Naming T event call provider ask cookies
