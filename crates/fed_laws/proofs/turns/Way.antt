-- What an input brings a call: how its providers have come then, and its dialogs.
use Rattle.std.proofs.Common.{◌≡◌, ℕ, Bool, true, false, nat_eq, cond, ◌⊎◌, inl, inr, List, [], ◌∷◌, Option, Some, None}
use Rattle.std.proofs.Common.{Result as Answer, Ok, Err, refl, sym, ap, subst, ◌∙◌, arith}
use Rattle.std.proofs.lemmas.Bool.Decides.{nat_tests}
use Rattle.std.specs.Prelude.{unwrap_or, ◌||◌, slice_set, ⊤}
use Rattle.std.specs.List.{filter_map, cons_option, list_any}
use Rattle.url.specs.Parts.{Parts}
use Rattle.fed_origin.specs.declared.options.ProviderOptions.{ProviderOptions}
use Rattle.fed_origin.specs.declared.origin.Origin.{Origin}
use Rattle.fed_origin.specs.declared.stage.Endpoint.{Endpoint}
use Rattle.fed_origin.specs.declared.stage.ReplyKind.{ReplyKind}
use Rattle.fed_origin.specs.declared.stage.ReplyKind.TheVariants as kinds
use Rattle.fed_origin.specs.declared.stage.Stage.{Stage}
use Rattle.fed_origin.specs.declared.stage.Stage.TheVariants.{Reading, Listing, Gathering, Mismatch, Window, Choosing, Prompting}
use Rattle.fed_origin.specs.declared.stage.Stage.TheVariants.{Asserting, Ended}
use Rattle.fed_origin.specs.declared.status.LoginStatus.TheVariants.{LoggedIn, LoggedOut}
use Rattle.fed_origin.specs.Origin.{origin_text}
use Rattle.fed_origin.specs.WebUrl.{origin_of}
use Rattle.fed_provider.specs.declared.config.Config.{Config as Configuration}
use Rattle.fed_provider.specs.declared.first_replies.FirstReplies.{FirstReplies}
use Rattle.fed_provider.specs.declared.step.ProviderStep.{ProviderStep}
use Rattle.fed_provider.specs.declared.wellknown.WellKnown.{WellKnown}
use Rattle.fed_provider.specs.Config.{ConfigOf}
use Rattle.fed_provider.specs.FirstReplies.{by_agreement, wellknown_heard, config_heard, wellknown_read}
use Rattle.fed_provider.specs.WellKnown.{agrees}
use Rattle.fed_accounts.specs.declared.account.Account.{Account}
use Rattle.fed_accounts.specs.declared.step.AccountsStep.{AccountsStep}
use Rattle.fed_token.specs.declared.step.TokenStep.{TokenStep}
use Rattle.fed_token.specs.Read.{AssertionOf}
use Rattle.fed_status.specs.Login.{status_of}
use Rattle.fed_status.specs.Shared.{World}
use Rattle.fed_consent.specs.declared.table.effect.Effect.{Effect as CallEffect}
use Rattle.fed_consent.specs.declared.table.effect.Effect.TheVariants as does
use Rattle.fed_consent.specs.declared.table.failure.Failure.{Failure}
use Rattle.fed_consent.specs.declared.table.finish.Finish.{Finish}
use Rattle.fed_consent.specs.declared.table.finish.Finish.TheVariants.{Token}
use Rattle.fed_consent.specs.declared.table.input.Input.{Input}
use Rattle.fed_consent.specs.declared.table.input.Input.TheVariants as inputs
use Rattle.fed_consent.specs.declared.table.why.Why.{Why}
use Rattle.fed_consent.specs.declared.table.why.Why.TheVariants.{NotWaited}
use Rattle.fed_consent.specs.Outcomes.{Outcome, finishes, ignored, stays, after, only_place, is_ignored}
use Rattle.fed_call.specs.declared.progress.Progress.{Progress}
use Rattle.fed_call.specs.declared.progress.Progress.TheVariants as progress_is
use Rattle.fed_call.specs.Accounts.{Offered, accounts_of, provider_at}
use Rattle.fed_call.specs.AssertingRows.{by_token, clears, keeps, picked_at, assertion_reply, asserting_reply}
use Rattle.fed_call.specs.DialogRows.{chose, choice, by_connection, goes_on, went_on, cancelled, prompting_reply, metadata_reply}
use Rattle.fed_call.specs.Dialogs.{prompt_effect, site_of}
use Rattle.fed_call.specs.Facts.{Facts, Conclusion, Awaits, NoneLeft, Reselects, NoneSilent, Offers, Prompts, came_at, conclusion_of}
use Rattle.fed_call.specs.Facts.{config_at}
use Rattle.fed_call.specs.Facts.{found_offered, is_single, progress_at, with_came, with_conclusion, with_input, with_none_fitting}
use Rattle.fed_call.specs.Facts.{with_progress, with_reply}
use Rattle.fed_call.specs.GatheringRows.{gathering_came}
use Rattle.fed_call.specs.Progress.{Came, Unawaited, Refused, Waits, Both, NoneFits, Fit, came, came_heard, came_read, is_awaited, came_to}
use Rattle.fed_call.specs.Row.{stage_reply, came_row, provider_row, input_row}
use Rattle.fed_call.specs.SettledRows.{concludes, settles}
use Rattle.fed_call.specs.SingleRows.{single_came, by_mismatch, by_window, is_mismatch}
use Rattle.fed_call.specs.WindowRows.{may_sign_in, opens_window, asked_to_sign_in, asks_again, resumed, window_shut}
use Rattle.fed_trace.proofs.happens.Says.{drop_of, asks_token, finish_of}
use Rattle.fed_laws.proofs.turns.Turn.{gives_token, reselects, settling, settling_at, told}

-- the stages at which some provider may be awaited
abbrev pub is_first : Stage → Bool
is_first Reading = true
is_first Listing = true
is_first Gathering = true
is_first Mismatch = true
is_first Window = true
is_first Choosing = false
is_first Prompting = false
is_first Asserting = false
is_first Ended = false

-- no token was asked for yet, and the call is not over
abbrev pub is_live : Stage → Bool
is_live Reading = true
is_live Listing = true
is_live Gathering = true
is_live Mismatch = true
is_live Window = true
is_live Choosing = true
is_live Prompting = true
is_live Asserting = false
is_live Ended = false

-- ---- what a reply of a provider says

-- a reply with a file leaves the provider awaited, and this of its configuration is known then
pub data Hears (g : Option Progress) (q : ProviderOptions) (kind : ReplyKind) (raw : List ℕ) (config : Option Configuration) : Type 0 where
  ByWellKnown : (r : FirstReplies) → g ≡ Some (progress_is.Reading r) → kind ≡ kinds.WellKnown → config ≡ r.config
      → Hears g q kind raw config
  ByConfig : (r : FirstReplies) (c : Configuration) → g ≡ Some (progress_is.Reading r) → kind ≡ kinds.Config
      → config ≡ Some c → ConfigOf raw q.config ≡ Ok c → Hears g q kind raw config

-- the provider was awaited
pub record WasAwaited (g : Option Progress) : Type 0 where
  pub was : Progress
  pub is : g ≡ Some was
  pub awaited : is_awaited was ≡ true

-- its accounts came
pub record Lists (g : Option Progress) (q : ProviderOptions) (kind : ReplyKind) (raw : List ℕ) (config : Configuration)
    (accounts : List Account) : Type 0 where
  pub is : g ≡ Some (progress_is.Listing config)
  pub kind_is : kind ≡ kinds.Accounts
  pub reads : accounts_of raw q ≡ Ok accounts

-- a reply that a provider gives before its account is picked
abbrev pub is_file : ReplyKind → Bool
is_file kinds.WellKnown = true
is_file kinds.Config = true
is_file kinds.Accounts = true
is_file kinds.Metadata = false
is_file kinds.Assertion = false
is_file kinds.Disconnect = false

-- what a reply of this kind is, by what it comes to
abbrev Says : Option Progress → ProviderOptions → ReplyKind → List ℕ → Came → Type 0
Says g q kind raw Unawaited = ⊤
Says g q kind raw (Refused failure) = WasAwaited g × (is_file kind ≡ true)
Says g q kind raw (Waits replies) = Hears g q kind raw replies.config
Says g q kind raw (Both config) = Hears g q kind raw (Some config)
Says g q kind raw (NoneFits failure) = WasAwaited g × (kind ≡ kinds.Accounts)
Says g q kind raw (Fit config accounts) = Lists g q kind raw config accounts

was_reading : (r : FirstReplies) → WasAwaited (Some (progress_is.Reading r))
was_reading r = record { was = progress_is.Reading r; is = refl; awaited = refl }

-- both files are good: where they differ the provider is refused
heard_both : (q : ProviderOptions) (raw : List ℕ) (r : FirstReplies) (kind : ReplyKind) (config : Configuration) (other : Option Endpoint)
    → is_file kind ≡ true → Hears (Some (progress_is.Reading r)) q kind raw (Some config)
    → Says (Some (progress_is.Reading r)) q kind raw (came_heard (by_agreement config other))
heard_both q raw r kind config None file hears = hears
heard_both q raw r kind config (Some endpoint) file hears = (was_reading r, file)

heard_wellknown : (q : ProviderOptions) (raw : List ℕ) (r : FirstReplies) (heard : Option WellKnown) (config : Option Configuration)
    (read : Answer WellKnown ProviderStep) → r.config ≡ config
    → Says (Some (progress_is.Reading r)) q kinds.WellKnown raw (came_heard (wellknown_heard heard config read))
heard_wellknown q raw r (Some file) config read is = tt
heard_wellknown q raw r None None (Err step) is = (was_reading r, refl)
heard_wellknown q raw r None (Some config) (Err step) is = (was_reading r, refl)
heard_wellknown q raw r None None (Ok file) is = ByWellKnown r refl refl (sym is)
heard_wellknown q raw r None (Some config) (Ok file) is =
    heard_both q raw r kinds.WellKnown config (agrees file config) refl (ByWellKnown r refl refl (sym is))

heard_config : (q : ProviderOptions) (raw : List ℕ) (r : FirstReplies) (heard : Option WellKnown) (config : Option Configuration)
    (read : Answer Configuration ProviderStep) → ConfigOf raw q.config ≡ read
    → Says (Some (progress_is.Reading r)) q kinds.Config raw (came_heard (config_heard heard config read))
heard_config q raw r heard (Some config) read is = tt
heard_config q raw r None None (Err step) is = (was_reading r, refl)
heard_config q raw r (Some file) None (Err step) is = (was_reading r, refl)
heard_config q raw r None None (Ok config) is = ByConfig r config refl refl refl is
heard_config q raw r (Some file) None (Ok config) is =
    heard_both q raw r kinds.Config config (agrees file config) refl (ByConfig r config refl refl refl is)

says_read : (q : ProviderOptions) (raw : List ℕ) (config : Configuration) (read : Answer (List Account) AccountsStep)
    → accounts_of raw q ≡ read
    → Says (Some (progress_is.Listing config)) q kinds.Accounts raw (came_read config read)
says_read q raw config (Err step) is = (record { was = progress_is.Listing config; is = refl; awaited = refl }, refl)
says_read q raw config (Ok accounts) is = record { is = refl; kind_is = refl; reads = is }

says_to : (world : World) (g : Progress) (q : ProviderOptions) (kind : ReplyKind) (raw : List ℕ)
    → Says (Some g) q kind raw (came_to world.rules g q kind raw)
says_to world (progress_is.Reading r) q kinds.WellKnown raw =
    heard_wellknown q raw r r.wellknown r.config (wellknown_read world.rules q.config raw) refl
says_to world (progress_is.Reading r) q kinds.Config raw = heard_config q raw r r.wellknown r.config (ConfigOf raw q.config) refl
says_to world (progress_is.Reading r) q kinds.Accounts raw = tt
says_to world (progress_is.Reading r) q kinds.Metadata raw = tt
says_to world (progress_is.Reading r) q kinds.Assertion raw = tt
says_to world (progress_is.Reading r) q kinds.Disconnect raw = tt
says_to world (progress_is.Listing config) q kinds.Accounts raw = says_read q raw config (accounts_of raw q) refl
says_to world (progress_is.Listing config) q kinds.WellKnown raw = tt
says_to world (progress_is.Listing config) q kinds.Config raw = tt
says_to world (progress_is.Listing config) q kinds.Metadata raw = tt
says_to world (progress_is.Listing config) q kinds.Assertion raw = tt
says_to world (progress_is.Listing config) q kinds.Disconnect raw = tt
says_to world (progress_is.Listed config accounts) q kind raw = tt
says_to world (progress_is.Dropped failure) q kind raw = tt

says_came : (world : World) (g : Option Progress) (q : ProviderOptions) (kind : ReplyKind) (raw : List ℕ)
    → Says g q kind raw (came world.rules g (Some q) kind raw)
says_came world None q kind raw = tt
says_came world (Some g) q kind raw = says_to world g q kind raw

-- what is told by such a reply
told_file : (world : World) (f : Facts) (place : ℕ) (kind : ReplyKind) (raw : List ℕ) → is_file kind ≡ true
    → with_reply world place kind raw f ≡ with_came world place (came_at world f place kind raw) f
told_file world f place kinds.WellKnown raw is = refl
told_file world f place kinds.Config raw is = refl
told_file world f place kinds.Accounts raw is = refl
told_file world f place kinds.Metadata raw is = absurd (cc)
told_file world f place kinds.Assertion raw is = absurd (cc)
told_file world f place kinds.Disconnect raw is = absurd (cc)

hears_file : (g : Option Progress) (q : ProviderOptions) (kind : ReplyKind) (raw : List ℕ) (config : Option Configuration)
    → Hears g q kind raw config → is_file kind ≡ true
hears_file g q kind raw config (ByWellKnown r is kind_is same) = ap is_file kind_is
hears_file g q kind raw config (ByConfig r c is kind_is same reads) = ap is_file kind_is

-- ---- the ways

-- the input is a reply with a configuration
abbrev pub brings_config : Input → Bool
brings_config (inputs.Reply place kinds.Config raw) = true
brings_config _ = false

-- the user is logged in by the effect
abbrev pub logs : CallEffect → Bool
logs (does.SetLogin origin LoggedIn) = true
logs _ = false

-- an outcome says nothing of how providers have come
pub record SaysNone (input : Input) (o : Outcome) : Type 0 where
  pub drops : filter_map drop_of o.effects ≡ []
  pub logs_none : list_any logs o.effects ≡ false
  pub brings : (list_any is_ignored o.effects ≡ true) ⊎ (brings_config input ≡ false)

-- an outcome lets nobody drop out and logs nobody in
abbrev pub SettlesNone : Outcome → Type 0
SettlesNone o = (filter_map drop_of o.effects ≡ []) × (list_any logs o.effects ≡ false)

-- how an outcome settles the provider at a place
pub data SettlesSo (f : Facts) (place : ℕ) (q : ProviderOptions) (kind : ReplyKind) (raw : List ℕ) (progress : Progress) (o : Outcome)
    : Type 0 where
  Drops : (failure : Failure) → progress ≡ progress_is.Dropped failure → WasAwaited (progress_at place f)
      → filter_map drop_of o.effects ≡ place ∷ [] → SettlesSo f place q kind raw progress o
  Gets : (config : Configuration) (accounts : List Account) (rest : Outcome) → progress ≡ progress_is.Listed config accounts
      → Lists (progress_at place f) q kind raw config accounts → o ≡ after (does.SetLogin (origin_of q.config) LoggedIn) rest
      → filter_map drop_of o.effects ≡ [] → SettlesSo f place q kind raw progress o

-- a provider is settled by a reply
pub record SettlesOne (world : World) (f : Facts) (input : Input) (o : Outcome) : Type 0 where
  pub place : ℕ
  pub kind : ReplyKind
  pub raw : List ℕ
  pub is_reply : input ≡ inputs.Reply place kind raw
  pub q : ProviderOptions
  pub has : provider_at place f.options ≡ Some q
  pub progress : Progress
  pub settles_it : settling_at world f place kind raw ≡ Some progress
  pub so : SettlesSo f place q kind raw progress o
  pub conclusion : Conclusion
  pub concluded : conclusion_of world f.origin f.options (slice_set f.progress place progress) ≡ conclusion
  pub told_is : told world f input o ≡ with_conclusion conclusion (with_progress place progress f)
  pub stage : o.stage ≡ (concludes world (with_progress place progress f) conclusion).stage
  pub asks_it : filter_map asks_token o.effects
      ≡ filter_map asks_token (concludes world (with_progress place progress f) conclusion).effects
  pub gives : filter_map finish_of o.effects ≡ filter_map finish_of (concludes world (with_progress place progress f) conclusion).effects
  pub taken : list_any is_ignored o.effects ≡ false

-- a provider that is awaited, and what is known of its configuration
pub data IsNow (progress : Progress) (config : Option Configuration) : Type 0 where
  NowReading : (r : FirstReplies) → progress ≡ progress_is.Reading r → r.config ≡ config → IsNow progress config
  NowListing : (c : Configuration) → progress ≡ progress_is.Listing c → config ≡ Some c → IsNow progress config

-- a reply with a file leaves a provider awaited
pub record HearsOne (world : World) (f : Facts) (input : Input) (o : Outcome) : Type 0 where
  pub place : ℕ
  pub kind : ReplyKind
  pub raw : List ℕ
  pub is_reply : input ≡ inputs.Reply place kind raw
  pub q : ProviderOptions
  pub has : provider_at place f.options ≡ Some q
  pub config : Option Configuration
  pub hears : Hears (progress_at place f) q kind raw config
  pub progress : Progress
  pub is_now : IsNow progress config
  pub told_is : told world f input o ≡ with_progress place progress f
  pub taken : list_any is_ignored o.effects ≡ false
  pub drops : filter_map drop_of o.effects ≡ []

-- the call takes the choice of an account that is not connected
pub record TakesChoice (f : Facts) (input : Input) (o : Outcome) : Type 0 where
  pub place : ℕ
  pub id : List ℕ
  pub is_choice : input ≡ inputs.Choose place id
  pub offered : Offered
  pub is : found_offered place id f ≡ Some offered
  pub unconnected : offered.candidate.connected ≡ false
  pub taken : list_any is_ignored o.effects ≡ false

-- the call takes the metadata that its prompt waits for
pub record TakesMetadata (f : Facts) (input : Input) (o : Outcome) : Type 0 where
  pub raw : List ℕ
  pub offered : Offered
  pub picks : f.picked ≡ Some offered
  pub is_reply : input ≡ inputs.Reply offered.place kinds.Metadata raw
  pub taken : list_any is_ignored o.effects ≡ false

-- the input chooses none of the accounts
abbrev pub ChoosesNone : Facts → Input → Type 0
ChoosesNone f input = (place : ℕ) (id : List ℕ) → input ≡ inputs.Choose place id → found_offered place id f ≡ None

-- where the call is over then, it was, or the page got something
abbrev pub EndsSo : Facts → Outcome → Type 0
EndsSo f o = unwrap_or o.stage f.stage ≡ Ended → (f.stage ≡ Ended) ⊎ ((finish : Finish) × (filter_map finish_of o.effects ≡ finish ∷ []))

pub data Way (world : World) (f : Facts) (input : Input) (o : Outcome) : Type 0 where
  Elsewhere : is_live (unwrap_or o.stage f.stage) ≡ false → (filter_map asks_token o.effects ≡ []) ⊎ (reselects input ≡ false)
      → SettlesNone o → EndsSo f o → Way world f input o
  First : is_first f.stage ≡ true → is_first (unwrap_or o.stage f.stage) ≡ true → SaysNone input o
      → with_input world (list_any is_ignored o.effects) input f ≡ f → Way world f input o
  Hearing : is_first f.stage ≡ true → is_first (unwrap_or o.stage f.stage) ≡ true → HearsOne world f input o → Way world f input o
  Settling : is_first f.stage ≡ true → SettlesOne world f input o → Way world f input o
  Picks : f.stage ≡ Choosing → o.stage ≡ Some Prompting → TakesChoice f input o → SettlesNone o → Way world f input o
  Readies : f.stage ≡ Prompting → unwrap_or o.stage f.stage ≡ Prompting → TakesMetadata f input o → SettlesNone o → Way world f input o
  Unmoved : is_first f.stage ≡ false → o.stage ≡ None → (list_any is_ignored o.effects ≡ true) ⊎ (brings_config input ≡ false)
      → SettlesNone o
      → with_input world (list_any is_ignored o.effects) input f ≡ f
      → (f.stage ≡ Choosing → ChoosesNone f input)
      → Way world f input o

-- ---- by the kind of outcome

first_ignored : (world : World) (f : Facts) (input : Input) (why : Why) → is_first f.stage ≡ true → Way world f input (ignored why)
first_ignored world f input why at = First at at (record { drops = refl; logs_none = refl; brings = inl refl }) refl

open_ignored : (world : World) (f : Facts) (input : Input) (why : Why) → is_first f.stage ≡ false
    → (f.stage ≡ Choosing → ChoosesNone f input) → Way world f input (ignored why)
open_ignored world f input why at none = Unmoved at refl (inl refl) (refl, refl) refl none

-- what a conclusion does
pub prompt_drops : (world : World) (f : Facts) (offered : Offered) (connected : Bool) (endpoint : Option Parts)
    → (drop_of (prompt_effect world f offered connected endpoint) ≡ None)
    × (is_ignored (prompt_effect world f offered connected endpoint) ≡ false)
prompt_drops world f offered true endpoint = (refl, refl)
prompt_drops world f offered false None = (refl, refl)
prompt_drops world f offered false (Some to) = (refl, refl)

prompt_logs : (world : World) (f : Facts) (offered : Offered) (connected : Bool) (endpoint : Option Parts)
    → logs (prompt_effect world f offered connected endpoint) ≡ false
prompt_logs world f offered true endpoint = refl
prompt_logs world f offered false None = refl
prompt_logs world f offered false (Some to) = refl

pub conclusion_drops : (world : World) (f : Facts) (c : Conclusion)
    → (filter_map drop_of (concludes world f c).effects ≡ []) × (list_any is_ignored (concludes world f c).effects ≡ false)
conclusion_drops world f Awaits = (refl, refl)
conclusion_drops world f (NoneLeft failure) = (refl, refl)
conclusion_drops world f (Reselects offered) = (refl, refl)
conclusion_drops world f NoneSilent = (refl, refl)
conclusion_drops world f (Offers offered) = (refl, refl)
conclusion_drops world f (Prompts o) =
    let p = prompt_drops world f o o.candidate.connected o.config.metadata in
    (ap (λ x. cons_option x []) p.0, ap (λ b. b || false) p.1)

module _ (world : World) (f : Facts) (place : ℕ) (kind : ReplyKind) (raw : List ℕ) (at : is_first f.stage ≡ true) (q : ProviderOptions)
    (has : provider_at place f.options ≡ Some q) where
  abbrev input : Input
  input = inputs.Reply place kind raw

  -- what the reply says
  says_it : (c : Came) → came_at world f place kind raw ≡ c → Says (progress_at place f) q kind raw c
  says_it c is =
      subst (Says (progress_at place f) q kind raw)
      (ap (λ p. came world.rules (progress_at place f) p kind raw) (sym has) ∙ is)
      (says_came world (progress_at place f) q kind raw)

  told_it : (c : Came) → came_at world f place kind raw ≡ c → is_file kind ≡ true
      → with_input world false input f ≡ with_came world place c f
  told_it c is file = told_file world f place kind raw file ∙ ap (λ x. with_came world place x f) is

  -- a provider is settled, and this comes first
  settling_by : (progress : Progress) (o : Outcome) → settling_at world f place kind raw ≡ Some progress
      → SettlesSo f place q kind raw progress o
      → with_input world false input f
      ≡ with_conclusion (conclusion_of world f.origin f.options (slice_set f.progress place progress)) (with_progress place progress f)
      → o.stage ≡ (settles world (with_progress place progress f)).stage → list_any is_ignored o.effects ≡ false
      → filter_map asks_token o.effects ≡ filter_map asks_token (settles world (with_progress place progress f)).effects
      → filter_map finish_of o.effects ≡ filter_map finish_of (settles world (with_progress place progress f)).effects
      → Way world f input o
  settling_by progress o settles_it so told_is stage taken asks_it gives =
      Settling at (record {
        place = place;
        kind = kind;
        raw = raw;
        is_reply = refl;
        q = q;
        has = has;
        progress = progress;
        settles_it = settles_it;
        so = so;
        conclusion = conclusion_of world f.origin f.options (slice_set f.progress place progress);
        concluded = refl;
        told_is = ap (λ b. with_input world b input f) taken ∙ told_is;
        stage = stage;
        asks_it = asks_it;
        gives = gives;
        taken = taken;
      })

  drops_of : (progress : Progress) → filter_map drop_of (settles world (with_progress place progress f)).effects ≡ []
  drops_of progress =
      (conclusion_drops world (with_progress place progress f)
      (conclusion_of world f.origin f.options (slice_set f.progress place progress))).0

  taken_of : (progress : Progress) → list_any is_ignored (settles world (with_progress place progress f)).effects ≡ false
  taken_of progress =
      (conclusion_drops world (with_progress place progress f)
      (conclusion_of world f.origin f.options (slice_set f.progress place progress))).1

  fits_so : (config : Configuration) (accounts : List Account) → came_at world f place kind raw ≡ Fit config accounts
      → Way world f input (after (does.SetLogin (origin_of q.config) LoggedIn) (settles world (with_progress place
      (progress_is.Listed config accounts) f)))
  fits_so config accounts is =
      let lists = says_it (Fit config accounts) is in
      let progress = progress_is.Listed config accounts in
      settling_by progress _ (ap (λ c. settling c (is_single f.options)) is) (Gets config accounts (settles world
      (with_progress place progress f)) refl lists refl (drops_of progress))
      (told_it (Fit config accounts) is (ap is_file lists.kind_is)) refl (taken_of progress) refl refl

  hears_so : (progress : Progress) (config : Option Configuration) (o : Outcome) → Hears (progress_at place f) q kind raw config
      → IsNow progress config
      → with_input world false input f ≡ with_progress place progress f
      → is_first (unwrap_or o.stage f.stage) ≡ true → list_any is_ignored o.effects ≡ false → filter_map drop_of o.effects ≡ []
      → Way world f input o
  hears_so progress config o hears is_now told_is first taken drops =
      Hearing at first (record {
        place = place;
        kind = kind;
        raw = raw;
        is_reply = refl;
        q = q;
        has = has;
        config = config;
        hears = hears;
        progress = progress;
        is_now = is_now;
        told_is = ap (λ b. with_input world b input f) taken ∙ told_is;
        taken = taken;
        drops = drops;
      })

  waits_so : (replies : FirstReplies) → came_at world f place kind raw ≡ Waits replies → Way world f input stays
  waits_so replies is =
      let hears = says_it (Waits replies) is in
      hears_so (progress_is.Reading replies) replies.config stays hears (NowReading replies refl refl)
      (told_it (Waits replies) is (hears_file _ q kind raw _ hears)) at refl refl

  way_mismatch : (mismatch : Bool) (failure : Failure) → kind ≡ kinds.Accounts → with_input world false input f ≡ f
      → Way world f input (after (does.SetLogin (origin_of q.config) LoggedOut) (by_mismatch place
      (site_of world f.origin) failure mismatch))
  way_mismatch true failure kind_is told_is =
      First at refl (record {
        drops = refl;
        logs_none = refl;
        brings =
            inr (ap (λ k. brings_config (inputs.Reply place k raw)) kind_is);
      }) told_is
  way_mismatch false failure kind_is told_is = Elsewhere refl (inl refl) (refl, refl) (λ h. inr (_, refl))

  way_window : (config : Option Configuration) (active : Bool) (o : Outcome) → kind ≡ kinds.Accounts → with_input world false input f ≡ f
      → Way world f input (after (does.SetLogin (origin_of q.config) LoggedOut) o)
      → Way world f input (after (does.SetLogin (origin_of q.config) LoggedOut) (by_window place config o active))
  way_window None true o kind_is told_is way =
      First at at (record {
        drops = refl;
        logs_none = refl;
        brings =
            inr (ap (λ k. brings_config (inputs.Reply place k raw)) kind_is);
      }) told_is
  way_window (Some config) true o kind_is told_is way =
      First at refl (record {
        drops = refl;
        logs_none = refl;
        brings =
            inr (ap (λ k. brings_config (inputs.Reply place k raw)) kind_is);
      }) told_is
  way_window config false o kind_is told_is way = way

  way_single : is_single f.options ≡ true → (c : Came) → came_at world f place kind raw ≡ c
      → Way world f input (single_came world f place (origin_of q.config) c)
  way_single one Unawaited is = first_ignored world f input NotWaited at
  way_single one (Refused failure) is = Elsewhere refl (inl refl) (refl, refl) (λ h. inr (_, refl))
  way_single one (Waits replies) is = waits_so replies is
  way_single one (Both config) is =
      let hears = says_it (Both config) is in
      hears_so (progress_is.Listing config) (Some config) _ hears (NowListing config refl refl)
      (told_it (Both config) is (hears_file _ q kind raw _ hears)) refl refl refl
  way_single one (NoneFits failure) is =
      let kind_is = (says_it (NoneFits failure) is).1 in
      let told_is = told_it (NoneFits failure) is (ap is_file kind_is) ∙ ap (λ b. with_none_fitting world place failure b f) one in
      way_window (config_at place f) (may_sign_in f.options.mode f.options.mediation) _ kind_is told_is
      (way_mismatch (is_mismatch f.options.mode f.options.mediation (status_of world.login (origin_of q.config))) failure kind_is told_is)
  way_single one (Fit config accounts) is = fits_so config accounts is

  way_gathering : is_single f.options ≡ false → (c : Came) → came_at world f place kind raw ≡ c
      → Way world f input (gathering_came world f place (origin_of q.config) c)
  way_gathering several Unawaited is = first_ignored world f input NotWaited at
  way_gathering several (Refused failure) is =
      let says = says_it (Refused failure) is in
      let progress = progress_is.Dropped failure in
      settling_by progress _ (ap (λ c. settling c (is_single f.options)) is)
      (Drops failure refl says.0 (ap (λ xs. place ∷ xs) (drops_of progress)))
      (told_it (Refused failure) is says.1) refl (taken_of progress) refl refl
  way_gathering several (Waits replies) is = waits_so replies is
  way_gathering several (Both config) is =
      let hears = says_it (Both config) is in
      hears_so (progress_is.Listing config) (Some config) _ hears (NowListing config refl refl)
      (told_it (Both config) is (hears_file _ q kind raw _ hears)) at refl refl
  way_gathering several (NoneFits failure) is =
      let says = says_it (NoneFits failure) is in
      let progress = progress_is.Dropped failure in
      settling_by progress _ (ap (λ c. settling c (is_single f.options)) is ∙ ap (settling (NoneFits failure)) several)
      (Drops failure refl says.0 (ap (λ xs. place ∷ xs) (drops_of progress)))
      (told_it (NoneFits failure) is (ap is_file says.1) ∙ ap (λ b. with_none_fitting world place failure b f) several)
      refl (taken_of progress) refl refl
  way_gathering several (Fit config accounts) is = fits_so config accounts is

  way_came : (single : Bool) → is_single f.options ≡ single
      → Way world f input (came_row world f place single (origin_of q.config) (came_at world f place kind raw))
  way_came true one = way_single one (came_at world f place kind raw) refl
  way_came false several = way_gathering several (came_at world f place kind raw) refl

-- a reply of a provider that may be awaited
way_awaited : (world : World) (f : Facts) (place : ℕ) (kind : ReplyKind) (raw : List ℕ) → is_first f.stage ≡ true
    → (o : Option ProviderOptions) → provider_at place f.options ≡ o
    → Way world f (inputs.Reply place kind raw) (provider_row world f place o (came_at world f place kind raw))
way_awaited world f place kind raw at None has = first_ignored world f _ NotWaited at
way_awaited world f place kind raw at (Some q) has = way_came world f place kind raw at q has (is_single f.options) refl

-- ---- at a prompt

not_choosing : {A : Type 0} (f : Facts) → f.stage ≡ Prompting → f.stage ≡ Choosing → A
not_choosing f at other = let no : Prompting ≡ Choosing = sym at ∙ other in absurd (cc)

way_metadata : (world : World) (f : Facts) (place : ℕ) (raw : List ℕ) (waits : Bool) → f.stage ≡ Prompting
    → (picked : Option Offered) → f.picked ≡ picked
    → Way world f (inputs.Reply place kinds.Metadata raw) (metadata_reply world f waits (picked_at place picked) raw)
way_metadata world f place raw false at picked picks = open_ignored world f _ _ (ap is_first at) (λ other. not_choosing f at other)
way_metadata world f place raw true at None picks = open_ignored world f _ _ (ap is_first at) (λ other. not_choosing f at other)
way_metadata world f place raw true at (Some offered) picks = go (nat_eq place offered.place) refl
  where
    go : (b : Bool) → nat_eq place offered.place ≡ b
        → Way world f (inputs.Reply place kinds.Metadata raw) (metadata_reply world f true (cond b (Some offered) None) raw)
    go false is = open_ignored world f _ _ (ap is_first at) (λ other. not_choosing f at other)
    go true is =
        Readies at at (record {
          raw = raw;
          offered = offered;
          picks = picks;
          is_reply = ap (λ p. inputs.Reply p kinds.Metadata raw) (place_is place offered.place is);
          taken = refl;
        }) (refl, refl)
      where
        place_is : (m n : ℕ) → nat_eq m n ≡ true → m ≡ n
        place_is m n h = grind (arith, nat_tests, h)

way_prompting : (world : World) (f : Facts) (place : ℕ) (kind : ReplyKind) (raw : List ℕ) → f.stage ≡ Prompting
    → Way world f (inputs.Reply place kind raw) (prompting_reply world f place kind raw)
way_prompting world f place kinds.Metadata raw at = way_metadata world f place raw f.waits at f.picked refl
way_prompting world f place kinds.WellKnown raw at = open_ignored world f _ _ (ap is_first at) (λ other. not_choosing f at other)
way_prompting world f place kinds.Config raw at = open_ignored world f _ _ (ap is_first at) (λ other. not_choosing f at other)
way_prompting world f place kinds.Accounts raw at = open_ignored world f _ _ (ap is_first at) (λ other. not_choosing f at other)
way_prompting world f place kinds.Assertion raw at = open_ignored world f _ _ (ap is_first at) (λ other. not_choosing f at other)
way_prompting world f place kinds.Disconnect raw at = open_ignored world f _ _ (ap is_first at) (λ other. not_choosing f at other)

-- ---- in Asserting

token_settles : (page : Origin) (offered : Offered) (auto : Bool) (finish : Finish)
    → SettlesNone (keeps page offered (clears auto page (finishes finish)))
token_settles page offered true finish = (refl, refl)
token_settles page offered false finish = (refl, refl)

way_token : (world : World) (f : Facts) (input : Input) (offered : Offered) (read : Answer (List ℕ) TokenStep)
    → Way world f input (by_token f offered read)
way_token world f input offered (Ok token) =
    let g = gives_token f.origin offered f.auto (Token f.auto offered.place token) in
    Elsewhere (ap (λ st. is_live (unwrap_or st f.stage)) g.stage) (inl g.asks) (token_settles f.origin offered f.auto
    (Token f.auto offered.place token))
    (λ h. inr (Token f.auto offered.place token, g.gives))
way_token world f input offered (Err step) = Elsewhere refl (inl refl) (refl, refl) (λ h. inr (_, refl))

way_assertion : (world : World) (f : Facts) (input : Input) (offered : Option Offered) (raw : List ℕ) → f.stage ≡ Asserting
    → Way world f input (assertion_reply f offered raw)
way_assertion world f input None raw at = Elsewhere (ap is_live at) (inl refl) (refl, refl) (λ h. inl h)
way_assertion world f input (Some offered) raw at = way_token world f input offered (AssertionOf raw (origin_text f.origin))

way_asserting : (world : World) (f : Facts) (input : Input) (place : ℕ) (kind : ReplyKind) (raw : List ℕ) → f.stage ≡ Asserting
    → Way world f input (asserting_reply f place kind raw)
way_asserting world f input place kinds.Assertion raw at = way_assertion world f input (picked_at place f.picked) raw at
way_asserting world f input place kinds.WellKnown raw at = Elsewhere (ap is_live at) (inl refl) (refl, refl) (λ h. inl h)
way_asserting world f input place kinds.Config raw at = Elsewhere (ap is_live at) (inl refl) (refl, refl) (λ h. inl h)
way_asserting world f input place kinds.Accounts raw at = Elsewhere (ap is_live at) (inl refl) (refl, refl) (λ h. inl h)
way_asserting world f input place kinds.Metadata raw at = Elsewhere (ap is_live at) (inl refl) (refl, refl) (λ h. inl h)
way_asserting world f input place kinds.Disconnect raw at = Elsewhere (ap is_live at) (inl refl) (refl, refl) (λ h. inl h)

-- a reply chooses nothing
reply_chooses_none : (f : Facts) (place : ℕ) (kind : ReplyKind) (raw : List ℕ) → ChoosesNone f (inputs.Reply place kind raw)
reply_chooses_none f place kind raw other id is = absurd (cc)

way_reply : (world : World) (f : Facts) (stage : Stage) → f.stage ≡ stage → (place : ℕ) (kind : ReplyKind) (raw : List ℕ)
    → Way world f (inputs.Reply place kind raw) (stage_reply world f stage place kind raw)
way_reply world f Reading at place kind raw = way_awaited world f place kind raw (ap is_first at) (provider_at place f.options) refl
way_reply world f Listing at place kind raw = way_awaited world f place kind raw (ap is_first at) (provider_at place f.options) refl
way_reply world f Gathering at place kind raw = way_awaited world f place kind raw (ap is_first at) (provider_at place f.options) refl
way_reply world f Mismatch at place kind raw = first_ignored world f _ _ (ap is_first at)
way_reply world f Window at place kind raw = first_ignored world f _ _ (ap is_first at)
way_reply world f Choosing at place kind raw = open_ignored world f _ _ (ap is_first at) (λ other. reply_chooses_none f place kind raw)
way_reply world f Prompting at place kind raw = way_prompting world f place kind raw at
way_reply world f Asserting at place kind raw = way_asserting world f _ place kind raw at
way_reply world f Ended at place kind raw = Elsewhere (ap is_live at) (inl refl) (refl, refl) (λ h. inl h)

-- ---- the user's words

way_choice : (world : World) (f : Facts) (place : ℕ) (id : List ℕ) → f.stage ≡ Choosing → (offered : Option Offered)
    → found_offered place id f ≡ offered → Way world f (inputs.Choose place id) (choice world f offered)
way_choice world f place id at None is =
    open_ignored world f _ _ (ap is_first at)
    (λ other p i same. let k : place ≡ p = cc in let l : id ≡ i = cc in
    ap (λ n. found_offered n i f) (sym k) ∙ ap (λ j. found_offered place j f) (sym l) ∙ is)
way_choice world f place id at (Some offered) is = go offered.candidate.connected refl
  where
    go : (connected : Bool) → offered.candidate.connected ≡ connected
        → Way world f (inputs.Choose place id) (by_connection world f offered connected)
    go true connected = Elsewhere refl (inr refl) (refl, refl) (λ h. let no : Asserting ≡ Ended = h in absurd (cc))
    go false unconnected =
        Picks at refl (record {
          place = place;
          id = id;
          is_choice = refl;
          offered = offered;
          is = is;
          unconnected = unconnected;
          taken = ap (λ b. b || false) (prompt_drops world f offered offered.candidate.connected offered.config.metadata).1;
        }) (
          ap (λ x. cons_option x []) (prompt_drops world f offered offered.candidate.connected offered.config.metadata).0,
          ap (λ b. b || false) (prompt_logs world f offered offered.candidate.connected offered.config.metadata),
        )

way_chose : (world : World) (f : Facts) (stage : Stage) → f.stage ≡ stage → (place : ℕ) (id : List ℕ)
    → Way world f (inputs.Choose place id) (chose world f stage place id)
way_chose world f Choosing at place id = way_choice world f place id at (found_offered place id f) refl
way_chose world f Prompting at place id = open_ignored world f _ _ (ap is_first at) (λ other. not_choosing f at other)
way_chose world f Reading at place id = first_ignored world f _ _ (ap is_first at)
way_chose world f Listing at place id = first_ignored world f _ _ (ap is_first at)
way_chose world f Gathering at place id = first_ignored world f _ _ (ap is_first at)
way_chose world f Mismatch at place id = first_ignored world f _ _ (ap is_first at)
way_chose world f Window at place id = first_ignored world f _ _ (ap is_first at)
way_chose world f Asserting at place id = Elsewhere (ap is_live at) (inl refl) (refl, refl) (λ h. inl h)
way_chose world f Ended at place id = Elsewhere (ap is_live at) (inl refl) (refl, refl) (λ h. inl h)

-- a word that is ignored and is no choice
way_word : (world : World) (f : Facts) (stage : Stage) (input : Input) (why : Why) → f.stage ≡ stage
    → ((place : ℕ) (id : List ℕ) → input ≡ inputs.Choose place id → ⊥)
    → Way world f input (ignored why)
way_word world f Reading input why at none = first_ignored world f _ _ (ap is_first at)
way_word world f Listing input why at none = first_ignored world f _ _ (ap is_first at)
way_word world f Gathering input why at none = first_ignored world f _ _ (ap is_first at)
way_word world f Mismatch input why at none = first_ignored world f _ _ (ap is_first at)
way_word world f Window input why at none = first_ignored world f _ _ (ap is_first at)
way_word world f Choosing input why at none =
    open_ignored world f _ _ (ap is_first at) (λ other place id is. absurd (none place id is))
way_word world f Prompting input why at none =
    open_ignored world f _ _ (ap is_first at) (λ other place id is. absurd (none place id is))
way_word world f Asserting input why at none = Elsewhere (ap is_live at) (inl refl) (refl, refl) (λ h. inl h)
way_word world f Ended input why at none = Elsewhere (ap is_live at) (inl refl) (refl, refl) (λ h. inl h)

way_goes_on : (world : World) (f : Facts) (waits : Bool) (picked : Option Offered) → f.stage ≡ Prompting
    → Way world f inputs.GoOn (goes_on f waits picked)
way_goes_on world f true picked at = Unmoved (ap is_first at) refl (inr refl) (refl, refl) refl (λ other. not_choosing f at other)
way_goes_on world f false None at = Unmoved (ap is_first at) refl (inr refl) (refl, refl) refl (λ other. not_choosing f at other)
way_goes_on world f false (Some offered) at = Elsewhere refl (inr refl) (refl, refl) (λ h. let no : Asserting ≡ Ended = h in absurd (cc))

way_went_on : (world : World) (f : Facts) (stage : Stage) → f.stage ≡ stage → Way world f inputs.GoOn (went_on f stage)
way_went_on world f Prompting at = way_goes_on world f f.waits f.picked at
way_went_on world f Choosing at = way_word world f Choosing _ _ at (λ place id is. cc)
way_went_on world f Reading at = way_word world f Reading _ _ at (λ place id is. cc)
way_went_on world f Listing at = way_word world f Listing _ _ at (λ place id is. cc)
way_went_on world f Gathering at = way_word world f Gathering _ _ at (λ place id is. cc)
way_went_on world f Mismatch at = way_word world f Mismatch _ _ at (λ place id is. cc)
way_went_on world f Window at = way_word world f Window _ _ at (λ place id is. cc)
way_went_on world f Asserting at = way_word world f Asserting _ _ at (λ place id is. cc)
way_went_on world f Ended at = way_word world f Ended _ _ at (λ place id is. cc)

way_cancelled : (world : World) (f : Facts) (stage : Stage) → f.stage ≡ stage → Way world f inputs.Cancel (cancelled stage)
way_cancelled world f Mismatch at = Elsewhere refl (inl refl) (refl, refl) (λ h. inr (_, refl))
way_cancelled world f Choosing at = Elsewhere refl (inl refl) (refl, refl) (λ h. inr (_, refl))
way_cancelled world f Prompting at = Elsewhere refl (inl refl) (refl, refl) (λ h. inr (_, refl))
way_cancelled world f Reading at = way_word world f Reading _ _ at (λ place id is. cc)
way_cancelled world f Listing at = way_word world f Listing _ _ at (λ place id is. cc)
way_cancelled world f Gathering at = way_word world f Gathering _ _ at (λ place id is. cc)
way_cancelled world f Window at = way_word world f Window _ _ at (λ place id is. cc)
way_cancelled world f Asserting at = way_word world f Asserting _ _ at (λ place id is. cc)
way_cancelled world f Ended at = way_word world f Ended _ _ at (λ place id is. cc)

-- ---- signing in at the provider

way_opens : (world : World) (f : Facts) (place : ℕ) (config : Option Configuration) → is_first f.stage ≡ true
    → Way world f inputs.SignIn (opens_window place config)
way_opens world f place None at = First at at (record { drops = refl; logs_none = refl; brings = inr refl }) refl
way_opens world f place (Some config) at = First at refl (record { drops = refl; logs_none = refl; brings = inr refl }) refl

way_sign_in : (world : World) (f : Facts) (stage : Stage) → f.stage ≡ stage → Way world f inputs.SignIn (asked_to_sign_in f stage)
way_sign_in world f Mismatch at = way_opens world f only_place (config_at only_place f) (ap is_first at)
way_sign_in world f Reading at = way_word world f Reading _ _ at (λ place id is. cc)
way_sign_in world f Listing at = way_word world f Listing _ _ at (λ place id is. cc)
way_sign_in world f Gathering at = way_word world f Gathering _ _ at (λ place id is. cc)
way_sign_in world f Window at = way_word world f Window _ _ at (λ place id is. cc)
way_sign_in world f Choosing at = way_word world f Choosing _ _ at (λ place id is. cc)
way_sign_in world f Prompting at = way_word world f Prompting _ _ at (λ place id is. cc)
way_sign_in world f Asserting at = way_word world f Asserting _ _ at (λ place id is. cc)
way_sign_in world f Ended at = way_word world f Ended _ _ at (λ place id is. cc)

way_again : (world : World) (f : Facts) (place : ℕ) (config : Option Configuration) → is_first f.stage ≡ true
    → Way world f inputs.Resume (asks_again place config)
way_again world f place None at = First at at (record { drops = refl; logs_none = refl; brings = inr refl }) refl
way_again world f place (Some config) at = First at refl (record { drops = refl; logs_none = refl; brings = inr refl }) refl

way_resumed : (world : World) (f : Facts) (stage : Stage) → f.stage ≡ stage → Way world f inputs.Resume (resumed f stage)
way_resumed world f Window at = way_again world f only_place (config_at only_place f) (ap is_first at)
way_resumed world f Reading at = way_word world f Reading _ _ at (λ place id is. cc)
way_resumed world f Listing at = way_word world f Listing _ _ at (λ place id is. cc)
way_resumed world f Gathering at = way_word world f Gathering _ _ at (λ place id is. cc)
way_resumed world f Mismatch at = way_word world f Mismatch _ _ at (λ place id is. cc)
way_resumed world f Choosing at = way_word world f Choosing _ _ at (λ place id is. cc)
way_resumed world f Prompting at = way_word world f Prompting _ _ at (λ place id is. cc)
way_resumed world f Asserting at = way_word world f Asserting _ _ at (λ place id is. cc)
way_resumed world f Ended at = way_word world f Ended _ _ at (λ place id is. cc)

way_shut : (world : World) (f : Facts) (stage : Stage) → f.stage ≡ stage → Way world f inputs.Shut (window_shut stage)
way_shut world f Window at = Elsewhere refl (inl refl) (refl, refl) (λ h. inr (_, refl))
way_shut world f Reading at = way_word world f Reading _ _ at (λ place id is. cc)
way_shut world f Listing at = way_word world f Listing _ _ at (λ place id is. cc)
way_shut world f Gathering at = way_word world f Gathering _ _ at (λ place id is. cc)
way_shut world f Mismatch at = way_word world f Mismatch _ _ at (λ place id is. cc)
way_shut world f Choosing at = way_word world f Choosing _ _ at (λ place id is. cc)
way_shut world f Prompting at = way_word world f Prompting _ _ at (λ place id is. cc)
way_shut world f Asserting at = way_word world f Asserting _ _ at (λ place id is. cc)
way_shut world f Ended at = way_word world f Ended _ _ at (λ place id is. cc)

pub way_at : (world : World) (f : Facts) (input : Input) → Way world f input (input_row world f input)
way_at world f (inputs.Reply place kind raw) = way_reply world f f.stage refl place kind raw
way_at world f (inputs.Choose place id) = way_chose world f f.stage refl place id
way_at world f inputs.GoOn = way_went_on world f f.stage refl
way_at world f inputs.Cancel = way_cancelled world f f.stage refl
way_at world f inputs.Abort = Elsewhere refl (inl refl) (refl, refl) (λ h. inr (_, refl))
way_at world f inputs.SignIn = way_sign_in world f f.stage refl
way_at world f inputs.Shut = way_shut world f f.stage refl
way_at world f inputs.Resume = way_resumed world f f.stage refl
