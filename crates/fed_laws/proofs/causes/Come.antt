-- How the providers of a call have come, by the rows.
use Rattle.std.proofs.Common.{◌≡◌, ℕ, zero, suc, Bool, true, false, nat_eq, cond, ◌+◌, ◌||◌, ◌&&◌, ◌⊎◌, inl, inr, List, [], ◌∷◌, ◌++◌}
use Rattle.std.proofs.Common.{length, map, slice_get, Option, Some, None}
use Rattle.std.proofs.Common.{Ok, refl, sym, ap, subst, ◌∙◌, arith}
use Rattle.std.proofs.lemmas.Bool.Decides.{nat_tests}
use Rattle.std.proofs.lemmas.List.Folds.{list_any-append}
use Rattle.std.specs.Prelude.{slice_set, option_and_then}
use Rattle.std.specs.Option.{option_or}
use Rattle.std.specs.Result.{result_ok}
use Rattle.std.specs.List.{filter_map, flat_map, list_any}
use Rattle.fed_origin.specs.declared.options.GetOptions.{GetOptions}
use Rattle.fed_origin.specs.declared.options.ProviderOptions.{ProviderOptions}
use Rattle.fed_origin.specs.declared.origin.Origin.{Origin}
use Rattle.fed_origin.specs.declared.stage.Stage.{Stage}
use Rattle.fed_origin.specs.declared.stage.ReplyKind.{ReplyKind}
use Rattle.fed_origin.specs.declared.stage.ReplyKind.TheVariants as kinds
use Rattle.fed_origin.specs.declared.status.LoginStatus.TheVariants.{LoggedIn, LoggedOut, Unknown}
use Rattle.fed_origin.specs.declared.status.Triple.{Triple}
use Rattle.fed_origin.specs.WebUrl.{origin_of}
use Rattle.fed_provider.specs.FirstReplies.{config_read}
use Rattle.fed_accounts.specs.declared.account.Account.{Account}
use Rattle.fed_status.specs.Kept.{triples_of_pair}
use Rattle.fed_status.specs.Shared.{World}
use Rattle.fed_status.proofs.lists.Same.{same_origin_self}
use Rattle.fed_consent.specs.declared.table.ask.Ask.{Ask}
use Rattle.fed_consent.specs.declared.table.effect.Effect.{Effect as CallEffect}
use Rattle.fed_consent.specs.declared.table.effect.Effect.TheVariants as does
use Rattle.fed_consent.specs.declared.table.input.Input.{Input}
use Rattle.fed_consent.specs.declared.table.input.Input.TheVariants as inputs
use Rattle.fed_consent.specs.Outcomes as outcomes
use Rattle.fed_consent.specs.Outcomes.{Outcome}
use Rattle.fed_call.specs.declared.progress.Progress.{Progress}
use Rattle.fed_call.specs.declared.progress.Progress.TheVariants as progress_is
use Rattle.fed_call.specs.Accounts.{accounts_of, provider_at}
use Rattle.fed_call.specs.Facts.{Facts, progress_at}
use Rattle.fed_call.specs.Progress.{is_awaited}
use Rattle.fed_script.specs.declared.event.Event.{Event}
use Rattle.fed_script.specs.declared.event.Event.TheVariants as events
use Rattle.fed_trace.specs.Begun.{CallKind, GetCall}
use Rattle.fed_trace.specs.Effect.{Effect, Kept, is_ignored}
use Rattle.fed_trace.specs.Known.{world_at, input_to}
use Rattle.fed_trace.specs.OfCall.{dropped}
use Rattle.fed_trace.specs.Row.{effects_of, row_of, call_effects, cookies_with, moves, outcome_effects}
use Rattle.fed_trace.specs.Trace.{Row, Trace}
use Rattle.fed_trace.proofs.effects.Outcome.{ignored_outcome}
use Rattle.fed_trace.proofs.happens.Ends.{event_for}
use Rattle.fed_trace.proofs.happens.Says.{own, drop_of, outcome_drops}
use Rattle.fed_trace.proofs.happens.Taken.{Meets, does_at, outcome_of}
use Rattle.fed_laws.specs.Cause.{Settlement, DropsOut, Gives, accounts_reply, all_settled, and_settled, config_at, config_given}
use Rattle.fed_laws.specs.Cause.{config_in, config_taken, drops, logs_in, settled_by, settled_in, settled_so}
use Rattle.fed_laws.proofs.turns.Settle.{AllSettledSo, SettledSo}
use Rattle.fed_laws.proofs.turns.Way.{Hears, ByWellKnown, ByConfig, HearsOne, IsNow, NowReading, NowListing, SaysNone, SettlesOne}
use Rattle.fed_laws.proofs.turns.Way.{SettlesSo, Drops, Gets}
use Rattle.fed_laws.proofs.turns.Way.{brings_config, logs}

-- the rows hold these accounts of the provider
pub record Gave (rows : List Row) (call place : ℕ) (q : ProviderOptions) (accounts : List Account) : Type 0 where
  pub raw : List ℕ
  pub by : settled_by call place q rows ≡ Some (Gives raw)
  pub reads : accounts_of raw q ≡ Ok accounts

-- the provider at this place has come so far, by the rows
abbrev pub HasCome : List Row → ℕ → GetOptions → ℕ → ProviderOptions → Progress → Type 0
HasCome rows call options place q (progress_is.Reading r) =
    (settled_by call place q rows ≡ None) × (r.config ≡ config_at rows call place options)
HasCome rows call options place q (progress_is.Listing c) =
    (settled_by call place q rows ≡ None) × (Some c ≡ config_at rows call place options)
HasCome rows call options place q (progress_is.Listed c accounts) =
    Gave rows call place q accounts × (Some c ≡ config_at rows call place options)
HasCome rows call options place q (progress_is.Dropped failure) = settled_by call place q rows ≡ Some DropsOut

-- so have all of them
pub record AllCome (rows : List Row) (call : ℕ) (options : GetOptions) (progress : List Progress) : Type 0 where
  pub long : length progress ≡ length options.providers
  pub come : (n : ℕ) (q : ProviderOptions) (g : Progress) → provider_at n options ≡ Some q → slice_get progress n ≡ Some g
      → HasCome rows call options n q g

-- ---- a row that says nothing of a provider

pub record Unsaid (call n : ℕ) (q : ProviderOptions) (row : Row) : Type 0 where
  pub settles : settled_in call n q row ≡ None
  pub configures : config_given n (list_any is_ignored row.effects) (input_to call row.event) ≡ None

pub config_on : (call n : ℕ) (options : GetOptions) (row : Row) (rows : List Row)
    → config_given n (list_any is_ignored row.effects) (input_to call row.event) ≡ None
    → config_at (row ∷ rows) call n options ≡ config_at rows call n options
config_on call n options row rows none = ap (λ o. option_and_then (config_in options n) (option_or o (config_taken call n rows))) none

pub come_on : (rows : List Row) (call : ℕ) (options : GetOptions) (n : ℕ) (q : ProviderOptions) (row : Row) → Unsaid call n q row
    → (g : Progress) → HasCome rows call options n q g → HasCome (row ∷ rows) call options n q g
come_on rows call options n q row u (progress_is.Reading r) h =
    (ap (λ o. option_or o (settled_by call n q rows)) u.settles ∙ h.0, h.1 ∙ sym (config_on call n options row rows u.configures))
come_on rows call options n q row u (progress_is.Listing c) h =
    (ap (λ o. option_or o (settled_by call n q rows)) u.settles ∙ h.0, h.1 ∙ sym (config_on call n options row rows u.configures))
come_on rows call options n q row u (progress_is.Listed c accounts) h = (
  record { raw = h.0.raw; by = ap (λ o. option_or o (settled_by call n q rows)) u.settles ∙ h.0.by; reads = h.0.reads },
  h.1 ∙ sym (config_on call n options row rows u.configures),
)
come_on rows call options n q row u (progress_is.Dropped failure) h = ap (λ o. option_or o (settled_by call n q rows)) u.settles ∙ h

pub all_on : (rows : List Row) (call : ℕ) (options : GetOptions) (progress : List Progress) (row : Row)
    → ((n : ℕ) (q : ProviderOptions) → Unsaid call n q row) → AllCome rows call options progress
    → AllCome (row ∷ rows) call options progress
all_on rows call options progress row u h =
    record { long = h.long; come = λ n q g has is. come_on rows call options n q row (u n q) g (h.come n q g has is) }

-- ---- one provider comes further

length_set : (gs : List Progress) (p : ℕ) (x : Progress) → length (slice_set gs p x) ≡ length gs
length_set [] p x = refl
length_set (g ∷ gs) zero x = refl
length_set (g ∷ gs) (suc p) x = ap suc (length_set gs p x)

pub get_other : (gs : List Progress) (p n : ℕ) (x : Progress) → nat_eq n p ≡ false → slice_get (slice_set gs p x) n ≡ slice_get gs n
get_other [] p n x ne = refl
get_other (g ∷ gs) zero zero x ne = absurd (cc)
get_other (g ∷ gs) zero (suc n) x ne = refl
get_other (g ∷ gs) (suc p) zero x ne = refl
get_other (g ∷ gs) (suc p) (suc n) x ne = get_other gs p n x (let e : nat_eq n p ≡ false = grind (arith, nat_tests, ne) in e)

pub get_own : (gs : List Progress) (p : ℕ) (x y : Progress) → slice_get (slice_set gs p x) p ≡ Some y → x ≡ y
get_own [] p x y is = absurd (cc)
get_own (g ∷ gs) zero x y is = cc
get_own (g ∷ gs) (suc p) x y is = get_own gs p x y is

pub all_set : (rows : List Row) (call : ℕ) (options : GetOptions) (progress : List Progress) (row : Row) (place : ℕ)
    → ((n : ℕ) (q : ProviderOptions) → nat_eq n place ≡ false → Unsaid call n q row)
    → (g : Progress) → ((q : ProviderOptions) → provider_at place options ≡ Some q → HasCome (row ∷ rows) call options place q g)
    → AllCome rows call options progress → AllCome (row ∷ rows) call options (slice_set progress place g)
all_set rows call options progress row place u g comes h =
    record { long = length_set progress place g ∙ h.long; come = λ n q x has is. at n q x has is (nat_eq n place) refl }
  where
    at : (n : ℕ) (q : ProviderOptions) (x : Progress) → provider_at n options ≡ Some q
        → slice_get (slice_set progress place g) n ≡ Some x → (b : Bool) → nat_eq n place ≡ b → HasCome (row ∷ rows) call options n q x
    at n q x has is false ne =
        come_on rows call options n q row (u n q ne) x (h.come n q x has (sym (get_other progress place n g ne) ∙ is))
    at n q x has is true same =
        let n_is : n ≡ place = grind (arith, nat_tests, same) in
        let has_it = subst (λ m. provider_at m options ≡ Some q) n_is has in
        let own_is = subst (λ m. slice_get (slice_set progress place g) m ≡ Some x) n_is is in
        let g_is = get_own progress place g x own_is in
        subst (λ m. HasCome (row ∷ rows) call options m q x) (sym n_is)
        (subst (HasCome (row ∷ rows) call options place q) g_is (comes q has_it))

-- ---- what a row says

-- an outcome that logs nobody in
kept_logs : (p : Origin) (triples : List Triple) (rest : List Effect) → list_any (logs_in p) rest ≡ false
    → list_any (logs_in p) (map (λ triple. Kept triple false) triples ++ rest) ≡ false
kept_logs p [] rest h = h
kept_logs p (t ∷ triples) rest h = kept_logs p triples rest h

does_log : (p : Origin) (world : World) (cookies : Ask → List ℕ) (kind : CallKind) (call page : ℕ) (effects : List CallEffect)
    → list_any logs effects ≡ false → list_any (logs_in p) (flat_map (call_effects world cookies kind call page) effects) ≡ false
does_log p world cookies kind call page [] h = refl
does_log p world cookies kind call page (does.SetLogin origin LoggedIn ∷ effects) h = absurd (cc)
does_log p world cookies kind call page (does.SetLogin origin LoggedOut ∷ effects) h = does_log p world cookies kind call page effects h
does_log p world cookies kind call page (does.SetLogin origin Unknown ∷ effects) h = does_log p world cookies kind call page effects h
does_log p world cookies kind call page (does.Send provider ask ∷ effects) h = does_log p world cookies kind call page effects h
does_log p world cookies kind call page (does.Finish finish ∷ effects) h = does_log p world cookies kind call page effects h
does_log p world cookies kind call page (does.Ignored why ∷ effects) h = does_log p world cookies kind call page effects h
does_log p world cookies kind call page (does.Dialog dialog ∷ effects) h = does_log p world cookies kind call page effects h
does_log p world cookies kind call page (does.Dropped place failure ∷ effects) h = does_log p world cookies kind call page effects h
does_log p world cookies kind call page (does.Window place url ∷ effects) h = does_log p world cookies kind call page effects h
does_log p world cookies kind call page (does.Keep triple ∷ effects) h = does_log p world cookies kind call page effects h
does_log p world cookies kind call page (does.Forget triple ∷ effects) h = does_log p world cookies kind call page effects h
does_log p world cookies kind call page (does.ForgetPair a b ∷ effects) h =
    kept_logs p (triples_of_pair world.kept a b) (flat_map (call_effects world cookies kind call page) effects)
    (does_log p world cookies kind call page effects h)
does_log p world cookies kind call page (does.ClearFlag origin ∷ effects) h = does_log p world cookies kind call page effects h

pub outcome_logs : (p : Origin) (world : World) (cookies : Ask → List ℕ) (kind : CallKind) (call page : ℕ) (o : Outcome)
    → list_any logs o.effects ≡ false → list_any (logs_in p) (outcome_effects world cookies kind call page o) ≡ false
outcome_logs p world cookies kind call page o h =
    list_any-append (logs_in p) (flat_map (call_effects world cookies kind call page) o.effects) (moves kind call o.stage)
    ∙ ap (λ b. b || list_any (logs_in p) (moves kind call o.stage)) (does_log p world cookies kind call page o.effects h)
    ∙ go o.stage
  where
    go : (stage : Option Stage) → list_any (logs_in p) (moves kind call stage) ≡ false
    go None = refl
    go (Some stage) = refl

-- nobody drops out
pub drops_none : (call n : ℕ) (effects : List Effect) → filter_map (dropped call) effects ≡ [] → drops call n effects ≡ false
drops_none call n effects h = ap (list_any (nat_eq n)) h

pub so_none : (logged : Bool) → settled_so false logged None ≡ None
so_none true = refl
so_none false = refl

-- neither drops out nor gives accounts
pub unsettled_in : (call n : ℕ) (q : ProviderOptions) (row : Row) → drops call n row.effects ≡ false
    → accounts_reply call n row.event ≡ None
    → settled_in call n q row ≡ None
unsettled_in call n q row none unsaid =
    ap (λ b. settled_so b (list_any (logs_in (origin_of q.config)) row.effects) (accounts_reply call n row.event)) none
    ∙ ap (settled_so false (list_any (logs_in (origin_of q.config)) row.effects)) unsaid
    ∙ so_none (list_any (logs_in (origin_of q.config)) row.effects)

pub untold : (n : ℕ) (ignored : Bool) → config_given n ignored None ≡ None
untold n true = refl
untold n false = refl

-- an event that brings the call no input is no reply with accounts
pub unsaid_accounts : (event : Event) (call n : ℕ) → input_to call event ≡ None → accounts_reply call n event ≡ None
unsaid_accounts (events.Reply c place kinds.Accounts raw) call n none = go (nat_eq call c) refl
  where
    go : (b : Bool) → nat_eq call c ≡ b → accounts_reply call n (events.Reply c place kinds.Accounts raw) ≡ None
    go false is = ap (λ t. cond (t && nat_eq n place) (Some raw) None) is
    go true is =
        let no : Some (inputs.Reply place kinds.Accounts raw) ≡ None =
        sym (ap (λ t. cond t (Some (inputs.Reply place kinds.Accounts raw)) None) is) ∙ none in
        absurd (cc)
unsaid_accounts (events.Reply c place kinds.WellKnown raw) call n none = refl
unsaid_accounts (events.Reply c place kinds.Config raw) call n none = refl
unsaid_accounts (events.Reply c place kinds.Metadata raw) call n none = refl
unsaid_accounts (events.Reply c place kinds.Assertion raw) call n none = refl
unsaid_accounts (events.Reply c place kinds.Disconnect raw) call n none = refl
unsaid_accounts (events.Choose c place id) call n none = refl
unsaid_accounts (events.Have have) call n none = refl
unsaid_accounts (events.At time) call n none = refl
unsaid_accounts (events.Load page url raw) call n none = refl
unsaid_accounts (events.ClosePage page) call n none = refl
unsaid_accounts (events.Get page c options) call n none = refl
unsaid_accounts (events.Abort c) call n none = refl
unsaid_accounts (events.GoOn c) call n none = refl
unsaid_accounts (events.Cancel c) call n none = refl
unsaid_accounts (events.SignIn c) call n none = refl
unsaid_accounts (events.ShutWindow c) call n none = refl
unsaid_accounts (events.IdpClose page) call n none = refl
unsaid_accounts (events.Prevent page) call n none = refl
unsaid_accounts (events.SetStatus page status) call n none = refl
unsaid_accounts (events.Disconnect page c config client hint) call n none = refl

-- a row that brings the call no input and lets no provider drop out
pub unsaid_left : (T : Trace) (line : ℕ) (event : Event) (call n : ℕ) (q : ProviderOptions) → input_to call event ≡ None
    → filter_map (dropped call) (effects_of T event) ≡ [] → Unsaid call n q (row_of T line event)
unsaid_left T line event call n q none silent =
    record {
      settles =
          unsettled_in call n q (row_of T line event) (drops_none call n (effects_of T event) silent) (unsaid_accounts event call n none);
      configures =
          ap (config_given n (list_any is_ignored (effects_of T event))) none ∙ untold n (list_any is_ignored (effects_of T event));
    }

-- ---- an input

no_config : (n : ℕ) (ignored : Bool) (input : Input) → (ignored ≡ true) ⊎ (brings_config input ≡ false)
    → config_given n ignored (Some input) ≡ None
no_config n true input h = refl
no_config n false (inputs.Reply place kinds.Config raw) (inl other) = absurd (cc)
no_config n false (inputs.Reply place kinds.Config raw) (inr other) = absurd (cc)
no_config n false (inputs.Reply place kinds.WellKnown raw) h = refl
no_config n false (inputs.Reply place kinds.Accounts raw) h = refl
no_config n false (inputs.Reply place kinds.Metadata raw) h = refl
no_config n false (inputs.Reply place kinds.Assertion raw) h = refl
no_config n false (inputs.Reply place kinds.Disconnect raw) h = refl
no_config n false (inputs.Choose place id) h = refl
no_config n false inputs.GoOn h = refl
no_config n false inputs.Cancel h = refl
no_config n false inputs.Abort h = refl
no_config n false inputs.SignIn h = refl
no_config n false inputs.Shut h = refl
no_config n false inputs.Resume h = refl

module _ (T : Trace) (line : ℕ) (event : Event) (call : ℕ) (f : Facts) (m : Meets T event call f) where
  abbrev input : Input
  input = m.takes.input

  abbrev o : Outcome
  o = outcome_of T f input

  abbrev row : Row
  row = row_of T line event

  ignored_is : list_any is_ignored (effects_of T event) ≡ list_any outcomes.is_ignored o.effects
  ignored_is = ap (list_any is_ignored) (does_at T event call f m) ∙ ignored_outcome (world_at T) (cookies_with T) GetCall call f.page o

  pub drops_are : filter_map (dropped call) (effects_of T event) ≡ filter_map drop_of o.effects
  drops_are = ap (filter_map (dropped call)) (does_at T event call f m) ∙ outcome_drops (world_at T) (cookies_with T) GetCall call f.page o

  pub config_none : (n : ℕ) → (list_any outcomes.is_ignored o.effects ≡ true) ⊎ (brings_config input ≡ false)
      → config_given n (list_any is_ignored (effects_of T event)) (input_to call event) ≡ None
  config_none n brings =
      ap (λ b. config_given n b (input_to call event)) ignored_is
      ∙ ap (config_given n (list_any outcomes.is_ignored o.effects)) m.takes.input_is
      ∙ no_config n (list_any outcomes.is_ignored o.effects) input brings

  so_false : (raw : Option (List ℕ)) → settled_so false false raw ≡ None
  so_false raw = refl

  -- an outcome that says nothing of how providers have come
  pub unsaid_first : SaysNone input o → (n : ℕ) (q : ProviderOptions) → Unsaid call n q row
  unsaid_first says n q =
      record {
        settles =
            ap (λ b. settled_so b (list_any (logs_in (origin_of q.config)) (effects_of T event)) (accounts_reply call n event))
            (drops_none call n (effects_of T event) (drops_are ∙ says.drops))
            ∙ ap (λ b. settled_so false b (accounts_reply call n event))
            (ap (list_any (logs_in (origin_of q.config))) (does_at T event call f m)
            ∙ outcome_logs (origin_of q.config) (world_at T) (cookies_with T) GetCall call f.page o says.logs_none);
        configures = config_none n says.brings;
      }

  -- the event of a reply
  pub event_is : (place : ℕ) (kind : ReplyKind) (raw : List ℕ) → input ≡ inputs.Reply place kind raw
      → event ≡ events.Reply call place kind raw
  event_is place kind raw is =
      let came : Some event ≡ Some (events.Reply call place kind raw) = m.takes.is_event ∙ ap (event_for call) is in cc

  accounts_other : (n place : ℕ) (kind : ReplyKind) (raw : List ℕ) → nat_eq n place ≡ false
      → accounts_reply call n (events.Reply call place kind raw) ≡ None
  accounts_other n place kinds.Accounts raw ne =
      ap (λ b. cond (b && nat_eq n place) (Some raw) None) (own call) ∙ ap (λ b. cond b (Some raw) None) ne
  accounts_other n place kinds.WellKnown raw ne = refl
  accounts_other n place kinds.Config raw ne = refl
  accounts_other n place kinds.Metadata raw ne = refl
  accounts_other n place kinds.Assertion raw ne = refl
  accounts_other n place kinds.Disconnect raw ne = refl

  config_other : (n place : ℕ) (ignored : Bool) (kind : ReplyKind) (raw : List ℕ) → nat_eq n place ≡ false
      → config_given n ignored (Some (inputs.Reply place kind raw)) ≡ None
  config_other n place true kind raw ne = refl
  config_other n place false kinds.Config raw ne = ap (λ b. cond b (Some raw) None) ne
  config_other n place false kinds.WellKnown raw ne = refl
  config_other n place false kinds.Accounts raw ne = refl
  config_other n place false kinds.Metadata raw ne = refl
  config_other n place false kinds.Assertion raw ne = refl
  config_other n place false kinds.Disconnect raw ne = refl

  -- a reply of one provider says nothing of another
  pub unsaid_other : (place : ℕ) (kind : ReplyKind) (raw : List ℕ) → input ≡ inputs.Reply place kind raw
      → (filter_map drop_of o.effects ≡ []) ⊎ (filter_map drop_of o.effects ≡ place ∷ [])
      → (n : ℕ) (q : ProviderOptions) → nat_eq n place ≡ false → Unsaid call n q row
  unsaid_other place kind raw is dropping n q ne =
      record {
        settles =
            unsettled_in call n q row (ap (list_any (nat_eq n)) drops_are ∙ none dropping)
            (ap (accounts_reply call n) (event_is place kind raw is) ∙ accounts_other n place kind raw ne);
        configures =
            ap (config_given n (list_any is_ignored (effects_of T event))) (m.takes.input_is ∙ ap Some is)
            ∙ config_other n place (list_any is_ignored (effects_of T event)) kind raw ne;
      }
    where
      none : (filter_map drop_of o.effects ≡ []) ⊎ (filter_map drop_of o.effects ≡ place ∷ [])
          → list_any (nat_eq n) (filter_map drop_of o.effects) ≡ false
      none (inl nobody) = ap (list_any (nat_eq n)) nobody
      none (inr it) = ap (list_any (nat_eq n)) it ∙ ap (λ b. b || false) ne

  config_kept : (place : ℕ) → config_given place (list_any is_ignored (effects_of T event)) (input_to call event) ≡ None
      → config_at (row ∷ T.rows) call place f.options ≡ config_at T.rows call place f.options
  config_kept place none = config_on call place f.options row T.rows none

  -- ---- a provider is heard and stays awaited

  pub files_only : (n : ℕ) (place : ℕ) (kind : ReplyKind) (raw : List ℕ) → (kind ≡ kinds.WellKnown) ⊎ (kind ≡ kinds.Config)
      → accounts_reply call n (events.Reply call place kind raw) ≡ None
  files_only n place kind raw (inl is) = ap (λ k. accounts_reply call n (events.Reply call place k raw)) is
  files_only n place kind raw (inr is) = ap (λ k. accounts_reply call n (events.Reply call place k raw)) is

  pub heard_now : (h : HearsOne (world_at T) f input o) → AllCome T.rows call f.options f.progress
      → (q : ProviderOptions) → provider_at h.place f.options ≡ Some q → HasCome (row ∷ T.rows) call f.options h.place q h.progress
  heard_now h all q has = by h.hears
    where
      q_is : h.q ≡ q
      q_is = let both : Some h.q ≡ Some q = sym h.has ∙ has in cc

      unsettled : (h.kind ≡ kinds.WellKnown) ⊎ (h.kind ≡ kinds.Config) → settled_by call h.place q T.rows ≡ None
          → settled_by call h.place q (row ∷ T.rows) ≡ None
      unsettled kind none =
          ap (λ x. option_or x (settled_by call h.place q T.rows))
          (unsettled_in call h.place q row (drops_none call h.place (effects_of T event) (drops_are ∙ h.drops))
          (ap (accounts_reply call h.place) (event_is h.place h.kind h.raw h.is_reply) ∙ files_only h.place h.place h.kind h.raw kind))
          ∙ none

      now : IsNow h.progress h.config → settled_by call h.place q (row ∷ T.rows) ≡ None
          → h.config ≡ config_at (row ∷ T.rows) call h.place f.options → HasCome (row ∷ T.rows) call f.options h.place q h.progress
      now (NowReading r progress_is_it config_is) none known =
          subst (HasCome (row ∷ T.rows) call f.options h.place q) (sym progress_is_it) (none, config_is ∙ known)
      now (NowListing c progress_is_it config_is) none known =
          subst (HasCome (row ∷ T.rows) call f.options h.place q) (sym progress_is_it) (none, sym config_is ∙ known)

      by : Hears (progress_at h.place f) h.q h.kind h.raw h.config → HasCome (row ∷ T.rows) call f.options h.place q h.progress
      by (ByWellKnown r is kind_is same) =
          let before : HasCome T.rows call f.options h.place q (progress_is.Reading r) =
          all.come h.place q (progress_is.Reading r) has is in
          now h.is_now (unsettled (inl kind_is) before.0)
          (same ∙ before.1
          ∙ sym (config_kept h.place
          (config_none h.place (inr (ap brings_config h.is_reply ∙ ap (λ k. brings_config (inputs.Reply h.place k h.raw)) kind_is)))))
      by (ByConfig r c is kind_is same reads) =
          let before : HasCome T.rows call f.options h.place q (progress_is.Reading r) =
          all.come h.place q (progress_is.Reading r) has is in
          now h.is_now (unsettled (inr kind_is) before.0)
          (same
          ∙ sym (ap (λ x. option_and_then (config_in f.options h.place) (option_or x (config_taken call h.place T.rows)))
          (ap (λ b. config_given h.place b (input_to call event)) (ignored_is ∙ h.taken)
          ∙ ap (config_given h.place false) (m.takes.input_is ∙ ap Some (h.is_reply ∙ ap (λ k. inputs.Reply h.place k h.raw) kind_is))
          ∙ ap (λ b. cond b (Some h.raw) None) (own h.place))
          ∙ ap (λ x. option_and_then result_ok (config_read h.raw x)) h.has
          ∙ ap (λ x. result_ok x) reads))

  -- ---- a provider is settled

  unsettled_was : (place : ℕ) (q : ProviderOptions) (g : Progress) → is_awaited g ≡ true → HasCome T.rows call f.options place q g
      → settled_by call place q T.rows ≡ None
  unsettled_was place q (progress_is.Reading r) awaited h = h.0
  unsettled_was place q (progress_is.Listing c) awaited h = h.0
  unsettled_was place q (progress_is.Listed c accounts) awaited h = absurd (cc)
  unsettled_was place q (progress_is.Dropped failure) awaited h = absurd (cc)

  -- it was not before
  pub settled_before : (s : SettlesOne (world_at T) f input o) → AllCome T.rows call f.options f.progress
      → settled_by call s.place s.q T.rows ≡ None
  settled_before s all = by s.so
    where
      by : SettlesSo f s.place s.q s.kind s.raw s.progress o → settled_by call s.place s.q T.rows ≡ None
      by (Drops failure is was dropping) = unsettled_was s.place s.q was.was was.awaited (all.come s.place s.q was.was s.has was.is)
      by (Gets config accounts rest is lists o_is dropping) =
          unsettled_was s.place s.q (progress_is.Listing config) refl
          (all.come s.place s.q (progress_is.Listing config) s.has lists.is)

  pub settled_now : (s : SettlesOne (world_at T) f input o) → AllCome T.rows call f.options f.progress
      → (q : ProviderOptions) → provider_at s.place f.options ≡ Some q → HasCome (row ∷ T.rows) call f.options s.place q s.progress
  settled_now s all q has = subst (λ x. HasCome (row ∷ T.rows) call f.options s.place x s.progress) q_is (by s.so)
    where
      q_is : s.q ≡ q
      q_is = let both : Some s.q ≡ Some q = sym s.has ∙ has in cc

      by : SettlesSo f s.place s.q s.kind s.raw s.progress o → HasCome (row ∷ T.rows) call f.options s.place s.q s.progress
      by (Drops failure is was dropping) =
          subst (HasCome (row ∷ T.rows) call f.options s.place s.q) (sym is)
          (ap (λ b. option_or (settled_so b (list_any (logs_in (origin_of s.q.config)) (effects_of T event))
          (accounts_reply call s.place event)) (settled_by call s.place s.q T.rows))
          (ap (list_any (nat_eq s.place)) (drops_are ∙ dropping) ∙ ap (λ b. b || false) (own s.place)))
      by (Gets config accounts rest is lists o_is dropping) =
          subst (HasCome (row ∷ T.rows) call f.options s.place s.q) (sym is) (
            record { raw = s.raw; by = gives; reads = lists.reads },
            before.1 ∙ sym (config_kept s.place
                (config_none s.place (inr (ap brings_config s.is_reply
                ∙ ap (λ k. brings_config (inputs.Reply s.place k s.raw)) lists.kind_is)))),
          )
        where
          before : HasCome T.rows call f.options s.place s.q (progress_is.Listing config)
          before = all.come s.place s.q (progress_is.Listing config) s.has lists.is

          logged : list_any (logs_in (origin_of s.q.config)) (effects_of T event) ≡ true
          logged =
              ap (list_any (logs_in (origin_of s.q.config))) (does_at T event call f m
              ∙ ap (outcome_effects (world_at T) (cookies_with T) GetCall call f.page) o_is)
              ∙ ap (λ b. b || list_any (logs_in (origin_of s.q.config))
              (flat_map (call_effects (world_at T) (cookies_with T) GetCall call f.page) rest.effects ++ moves GetCall call rest.stage))
              (same_origin_self (origin_of s.q.config))

          accounts_are : accounts_reply call s.place event ≡ Some s.raw
          accounts_are =
              ap (accounts_reply call s.place) (event_is s.place s.kind s.raw s.is_reply
              ∙ ap (λ k. events.Reply call s.place k s.raw) lists.kind_is)
              ∙ ap (λ b. cond (b && nat_eq s.place s.place) (Some s.raw) None) (own call)
              ∙ ap (λ b. cond b (Some s.raw) None) (own s.place)

          gives : settled_by call s.place s.q (row ∷ T.rows) ≡ Some (Gives s.raw)
          gives =
              ap (λ x. option_or x (settled_by call s.place s.q T.rows))
              (ap (λ b. settled_so b (list_any (logs_in (origin_of s.q.config)) (effects_of T event)) (accounts_reply call s.place event))
              (drops_none call s.place (effects_of T event) (drops_are ∙ dropping))
              ∙ ap (λ b. settled_so false b (accounts_reply call s.place event)) logged
              ∙ ap (settled_so false true) accounts_are)

-- ---- all are settled

-- how they are
pub record AllDone (rows : List Row) (call n : ℕ) (qs : List ProviderOptions) (gs : List Progress) : Type 0 where
  pub settlements : List Settlement
  pub all : all_settled call n qs rows ≡ Some settlements
  pub so : AllSettledSo gs qs settlements

-- how one is
record OneDone (rows : List Row) (call n : ℕ) (q : ProviderOptions) (g : Progress) : Type 0 where
  settlement : Settlement
  by : settled_by call n q rows ≡ Some settlement
  so : SettledSo g q settlement

one_done : (rows : List Row) (call : ℕ) (options : GetOptions) (n : ℕ) (q : ProviderOptions) (g : Progress) → is_awaited g ≡ false
    → HasCome rows call options n q g → OneDone rows call n q g
one_done rows call options n q (progress_is.Reading r) none h = absurd (cc)
one_done rows call options n q (progress_is.Listing c) none h = absurd (cc)
one_done rows call options n q (progress_is.Listed c accounts) none h =
    record { settlement = Gives h.0.raw; by = h.0.by; so = h.0.reads }
one_done rows call options n q (progress_is.Dropped failure) none h = record { settlement = DropsOut; by = h; so = tt }

all_done : (rows : List Row) (call : ℕ) (options : GetOptions) (n : ℕ) (qs : List ProviderOptions) (gs : List Progress)
    → length gs ≡ length qs → list_any is_awaited gs ≡ false
    → ((k : ℕ) (q : ProviderOptions) (g : Progress) → slice_get qs k ≡ Some q → slice_get gs k ≡ Some g
    → HasCome rows call options (n + k) q g)
    → AllDone rows call n qs gs
all_done rows call options n [] [] long none come = record { settlements = []; all = refl; so = tt }
all_done rows call options n [] (g ∷ gs) long none come = absurd (cc)
all_done rows call options n (q ∷ qs) [] long none come = absurd (cc)
all_done rows call options n (q ∷ qs) (g ∷ gs) long none come =
    let shorter : length gs ≡ length qs = omega (arith, long) in
    go (is_awaited g) refl none
    (λ h. all_done rows call options (suc n) qs gs shorter h
    (λ k p x has at. let next : n + suc k ≡ suc n + k = omega arith in
    subst (λ m. HasCome rows call options m p x) next (come (suc k) p x has at)))
  where
    go : (b : Bool) → is_awaited g ≡ b → b || list_any is_awaited gs ≡ false
        → (list_any is_awaited gs ≡ false → AllDone rows call (suc n) qs gs) → AllDone rows call n (q ∷ qs) (g ∷ gs)
    go true is h more = absurd (cc)
    go false is h more =
        let zero_is : n + 0 ≡ n = omega arith in
        let one = one_done rows call options n q g is (subst (λ m. HasCome rows call options m q g) zero_is (come 0 q g refl refl)) in
        let rest = more h in
        record {
          settlements = one.settlement ∷ rest.settlements;
          all = ap (λ x. and_settled x (all_settled call (suc n) qs rows)) one.by ∙ ap (and_settled (Some one.settlement)) rest.all;
          so = (one.so, rest.so);
        }

pub done : (rows : List Row) (call : ℕ) (options : GetOptions) (progress : List Progress) → AllCome rows call options progress
    → list_any is_awaited progress ≡ false → AllDone rows call 0 options.providers progress
done rows call options progress h none =
    all_done rows call options 0 options.providers progress h.long none (λ k q g has is. let start : k ≡ 0 + k = omega arith in
    subst (λ m. HasCome rows call options m q g) start (h.come k q g has is))

-- one is not, so not all are
and_none : (x : Option Settlement) → and_settled x None ≡ None
and_none None = refl
and_none (Some settlement) = refl

undone_from : (rows : List Row) (call n : ℕ) (qs : List ProviderOptions) (k : ℕ) (q : ProviderOptions) → slice_get qs k ≡ Some q
    → settled_by call (n + k) q rows ≡ None → all_settled call n qs rows ≡ None
undone_from rows call n [] k q has none = absurd (cc)
undone_from rows call n (p ∷ qs) zero q has none =
    let same : p ≡ q = cc in
    let zero_is : n + 0 ≡ n = omega arith in
    ap (λ x. and_settled x (all_settled call (suc n) qs rows))
    (subst (λ y. settled_by call n y rows ≡ None) (sym same) (subst (λ m. settled_by call m q rows ≡ None) zero_is none))
undone_from rows call n (p ∷ qs) (suc k) q has none =
    let next : n + suc k ≡ suc n + k = omega arith in
    ap (and_settled (settled_by call n p rows))
    (undone_from rows call (suc n) qs k q has (subst (λ m. settled_by call m q rows ≡ None) next none))
    ∙ and_none (settled_by call n p rows)

pub undone : (rows : List Row) (call : ℕ) (options : GetOptions) (place : ℕ) (q : ProviderOptions) → provider_at place options ≡ Some q
    → settled_by call place q rows ≡ None → all_settled call 0 options.providers rows ≡ None
undone rows call options place q has none = undone_from rows call 0 options.providers place q has
    (let start : place ≡ 0 + place = omega arith in subst (λ m. settled_by call m q rows ≡ None) start none)
