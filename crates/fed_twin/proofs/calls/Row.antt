-- The tables of a call in two worlds that providers cannot tell apart.
use Rattle.std.proofs.Common.{◌≡◌, ℕ, zero, suc, Bool, true, false, ◌||◌, ◌&&◌, ◌==◌, nat_eq, inl, inr, List, [], ◌∷◌, length, slice_get}
use Rattle.std.proofs.Common.{Option}
use Rattle.std.proofs.Common.{Some, None, Result as Answer, Ok, Err, IfSome, refl, sym, ap, subst, ◌∙◌, cond}
use Rattle.std.specs.Prelude.{unwrap_or, ⊤, slice_set, bytes_eq}
use Rattle.std.specs.List.{filter_map, cons_option, list_any, find, AllByRecursion, AllZip}
use Rattle.url.specs.Parts.{Parts}
use Rattle.fed_origin.specs.declared.options.ProviderOptions.{ProviderOptions}
use Rattle.fed_origin.specs.declared.origin.Origin.{Origin}
use Rattle.fed_origin.specs.declared.stage.Endpoint.{Endpoint}
use Rattle.fed_origin.specs.declared.stage.ReplyKind.{ReplyKind}
use Rattle.fed_origin.specs.declared.stage.ReplyKind.TheVariants as kinds
use Rattle.fed_origin.specs.declared.stage.Stage.{Stage}
use Rattle.fed_origin.specs.declared.stage.Stage.TheVariants.{Reading, Listing, Gathering, Mismatch, Window, Choosing, Prompting}
use Rattle.fed_origin.specs.declared.stage.Stage.TheVariants.{Asserting, Ended}
use Rattle.fed_origin.specs.declared.status.LoginStatus.TheVariants.{LoggedIn, LoggedOut}
use Rattle.fed_origin.specs.WebUrl.{host_of, origin_of}
use Rattle.fed_suffix.specs.Rule.{RuleSet}
use Rattle.fed_provider.specs.declared.config.Config.{Config as Configuration}
use Rattle.fed_provider.specs.declared.first_replies.FirstReplies.{FirstReplies}
use Rattle.fed_provider.specs.declared.first_replies.Heard.TheVariants as heards
use Rattle.fed_provider.specs.declared.step.ProviderStep.{ProviderStep}
use Rattle.fed_provider.specs.Config.{ConfigOf}
use Rattle.fed_provider.specs.declared.wellknown.WellKnown.{WellKnown}
use Rattle.fed_provider.specs.FirstReplies.{by_agreement, reply_heard, wellknown_heard, config_heard, wellknown_read}
use Rattle.fed_provider.specs.WellKnown.{agrees}
use Rattle.fed_accounts.specs.declared.account.Account.{Account}
use Rattle.fed_accounts.specs.declared.step.AccountsStep.{AccountsStep}
use Rattle.fed_status.specs.Login.{status_of}
use Rattle.fed_status.specs.Shared.{World}
use Rattle.fed_consent.specs.declared.table.effect.Effect.{Effect as CallEffect}
use Rattle.fed_consent.specs.declared.table.effect.Effect.TheVariants as does
use Rattle.fed_consent.specs.declared.table.failure.Failure.{Failure}
use Rattle.fed_consent.specs.declared.table.failure.FailStep.TheVariants as steps
use Rattle.fed_consent.specs.declared.table.input.Input.{Input}
use Rattle.fed_consent.specs.declared.table.input.Input.TheVariants as inputs
use Rattle.fed_consent.specs.declared.table.why.Why.{Why}
use Rattle.fed_consent.specs.declared.table.why.Why.TheVariants.{NotWaited, NotOffered, NoAccount, CallEnded}
use Rattle.fed_call.specs.declared.progress.Progress.{Progress}
use Rattle.fed_call.specs.declared.progress.Progress.TheVariants as progress_is
use Rattle.fed_call.specs.Accounts.{Offered, accounts_of, provider_at}
use Rattle.fed_call.specs.AssertingRows.{picked_at}
use Rattle.fed_call.specs.DialogRows.{chose, choice, by_connection, goes_on, went_on, cancelled, metadata_reply}
use Rattle.fed_call.specs.Dialogs.{site_of}
use Rattle.fed_call.specs.Facts.{Facts, at_stage, came_at, conclusion_of, config_at, facts_after, found_offered, is_named, is_single}
use Rattle.fed_call.specs.Facts.{progress_at}
use Rattle.fed_call.specs.Facts.{with_came, with_choice, with_input, with_none_fitting, with_progress, with_settled}
use Rattle.fed_call.specs.GatheringRows.{gathering_came}
use Rattle.fed_call.specs.Progress.{Came, Unawaited, Refused, Waits, Both, NoneFits, Fit, came, came_heard, came_listing, came_read}
use Rattle.fed_call.specs.Progress.{config_of}
use Rattle.fed_call.specs.Row.{stage_reply, came_row, provider_row, awaited_reply}
use Rattle.fed_call.specs.SettledRows.{settles}
use Rattle.fed_call.specs.SingleRows.{single_came, refused, by_mismatch, by_window, is_mismatch}
use Rattle.fed_call.specs.WindowRows.{may_sign_in, opens_window, asked_to_sign_in, window_shut}
use Rattle.fed_consent.specs.Outcomes.{Outcome, ignored, stays, after, only_place, is_ignored}
use Rattle.fed_consent.specs.Failures.{plain}
use Rattle.fed_twin.specs.Providers.{Providers, is_provider}
use Rattle.fed_twin.specs.Same.{IfBoth, SameProvider, SameOffered, IsOwn, HasOwn, is_open, SameData, SameFacts, SameCall}
use Rattle.fed_twin.proofs.calls.Call.{AgreeWorlds, told_effect, OwnSend, AllOwn, SameOutcome, Keeps, Lands, open_facts, stands}
use Rattle.fed_twin.proofs.calls.Call.{keeps_ignored}
use Rattle.fed_twin.proofs.calls.Call.{keeps_fails, keeps_does, providers_both, read_same, own_config, ReselectsNone}
use Rattle.fed_twin.proofs.calls.Call.{same_conclusion, prompt_untold, prompt_taken, prompt_own, IsQuiet, quiet_conclusion, concludes_same}
use Rattle.fed_twin.proofs.calls.Call.{concludes_taken, concludes_lands, same_picked, same_ended, same_progress}

-- ---- what a reply comes to

came_by : (p : Providers) (rules : RuleSet) (progress : Option Progress) (q q' : Option ProviderOptions) → IfBoth (SameProvider p) q q'
    → (kind : ReplyKind) (raw : List ℕ) → came rules progress q kind raw ≡ came rules progress q' kind raw
came_by p rules None q q' h kind raw = refl
came_by p rules (Some g) None None h kind raw = refl
came_by p rules (Some g) None (Some q') h kind raw = absurd h
came_by p rules (Some g) (Some q) None h kind raw = absurd h
came_by p rules (Some (progress_is.Reading replies)) (Some q) (Some q') h kind raw =
    ap (λ c. came_heard (reply_heard rules replies c kind raw)) h.shares.config
came_by p rules (Some (progress_is.Listing config)) (Some q) (Some q') h kind raw = by kind
  where
    by : (kind : ReplyKind) → came_listing config q kind raw ≡ came_listing config q' kind raw
    by kinds.Accounts = ap (came_read config) (read_same p raw q q' h)
    by kinds.WellKnown = refl
    by kinds.Config = refl
    by kinds.Metadata = refl
    by kinds.Assertion = refl
    by kinds.Disconnect = refl
came_by p rules (Some (progress_is.Listed config accounts)) (Some q) (Some q') h kind raw = refl
came_by p rules (Some (progress_is.Dropped failure)) (Some q) (Some q') h kind raw = refl

-- a configuration that it brings is the provider's own
abbrev OwnCame : Providers → Came → Type 0
OwnCame p (Waits replies) = IfSome replies.config (IsOwn p)
OwnCame p (Both config) = IsOwn p config
OwnCame p _ = ⊤

-- two good files, whether they agree or not
own_agreement : (p : Providers) (config : Configuration) → IsOwn p config → (other : Option Endpoint)
    → OwnCame p (came_heard (by_agreement config other))
own_agreement p config known None = known
own_agreement p config known (Some endpoint) = tt

own_wellknown : (p : Providers) (heard : Option WellKnown) (config : Option Configuration) → IfSome config (IsOwn p)
    → (read : Answer WellKnown ProviderStep) → OwnCame p (came_heard (wellknown_heard heard config read))
own_wellknown p (Some file) config known read = tt
own_wellknown p None config known (Err step) = tt
own_wellknown p None None known (Ok file) = tt
own_wellknown p None (Some c) known (Ok file) = own_agreement p c known (agrees file c)

own_read : (p : Providers) (heard : Option WellKnown) (config : Option Configuration) (read : Answer Configuration ProviderStep)
    → ((c : Configuration) → read ≡ Ok c → IsOwn p c) → OwnCame p (came_heard (config_heard heard config read))
own_read p heard (Some config) read own = tt
own_read p heard None (Err step) own = tt
own_read p None None (Ok c) own = own c refl
own_read p (Some file) None (Ok c) own = own_agreement p c (own c refl) (agrees file c)

own_heard : (p : Providers) (rules : RuleSet) (replies : FirstReplies) (url : Parts) → IfSome replies.config (IsOwn p)
    → is_provider p (host_of url) ≡ true → (kind : ReplyKind) (raw : List ℕ)
    → OwnCame p (came_heard (reply_heard rules replies url kind raw))
own_heard p rules replies url known there kinds.WellKnown raw =
    own_wellknown p replies.wellknown replies.config known (wellknown_read rules url raw)
own_heard p rules replies url known there kinds.Config raw =
    own_read p replies.wellknown replies.config (ConfigOf raw url) (λ c e. own_config p raw url c e there)
own_heard p rules replies url known there kinds.Accounts raw = tt
own_heard p rules replies url known there kinds.Metadata raw = tt
own_heard p rules replies url known there kinds.Assertion raw = tt
own_heard p rules replies url known there kinds.Disconnect raw = tt

own_listing : (p : Providers) (config : Configuration) (q : ProviderOptions) (kind : ReplyKind) (raw : List ℕ)
    → OwnCame p (came_listing config q kind raw)
own_listing p config q kinds.Accounts raw = by (accounts_of raw q)
  where
    by : (read : Answer (List Account) AccountsStep) → OwnCame p (came_read config read)
    by (Err step) = tt
    by (Ok accounts) = tt
own_listing p config q kinds.WellKnown raw = tt
own_listing p config q kinds.Config raw = tt
own_listing p config q kinds.Metadata raw = tt
own_listing p config q kinds.Assertion raw = tt
own_listing p config q kinds.Disconnect raw = tt

own_came : (p : Providers) (rules : RuleSet) (progress : Option Progress) → IfSome progress (HasOwn p)
    → (q q' : Option ProviderOptions) → IfBoth (SameProvider p) q q' → (kind : ReplyKind) (raw : List ℕ)
    → OwnCame p (came rules progress q kind raw)
own_came p rules None known q q' h kind raw = tt
own_came p rules (Some g) known None q' h kind raw = tt
own_came p rules (Some g) known (Some q) None h kind raw = absurd h
own_came p rules (Some (progress_is.Reading replies)) known (Some q) (Some q') h kind raw =
    own_heard p rules replies q.config known h.known kind raw
own_came p rules (Some (progress_is.Listing config)) known (Some q) (Some q') h kind raw = own_listing p config q kind raw
own_came p rules (Some (progress_is.Listed config accounts)) known (Some q) (Some q') h kind raw = tt
own_came p rules (Some (progress_is.Dropped failure)) known (Some q) (Some q') h kind raw = tt

get_all : {A : Type 0} (P : A → Type 0) (xs : List A) → AllByRecursion P xs → (n : ℕ) → IfSome (slice_get xs n) P
get_all P [] all n = tt
get_all P (x ∷ xs) all zero = all.0
get_all P (x ∷ xs) all (suc n) = get_all P xs all.1 n

same_length : {A B : Type 0} (R : A → B → Type 0) (xs : List A) (ys : List B) → AllZip R xs ys → length xs ≡ length ys
same_length R [] [] h = refl
same_length R [] (y ∷ ys) h = absurd h
same_length R (x ∷ xs) [] h = absurd h
same_length R (x ∷ xs) (y ∷ ys) h = ap suc (same_length R xs ys h.1)

-- the first stages await none of the later replies
no_later : (v : World) (progress : Option Progress) (q : Option ProviderOptions) (kind : ReplyKind) (raw : List ℕ)
    → ((replies : FirstReplies) (url : Parts) → reply_heard v.rules replies url kind raw ≡ heards.NotWaited replies)
    → ((config : Configuration) (o : ProviderOptions) → came_listing config o kind raw ≡ Unawaited)
    → came v.rules progress q kind raw ≡ Unawaited
no_later v None q kind raw h k = refl
no_later v (Some g) None kind raw h k = refl
no_later v (Some (progress_is.Reading replies)) (Some q) kind raw h k = ap came_heard (h replies q.config)
no_later v (Some (progress_is.Listing config)) (Some q) kind raw h k = k config q
no_later v (Some (progress_is.Listed config accounts)) (Some q) kind raw h k = refl
no_later v (Some (progress_is.Dropped failure)) (Some q) kind raw h k = refl

pub no_assertion : (v : World) (g : Facts) (place : ℕ) (raw : List ℕ) → came_at v g place kinds.Assertion raw ≡ Unawaited
no_assertion v g place raw =
    no_later v (progress_at place g) (provider_at place g.options) kinds.Assertion raw (λ r u. refl) (λ c o. refl)

no_disconnect : (v : World) (g : Facts) (place : ℕ) (raw : List ℕ) → came_at v g place kinds.Disconnect raw ≡ Unawaited
no_disconnect v g place raw =
    no_later v (progress_at place g) (provider_at place g.options) kinds.Disconnect raw (λ r u. refl) (λ c o. refl)

no_metadata : (v : World) (g : Facts) (place : ℕ) (raw : List ℕ) → came_at v g place kinds.Metadata raw ≡ Unawaited
no_metadata v g place raw =
    no_later v (progress_at place g) (provider_at place g.options) kinds.Metadata raw (λ r u. refl) (λ c o. refl)

-- a reply that is not awaited
unawaited_row : (v : World) (g : Facts) (place : ℕ) (q : Option ProviderOptions) (c : Came) → c ≡ Unawaited
    → provider_row v g place q c ≡ ignored NotWaited
unawaited_row v g place None c is = refl
unawaited_row v g place (Some q) c is = ap (provider_row v g place (Some q)) is ∙ by (is_single g.options)
  where
    by : (single : Bool) → came_row v g place single (origin_of q.config) Unawaited ≡ ignored NotWaited
    by true = refl
    by false = refl

-- the row of a reply with accounts that fit
abbrev fits : World → Facts → ℕ → ProviderOptions → Configuration → List Account → Outcome
fits w f place q config accounts =
    after (does.SetLogin (origin_of q.config) LoggedIn) (settles w (with_progress place (progress_is.Listed config accounts) f))

-- where all are settled then, none is reselected
abbrev SettlesQuiet : World → Facts → ℕ → Progress → Type 0
SettlesQuiet w f place progress = ReselectsNone (conclusion_of w f.origin f.options (slice_set f.progress place progress))

-- the same where no account of the provider fits, by whether it is the only one
abbrev QuietNone : World → Facts → ℕ → Failure → Bool → Type 0
QuietNone w f place failure true = ⊤
QuietNone w f place failure false = SettlesQuiet w f place (progress_is.Dropped failure)

abbrev QuietCame : World → Facts → ℕ → Came → Type 0
QuietCame w f place (Refused failure) = SettlesQuiet w f place (progress_is.Dropped failure)
QuietCame w f place (NoneFits failure) = QuietNone w f place failure (is_single f.options)
QuietCame w f place (Fit config accounts) = SettlesQuiet w f place (progress_is.Listed config accounts)
QuietCame w f place _ = ⊤

module _ (p : Providers) (w w' : World) (agree : AgreeWorlds p w w') (f f' : Facts) (s : SameFacts p f f') where
  rules_same : w.rules ≡ w'.rules
  rules_same = agree.rules ∙ sym agree.rules'

  both : (place : ℕ) → IfBoth (SameProvider p) (provider_at place f.options) (provider_at place f'.options)
  both place = providers_both p f.options f'.options s.said.options place

  singles : is_single f.options ≡ is_single f'.options
  singles = ap (λ n. n == 1) (same_length (SameProvider p) f.options.providers f'.options.providers s.said.options.providers)

  came_same : (place : ℕ) (kind : ReplyKind) (raw : List ℕ) → came_at w f place kind raw ≡ came_at w' f' place kind raw
  came_same place kind raw =
      ap (λ r. came r (progress_at place f) (provider_at place f.options) kind raw) rules_same
      ∙ ap (λ g. came w'.rules (slice_get g place) (provider_at place f.options) kind raw) s.said.progress
      ∙ came_by p w'.rules (progress_at place f') (provider_at place f.options) (provider_at place f'.options) (both place) kind raw

  came_own : (place : ℕ) (kind : ReplyKind) (raw : List ℕ) → OwnCame p (came_at w f place kind raw)
  came_own place kind raw =
      own_came p w.rules (progress_at place f) (get_all (HasOwn p) f.progress s.said.known place)
      (provider_at place f.options) (provider_at place f'.options) (both place) kind raw

  settled_data : (place : ℕ) (progress : Progress) → HasOwn p progress
      → SettlesQuiet w f place progress → SettlesQuiet w' f' place progress
      → SameData p (with_settled w (with_progress place progress f)) (with_settled w' (with_progress place progress f'))
  settled_data place progress own quiet quiet' =
      same_ended p (with_progress place progress f) (with_progress place progress f') (same_progress p f f' s.said place progress own) _ _
      (same_conclusion p w w' f.origin f'.origin f.options f'.options s.said.options _ _
      (ap (λ g. slice_set g place progress) s.said.progress) quiet quiet')

  settled_same : (place : ℕ) (progress : Progress)
      → SettlesQuiet w f place progress → SettlesQuiet w' f' place progress
      → SameOutcome p (settles w (with_progress place progress f)) (settles w' (with_progress place progress f'))
  settled_same place progress quiet quiet' =
      concludes_same p w w' (with_progress place progress f) (with_progress place progress f') _ _
      (same_conclusion p w w' f.origin f'.origin f.options f'.options s.said.options _ _
      (ap (λ g. slice_set g place progress) s.said.progress) quiet quiet')

  none_data : (place : ℕ) (failure : Failure) (b b' : Bool) → b ≡ b' → QuietNone w f place failure b → QuietNone w' f' place failure b'
      → SameData p (with_none_fitting w place failure b f) (with_none_fitting w' place failure b' f')
  none_data place failure true true e quiet quiet' = s.said
  none_data place failure false false e quiet quiet' = settled_data place (progress_is.Dropped failure) tt quiet quiet'
  none_data place failure true false e quiet quiet' = absurd (cc)
  none_data place failure false true e quiet quiet' = absurd (cc)

  came_data : (place : ℕ) (c : Came) → OwnCame p c → QuietCame w f place c → QuietCame w' f' place c
      → SameData p (with_came w place c f) (with_came w' place c f')
  came_data place Unawaited own quiet quiet' = s.said
  came_data place (Refused failure) own quiet quiet' = settled_data place (progress_is.Dropped failure) tt quiet quiet'
  came_data place (Waits replies) own quiet quiet' = same_progress p f f' s.said place (progress_is.Reading replies) own
  came_data place (Both config) own quiet quiet' = same_progress p f f' s.said place (progress_is.Listing config) own
  came_data place (NoneFits failure) own quiet quiet' =
      none_data place failure (is_single f.options) (is_single f'.options) singles quiet quiet'
  came_data place (Fit config accounts) own quiet quiet' = settled_data place (progress_is.Listed config accounts) tt quiet quiet'

  -- ---- with one effect in front

  after_same : (e e' : CallEffect) → told_effect e ≡ told_effect e' → OwnSend p e → (o o' : Outcome) → SameOutcome p o o'
      → SameOutcome p (after e o) (after e' o')
  after_same e e' told own o o' same =
      record {
        stage = same.stage;
        told = ap (λ x. cons_option x (filter_map told_effect o.effects)) told ∙ ap (cons_option (told_effect e')) same.told;
        own = (own, same.own);
      }

  -- ---- a reply that comes to this, in both

  module _ (place : ℕ) (kind : ReplyKind) (raw : List ℕ)
      (says : (v : World) (g : Facts)
      → with_input v false (inputs.Reply place kind raw) g ≡ with_came v place (came_at v g place kind raw) g) where
    abbrev input : Input
    input = inputs.Reply place kind raw

    -- what is known then
    said_data : (c : Came) → came_at w f place kind raw ≡ c → OwnCame p c → QuietCame w f place c → QuietCame w' f' place c
        → SameData p (with_input w false input f) (with_input w' false input f')
    said_data c is own quiet quiet' =
        subst (λ g. SameData p g (with_input w' false input f')) (sym (says w f ∙ ap (λ x. with_came w place x f) is))
        (subst (SameData p (with_came w place c f))
        (sym (says w' f' ∙ ap (λ x. with_came w' place x f') (sym (came_same place kind raw) ∙ is)))
        (came_data place c own quiet quiet'))

    login_told : (q q' : ProviderOptions) → SameProvider p q q' → (status : _)
        → told_effect (does.SetLogin (origin_of q.config) status) ≡ told_effect (does.SetLogin (origin_of q'.config) status)
    login_told q q' h status = ap (λ c. told_effect (does.SetLogin (origin_of c) status)) h.shares.config

    -- the accounts fit
    fits_by : (q q' : ProviderOptions) → SameProvider p q q' → (config : Configuration) (accounts : List Account)
        → came_at w f place kind raw ≡ Fit config accounts → IsQuiet (fits w f place q config accounts)
        → IsQuiet (fits w' f' place q' config accounts)
        → Keeps p w w' f f' input input (fits w f place q config accounts) (fits w' f' place q' config accounts)
    fits_by q q' h config accounts is quiet quiet' =
        let g = with_progress place (progress_is.Listed config accounts) f in
        let g' = with_progress place (progress_is.Listed config accounts) f' in
        let c = conclusion_of w f.origin f.options g.progress in
        let c' = conclusion_of w' f'.origin f'.options g'.progress in
        let none = quiet_conclusion w g c quiet in
        let none' = quiet_conclusion w' g' c' quiet' in
        keeps_does p w w' f f' s input input _ _
        (after_same (does.SetLogin (origin_of q.config) LoggedIn) (does.SetLogin (origin_of q'.config) LoggedIn)
        (login_told q q' h LoggedIn) tt _ _ (settled_same place (progress_is.Listed config accounts) none none'))
        (concludes_taken w g c) (concludes_taken w' g' c') (said_data (Fit config accounts) is tt none none')
        (concludes_lands w g c none f.stage (stands p f f' s))

    -- a file is good, and the other is awaited
    waits_by : (replies : FirstReplies) → came_at w f place kind raw ≡ Waits replies → OwnCame p (Waits replies)
        → Keeps p w w' f f' input input stays stays
    waits_by replies is own =
        keeps_does p w w' f f' s input input _ _ (record { stage = refl; told = refl; own = tt }) refl refl
        (said_data (Waits replies) is own tt tt) (stands p f f' s)

    -- ---- a call with several providers

    gathering_by : is_single f.options ≡ false → is_single f'.options ≡ false → (q q' : ProviderOptions) → SameProvider p q q'
        → (c : Came) → came_at w f place kind raw ≡ c → OwnCame p c
        → IsQuiet (gathering_came w f place (origin_of q.config) c) → IsQuiet (gathering_came w' f' place (origin_of q'.config) c)
        → Keeps p w w' f f' input input (gathering_came w f place (origin_of q.config) c) (gathering_came w' f' place
        (origin_of q'.config) c)
    gathering_by several several' q q' h Unawaited is own quiet quiet' = keeps_ignored p w w' f f' s input input NotWaited NotWaited
    gathering_by several several' q q' h (Refused failure) is own quiet quiet' =
        let g = with_progress place (progress_is.Dropped failure) f in
        let g' = with_progress place (progress_is.Dropped failure) f' in
        let c = conclusion_of w f.origin f.options g.progress in
        let c' = conclusion_of w' f'.origin f'.options g'.progress in
        let none = quiet_conclusion w g c quiet in
        let none' = quiet_conclusion w' g' c' quiet' in
        keeps_does p w w' f f' s input input _ _
        (after_same (does.Dropped place failure) (does.Dropped place failure) refl tt _ _
        (settled_same place (progress_is.Dropped failure) none none'))
        (concludes_taken w g c) (concludes_taken w' g' c') (said_data (Refused failure) is own none none')
        (concludes_lands w g c none f.stage (stands p f f' s))
    gathering_by several several' q q' h (Waits replies) is own quiet quiet' = waits_by replies is own
    gathering_by several several' q q' h (Both config) is own quiet quiet' =
        keeps_does p w w' f f' s input input _ _ (record { stage = refl; told = refl; own = (own, tt) }) refl refl
        (said_data (Both config) is own tt tt) (stands p f f' s)
    gathering_by several several' q q' h (NoneFits failure) is own quiet quiet' =
        let g = with_progress place (progress_is.Dropped failure) f in
        let g' = with_progress place (progress_is.Dropped failure) f' in
        let c = conclusion_of w f.origin f.options g.progress in
        let c' = conclusion_of w' f'.origin f'.options g'.progress in
        let none = quiet_conclusion w g c quiet in
        let none' = quiet_conclusion w' g' c' quiet' in
        keeps_does p w w' f f' s input input _ _
        (after_same (does.SetLogin (origin_of q.config) LoggedOut) (does.SetLogin (origin_of q'.config) LoggedOut)
        (login_told q q' h LoggedOut) tt _ _
        (after_same (does.Dropped place failure) (does.Dropped place failure) refl tt _ _
        (settled_same place (progress_is.Dropped failure) none none')))
        (concludes_taken w g c) (concludes_taken w' g' c')
        (said_data (NoneFits failure) is own (subst (QuietNone w f place failure) (sym several) none)
        (subst (QuietNone w' f' place failure) (sym several') none'))
        (concludes_lands w g c none f.stage (stands p f f' s))
    gathering_by several several' q q' h (Fit config accounts) is own quiet quiet' = fits_by q q' h config accounts is quiet quiet'

    -- ---- a call with one provider

    mismatch_by : (place : ℕ) (site site' : List ℕ) (failure : Failure) (b b' : Bool) → b ≡ b'
        → SameOutcome p (by_mismatch place site failure b) (by_mismatch place site' failure b')
    mismatch_by place site site' failure true true e = record { stage = refl; told = refl; own = (tt, tt) }
    mismatch_by place site site' failure false false e = record { stage = refl; told = refl; own = (tt, tt) }
    mismatch_by place site site' failure true false e = absurd (cc)
    mismatch_by place site site' failure false true e = absurd (cc)

    window_by : (c c' : Option Configuration) → c ≡ c' → (o o' : Outcome) → SameOutcome p o o' → (b b' : Bool) → b ≡ b'
        → SameOutcome p (by_window place c o b) (by_window place c' o' b')
    window_by c c' e o o' same false false k = same
    window_by None None e o o' same true true k = record { stage = refl; told = refl; own = tt }
    window_by (Some c) (Some c') e o o' same true true k = record { stage = refl; told = refl; own = (tt, tt) }
    window_by None (Some c') e o o' same true true k = absurd (cc)
    window_by (Some c) None e o o' same true true k = absurd (cc)
    window_by c c' e o o' same true false k = absurd (cc)
    window_by c c' e o o' same false true k = absurd (cc)

    refused_same : (q q' : ProviderOptions) → SameProvider p q q' → (failure : Failure)
        → SameOutcome p (refused w f place (origin_of q.config) failure) (refused w' f' place (origin_of q'.config) failure)
    refused_same q q' h failure =
        window_by (config_at place f) (config_at place f') (ap (λ g. config_of (slice_get g place)) s.said.progress) _ _
        (mismatch_by place _ _ failure _ _
        (ap (λ m. is_mismatch m f.options.mediation (status_of w.login (origin_of q.config))) s.said.options.mode
        ∙ ap (λ m. is_mismatch f'.options.mode m (status_of w.login (origin_of q.config))) s.said.options.mediation
        ∙ ap (is_mismatch f'.options.mode f'.options.mediation)
        (agree.status (origin_of q.config) h.known ∙ ap (λ c. status_of w'.login (origin_of c)) h.shares.config)))
        _ _ (ap (λ m. may_sign_in m f.options.mediation) s.said.options.mode ∙ ap (may_sign_in f'.options.mode) s.said.options.mediation)

    -- a stage of a call with one provider
    refused_lands : (origin : Origin) (failure : Failure) → Lands f.stage
        → Lands (unwrap_or (refused w f place origin failure).stage f.stage)
    refused_lands origin failure lands =
        by_config (config_at place f) (may_sign_in f.options.mode f.options.mediation)
      where
        by_shown : (b : Bool) → Lands (unwrap_or (by_mismatch place (site_of w f.origin) failure b).stage f.stage)
        by_shown true = inr refl
        by_shown false = inl refl

        by_config : (c : Option Configuration) (b : Bool)
            → Lands (unwrap_or (by_window place c (by_mismatch place (site_of w f.origin) failure
            (is_mismatch f.options.mode f.options.mediation (status_of w.login origin))) b).stage f.stage)
        by_config None true = lands
        by_config (Some c) true = inr refl
        by_config c false = by_shown (is_mismatch f.options.mode f.options.mediation (status_of w.login origin))

    refused_taken : (v : World) (g : Facts) (origin : Origin) (failure : Failure)
        → list_any is_ignored (refused v g place origin failure).effects ≡ false
    refused_taken v g origin failure = by_config (config_at place g) (may_sign_in g.options.mode g.options.mediation)
      where
        by_shown : (b : Bool) → list_any is_ignored (by_mismatch place (site_of v g.origin) failure b).effects ≡ false
        by_shown true = refl
        by_shown false = refl

        by_config : (c : Option Configuration) (b : Bool)
            → list_any is_ignored (by_window place c (by_mismatch place (site_of v g.origin) failure
            (is_mismatch g.options.mode g.options.mediation (status_of v.login origin))) b).effects ≡ false
        by_config None true = refl
        by_config (Some c) true = refl
        by_config c false = by_shown (is_mismatch g.options.mode g.options.mediation (status_of v.login origin))

    single_by : is_single f.options ≡ true → is_single f'.options ≡ true → (q q' : ProviderOptions) → SameProvider p q q'
        → (c : Came) → came_at w f place kind raw ≡ c → OwnCame p c
        → IsQuiet (single_came w f place (origin_of q.config) c) → IsQuiet (single_came w' f' place (origin_of q'.config) c)
        → Keeps p w w' f f' input input (single_came w f place (origin_of q.config) c) (single_came w' f' place (origin_of q'.config) c)
    single_by one one' q q' h Unawaited is own quiet quiet' = keeps_ignored p w w' f f' s input input NotWaited NotWaited
    single_by one one' q q' h (Refused failure) is own quiet quiet' = keeps_fails p w w' f f' s input input failure failure
    single_by one one' q q' h (Waits replies) is own quiet quiet' = waits_by replies is own
    single_by one one' q q' h (Both config) is own quiet quiet' =
        keeps_does p w w' f f' s input input _ _ (record { stage = refl; told = refl; own = (own, tt) }) refl refl
        (said_data (Both config) is own tt tt) (inr refl)
    single_by one one' q q' h (NoneFits failure) is own quiet quiet' =
        keeps_does p w w' f f' s input input _ _
        (after_same (does.SetLogin (origin_of q.config) LoggedOut) (does.SetLogin (origin_of q'.config) LoggedOut)
        (login_told q q' h LoggedOut) tt _ _ (refused_same q q' h failure))
        (refused_taken w f (origin_of q.config) failure) (refused_taken w' f' (origin_of q'.config) failure)
        (said_data (NoneFits failure) is own (subst (QuietNone w f place failure) (sym one) tt)
        (subst (QuietNone w' f' place failure) (sym one') tt))
        (refused_lands (origin_of q.config) failure (stands p f f' s))
    single_by one one' q q' h (Fit config accounts) is own quiet quiet' = fits_by q q' h config accounts is quiet quiet'

    -- ---- by the number of providers, and by the provider

    came_row_by : (b b' : Bool) → is_single f.options ≡ b → is_single f'.options ≡ b' → (q q' : ProviderOptions) → SameProvider p q q'
        → (c : Came) → came_at w f place kind raw ≡ c → OwnCame p c
        → IsQuiet (came_row w f place b (origin_of q.config) c) → IsQuiet (came_row w' f' place b' (origin_of q'.config) c)
        → Keeps p w w' f f' input input (came_row w f place b (origin_of q.config) c) (came_row w' f' place b' (origin_of q'.config) c)
    came_row_by true true one one' q q' h c is own quiet quiet' = single_by one one' q q' h c is own quiet quiet'
    came_row_by false false several several' q q' h c is own quiet quiet' = gathering_by several several' q q' h c is own quiet quiet'
    came_row_by true false one several q q' h c is own quiet quiet' =
        let no : true ≡ false = sym one ∙ singles ∙ several in absurd (cc)
    came_row_by false true several one q q' h c is own quiet quiet' =
        let no : false ≡ true = sym several ∙ singles ∙ one in absurd (cc)

    by_provider : (q q' : Option ProviderOptions) → IfBoth (SameProvider p) q q'
        → IsQuiet (provider_row w f place q (came_at w f place kind raw))
        → IsQuiet (provider_row w' f' place q' (came_at w' f' place kind raw))
        → Keeps p w w' f f' input input (provider_row w f place q (came_at w f place kind raw))
        (provider_row w' f' place q' (came_at w' f' place kind raw))
    by_provider None None h quiet quiet' = keeps_ignored p w w' f f' s input input NotWaited NotWaited
    by_provider None (Some q') h quiet quiet' = absurd h
    by_provider (Some q) None h quiet quiet' = absurd h
    by_provider (Some q) (Some q') h quiet quiet' =
        subst (λ c. Keeps p w w' f f' input input (provider_row w f place (Some q) (came_at w f place kind raw))
        (provider_row w' f' place (Some q') c)) (came_same place kind raw)
        (came_row_by (is_single f.options) (is_single f'.options) refl refl q q' h (came_at w f place kind raw) refl
        (came_own place kind raw) quiet
        (subst (λ c. IsQuiet (provider_row w' f' place (Some q') c)) (sym (came_same place kind raw)) quiet'))

    -- one of the first replies, or one of accounts
    pub reply_first : (st : Stage) → f.stage ≡ st
        → ((v : World) (g : Facts) → stage_reply v g Prompting place kind raw ≡ ignored NotWaited)
        → IsQuiet (stage_reply w f st place kind raw) → IsQuiet (stage_reply w' f' st place kind raw)
        → Keeps p w w' f f' input input (stage_reply w f st place kind raw) (stage_reply w' f' st place kind raw)
    reply_first Reading at silent quiet quiet' =
        by_provider (provider_at place f.options) (provider_at place f'.options) (both place) quiet quiet'
    reply_first Listing at silent quiet quiet' =
        by_provider (provider_at place f.options) (provider_at place f'.options) (both place) quiet quiet'
    reply_first Gathering at silent quiet quiet' =
        by_provider (provider_at place f.options) (provider_at place f'.options) (both place) quiet quiet'
    reply_first Mismatch at silent quiet quiet' = keeps_ignored p w w' f f' s input input NotWaited NotWaited
    reply_first Window at silent quiet quiet' = keeps_ignored p w w' f f' s input input NotWaited NotWaited
    reply_first Choosing at silent quiet quiet' = keeps_ignored p w w' f f' s input input NotWaited NotWaited
    reply_first Prompting at silent quiet quiet' =
        subst (λ o. Keeps p w w' f f' input input o (stage_reply w' f' Prompting place kind raw)) (sym (silent w f))
        (subst (λ o. Keeps p w w' f f' input input (ignored NotWaited) o) (sym (silent w' f'))
        (keeps_ignored p w w' f f' s input input NotWaited NotWaited))
    reply_first Asserting at silent quiet quiet' = absurd (let no : false ≡ true = sym (ap is_open at) ∙ s.goes_on in cc)
    reply_first Ended at silent quiet quiet' = keeps_ignored p w w' f f' s input input CallEnded CallEnded

  -- no token is awaited
  ignored_reply : (place : ℕ) (kind : ReplyKind) (raw raw' : List ℕ)
      → Keeps p w w' f f' (inputs.Reply place kind raw) (inputs.Reply place kind raw') (ignored NotWaited) (ignored NotWaited)
  ignored_reply place kind raw raw' = keeps_ignored p w w' f f' s _ _ NotWaited NotWaited

  -- a reply that no stage but Asserting awaits, by how the first stages ignore it
  later_by : (place : ℕ) (kind : ReplyKind) (raw raw' : List ℕ) → ((v : World) (g : Facts) (r : List ℕ)
      → came_at v g place kind r ≡ Unawaited)
      → Keeps p w w' f f' (inputs.Reply place kind raw) (inputs.Reply place kind raw') (awaited_reply w f place kind raw)
      (awaited_reply w' f' place kind raw')
  later_by place kind raw raw' none =
      subst (λ o. Keeps p w w' f f' i i' o (awaited_reply w' f' place kind raw'))
      (sym (unawaited_row w f place (provider_at place f.options) _ (none w f raw)))
      (subst (λ o. Keeps p w w' f f' i i' (ignored NotWaited) o)
      (sym (unawaited_row w' f' place (provider_at place f'.options) _ (none w' f' raw'))) (ignored_reply place kind raw raw'))
    where
      i : Input
      i = inputs.Reply place kind raw

      i' : Input
      i' = inputs.Reply place kind raw'

  pub reply_assertion : (place : ℕ) (raw raw' : List ℕ) (st : Stage) → f.stage ≡ st
      → Keeps p w w' f f' (inputs.Reply place kinds.Assertion raw) (inputs.Reply place kinds.Assertion raw')
      (stage_reply w f st place kinds.Assertion raw) (stage_reply w' f' st place kinds.Assertion raw')
  reply_assertion place raw raw' Reading at = later_by place kinds.Assertion raw raw' (λ v g r. no_assertion v g place r)
  reply_assertion place raw raw' Listing at = later_by place kinds.Assertion raw raw' (λ v g r. no_assertion v g place r)
  reply_assertion place raw raw' Gathering at = later_by place kinds.Assertion raw raw' (λ v g r. no_assertion v g place r)
  reply_assertion place raw raw' Mismatch at = ignored_reply place kinds.Assertion raw raw'
  reply_assertion place raw raw' Window at = ignored_reply place kinds.Assertion raw raw'
  reply_assertion place raw raw' Choosing at = ignored_reply place kinds.Assertion raw raw'
  reply_assertion place raw raw' Prompting at = ignored_reply place kinds.Assertion raw raw'
  reply_assertion place raw raw' Asserting at = absurd (let no : false ≡ true = sym (ap is_open at) ∙ s.goes_on in cc)
  reply_assertion place raw raw' Ended at = keeps_ignored p w w' f f' s _ _ CallEnded CallEnded

  pub reply_disconnect : (place : ℕ) (raw raw' : List ℕ) (st : Stage)
      → Keeps p w w' f f' (inputs.Reply place kinds.Disconnect raw) (inputs.Reply place kinds.Disconnect raw')
      (stage_reply w f st place kinds.Disconnect raw) (stage_reply w' f' st place kinds.Disconnect raw')
  reply_disconnect place raw raw' Reading = later_by place kinds.Disconnect raw raw' (λ v g r. no_disconnect v g place r)
  reply_disconnect place raw raw' Listing = later_by place kinds.Disconnect raw raw' (λ v g r. no_disconnect v g place r)
  reply_disconnect place raw raw' Gathering = later_by place kinds.Disconnect raw raw' (λ v g r. no_disconnect v g place r)
  reply_disconnect place raw raw' Mismatch = ignored_reply place kinds.Disconnect raw raw'
  reply_disconnect place raw raw' Window = ignored_reply place kinds.Disconnect raw raw'
  reply_disconnect place raw raw' Choosing = ignored_reply place kinds.Disconnect raw raw'
  reply_disconnect place raw raw' Prompting = ignored_reply place kinds.Disconnect raw raw'
  reply_disconnect place raw raw' Asserting = ignored_reply place kinds.Disconnect raw raw'
  reply_disconnect place raw raw' Ended = keeps_ignored p w w' f f' s _ _ CallEnded CallEnded

  -- ---- the user's words

  found_both : (place : ℕ) (id : List ℕ) (us vs : List Offered) → AllZip (SameOffered p) us vs
      → IfBoth (SameOffered p) (find (is_named place id) us) (find (is_named place id) vs)
  found_both place id [] [] h = tt
  found_both place id [] (v ∷ vs) h = absurd h
  found_both place id (u ∷ us) [] h = absurd h
  found_both place id (u ∷ us) (v ∷ vs) h = go (is_named place id u) (is_named place id v) same (found_both place id us vs h.1)
    where
      same : is_named place id u ≡ is_named place id v
      same =
          ap (λ n. nat_eq place n && bytes_eq u.candidate.account.id id) h.0.place
          ∙ ap (λ a. nat_eq place v.place && bytes_eq a.id id) h.0.account

      go : (b b' : Bool) → b ≡ b' → IfBoth (SameOffered p) (find (is_named place id) us) (find (is_named place id) vs)
          → IfBoth (SameOffered p) (cond b (Some u) (find (is_named place id) us)) (cond b' (Some v) (find (is_named place id) vs))
      go true true e rest = h.0
      go false false e rest = rest
      go true false e rest = absurd (cc)
      go false true e rest = absurd (cc)

  choice_data : (o o' : Option Offered) → IfBoth (SameOffered p) o o' → SameData p (with_choice o f) (with_choice o' f')
  choice_data None None h = s.said
  choice_data (Some o) (Some o') h = same_picked p f f' s.said o o'
  choice_data None (Some o') h = absurd h
  choice_data (Some o) None h = absurd h

  chosen_by : (place : ℕ) (id : List ℕ)
      → SameData p (with_input w false (inputs.Choose place id) f) (with_input w' false (inputs.Choose place id) f')
      → (o o' : Offered) (b b' : Bool) → IsQuiet (by_connection w f o b) → IsQuiet (by_connection w' f' o' b')
      → Keeps p w w' f f' (inputs.Choose place id) (inputs.Choose place id) (by_connection w f o b) (by_connection w' f' o' b')
  chosen_by place id said o o' true b' quiet quiet' = absurd (cc)
  chosen_by place id said o o' false true quiet quiet' = absurd (cc)
  chosen_by place id said o o' false false quiet quiet' =
      keeps_does p w w' f f' s _ _ _ _
      (record {
        stage = refl;
        told =
            ap (λ e. cons_option e []) (prompt_untold w f o o.candidate.connected o.config.metadata)
            ∙ sym (ap (λ e. cons_option e []) (prompt_untold w' f' o' o'.candidate.connected o'.config.metadata));
        own = (prompt_own p w f o o.candidate.connected o.config.metadata, tt);
      })
      (ap (λ b. b || false) (prompt_taken w f o o.candidate.connected o.config.metadata))
      (ap (λ b. b || false) (prompt_taken w' f' o' o'.candidate.connected o'.config.metadata)) said (inr refl)

  choice_of : (place : ℕ) (id : List ℕ) (o o' : Option Offered) → IfBoth (SameOffered p) o o'
      → SameData p (with_input w false (inputs.Choose place id) f) (with_input w' false (inputs.Choose place id) f')
      → IsQuiet (choice w f o) → IsQuiet (choice w' f' o')
      → Keeps p w w' f f' (inputs.Choose place id) (inputs.Choose place id) (choice w f o) (choice w' f' o')
  choice_of place id None None h said quiet quiet' = keeps_ignored p w w' f f' s _ _ NoAccount NoAccount
  choice_of place id (Some o) (Some o') h said quiet quiet' =
      chosen_by place id said o o' o.candidate.connected o'.candidate.connected quiet quiet'
  choice_of place id None (Some o') h said quiet quiet' = absurd h
  choice_of place id (Some o) None h said quiet quiet' = absurd h

  pub chose_by : (place : ℕ) (id : List ℕ) (st : Stage) → f.stage ≡ st → IsQuiet (chose w f st place id)
      → IsQuiet (chose w' f' st place id)
      → Keeps p w w' f f' (inputs.Choose place id) (inputs.Choose place id) (chose w f st place id) (chose w' f' st place id)
  chose_by place id Choosing at quiet quiet' =
      let both = found_both place id f.offered f'.offered s.said.offered in
      choice_of place id (found_offered place id f) (found_offered place id f') both
      (choice_data (found_offered place id f) (found_offered place id f') both) quiet quiet'
  chose_by place id Reading at quiet quiet' = keeps_ignored p w w' f f' s _ _ NotOffered NotOffered
  chose_by place id Listing at quiet quiet' = keeps_ignored p w w' f f' s _ _ NotOffered NotOffered
  chose_by place id Gathering at quiet quiet' = keeps_ignored p w w' f f' s _ _ NotOffered NotOffered
  chose_by place id Mismatch at quiet quiet' = keeps_ignored p w w' f f' s _ _ NotOffered NotOffered
  chose_by place id Window at quiet quiet' = keeps_ignored p w w' f f' s _ _ NotOffered NotOffered
  chose_by place id Prompting at quiet quiet' = keeps_ignored p w w' f f' s _ _ NotOffered NotOffered
  chose_by place id Asserting at quiet quiet' = keeps_ignored p w w' f f' s _ _ NotOffered NotOffered
  chose_by place id Ended at quiet quiet' = keeps_ignored p w w' f f' s _ _ NotOffered NotOffered

  pub cancelled_by : (st : Stage) → Keeps p w w' f f' inputs.Cancel inputs.Cancel (cancelled st) (cancelled st)
  cancelled_by Reading = keeps_ignored p w w' f f' s _ _ NotOffered NotOffered
  cancelled_by Listing = keeps_ignored p w w' f f' s _ _ NotOffered NotOffered
  cancelled_by Gathering = keeps_ignored p w w' f f' s _ _ NotOffered NotOffered
  cancelled_by Mismatch = keeps_fails p w w' f f' s _ _ (plain steps.UserCancelled) (plain steps.UserCancelled)
  cancelled_by Window = keeps_ignored p w w' f f' s _ _ NotOffered NotOffered
  cancelled_by Choosing = keeps_fails p w w' f f' s _ _ (plain steps.UserCancelled) (plain steps.UserCancelled)
  cancelled_by Prompting = keeps_fails p w w' f f' s _ _ (plain steps.UserCancelled) (plain steps.UserCancelled)
  cancelled_by Asserting = keeps_ignored p w w' f f' s _ _ NotOffered NotOffered
  cancelled_by Ended = keeps_ignored p w w' f f' s _ _ NotOffered NotOffered

  -- ---- signing in at the provider

  configs_same : (place : ℕ) → config_at place f ≡ config_at place f'
  configs_same place = ap (λ g. config_of (slice_get g place)) s.said.progress

  -- the configuration is the same, so is the login window
  opens_by : (c c' : Option Configuration) → c ≡ c'
      → Keeps p w w' f f' inputs.SignIn inputs.SignIn (opens_window only_place c) (opens_window only_place c')
  opens_by None None e =
      keeps_does p w w' f f' s _ _ _ _ (record { stage = refl; told = refl; own = tt }) refl refl s.said (stands p f f' s)
  opens_by (Some c) (Some c') e =
      keeps_does p w w' f f' s _ _ _ _ (record { stage = refl; told = refl; own = (tt, tt) }) refl refl s.said (inr refl)
  opens_by None (Some c') e = absurd (cc)
  opens_by (Some c) None e = absurd (cc)

  pub sign_in_by : (st : Stage) → f.stage ≡ st
      → Keeps p w w' f f' inputs.SignIn inputs.SignIn (asked_to_sign_in f st) (asked_to_sign_in f' st)
  sign_in_by Mismatch at =
      opens_by (config_at only_place f) (config_at only_place f') (configs_same only_place)
  sign_in_by Reading at = keeps_ignored p w w' f f' s _ _ NotOffered NotOffered
  sign_in_by Listing at = keeps_ignored p w w' f f' s _ _ NotOffered NotOffered
  sign_in_by Gathering at = keeps_ignored p w w' f f' s _ _ NotOffered NotOffered
  sign_in_by Window at = keeps_ignored p w w' f f' s _ _ NotOffered NotOffered
  sign_in_by Choosing at = keeps_ignored p w w' f f' s _ _ NotOffered NotOffered
  sign_in_by Prompting at = keeps_ignored p w w' f f' s _ _ NotOffered NotOffered
  sign_in_by Asserting at = keeps_ignored p w w' f f' s _ _ NotOffered NotOffered
  sign_in_by Ended at = keeps_ignored p w w' f f' s _ _ NotOffered NotOffered

  pub shut_by : (st : Stage) → Keeps p w w' f f' inputs.Shut inputs.Shut (window_shut st) (window_shut st)
  shut_by Window = keeps_fails p w w' f f' s _ _ (plain steps.WindowShut) (plain steps.WindowShut)
  shut_by Reading = keeps_ignored p w w' f f' s _ _ NotOffered NotOffered
  shut_by Listing = keeps_ignored p w w' f f' s _ _ NotOffered NotOffered
  shut_by Gathering = keeps_ignored p w w' f f' s _ _ NotOffered NotOffered
  shut_by Mismatch = keeps_ignored p w w' f f' s _ _ NotOffered NotOffered
  shut_by Choosing = keeps_ignored p w w' f f' s _ _ NotOffered NotOffered
  shut_by Prompting = keeps_ignored p w w' f f' s _ _ NotOffered NotOffered
  shut_by Asserting = keeps_ignored p w w' f f' s _ _ NotOffered NotOffered
  shut_by Ended = keeps_ignored p w w' f f' s _ _ NotOffered NotOffered

-- ---- going on

-- where no token is asked for, going on changes nothing
pub record Still (p : Providers) (o : Outcome) : Type 0 where
  pub stage : o.stage ≡ None
  pub told : filter_map told_effect o.effects ≡ []
  pub own : AllOwn p o.effects

still_goes : (p : Providers) (f : Facts) (waits : Bool) (picked : Option Offered) → IsQuiet (goes_on f waits picked)
    → Still p (goes_on f waits picked)
still_goes p f true picked quiet = record { stage = refl; told = refl; own = (tt, tt) }
still_goes p f false None quiet = record { stage = refl; told = refl; own = tt }
still_goes p f false (Some o) quiet = absurd (cc)

pub still_went : (p : Providers) (f : Facts) (st : Stage) → IsQuiet (went_on f st) → Still p (went_on f st)
still_went p f Prompting quiet = still_goes p f f.waits f.picked quiet
still_went p f Reading quiet = record { stage = refl; told = refl; own = (tt, tt) }
still_went p f Listing quiet = record { stage = refl; told = refl; own = (tt, tt) }
still_went p f Gathering quiet = record { stage = refl; told = refl; own = (tt, tt) }
still_went p f Mismatch quiet = record { stage = refl; told = refl; own = (tt, tt) }
still_went p f Window quiet = record { stage = refl; told = refl; own = (tt, tt) }
still_went p f Choosing quiet = record { stage = refl; told = refl; own = (tt, tt) }
still_went p f Asserting quiet = record { stage = refl; told = refl; own = (tt, tt) }
still_went p f Ended quiet = record { stage = refl; told = refl; own = (tt, tt) }

said_nothing : (w : World) (ign : Bool) (f : Facts) → with_input w ign inputs.GoOn f ≡ f
said_nothing w true f = refl
said_nothing w false f = refl

still_facts : (p : Providers) (w : World) (f : Facts) (o : Outcome) → Still p o → is_open f.stage ≡ true
    → facts_after w f inputs.GoOn o ≡ Some f
still_facts p w f o h opened =
    ap (λ st. at_stage (unwrap_or st f.stage) (with_input w (list_any is_ignored o.effects) inputs.GoOn f)) h.stage
    ∙ ap (at_stage f.stage) (said_nothing w (list_any is_ignored o.effects) f) ∙ open_facts f opened

pub keeps_still : (p : Providers) (w w' : World) (f f' : Facts) → SameFacts p f f' → (o o' : Outcome) → Still p o → Still p o'
    → Keeps p w w' f f' inputs.GoOn inputs.GoOn o o'
keeps_still p w w' f f' s o o' h h' =
    record {
      outcome = record { stage = h.stage ∙ sym h'.stage; told = h.told ∙ sym h'.told; own = h.own };
      after =
          subst (λ g. SameCall p g (facts_after w' f' inputs.GoOn o')) (sym (still_facts p w f o h s.goes_on))
          (subst (SameCall p (Some f)) (sym (still_facts p w' f' o' h' (ap is_open (sym s.stage) ∙ s.goes_on))) s);
    }

-- ---- a metadata reply in one world alone

-- an outcome that providers are not told, and that leaves the call the same as another
pub record Unseen (p : Providers) (w : World) (f : Facts) (i : Input) (o : Outcome) (g : Facts) : Type 0 where
  pub told : filter_map told_effect o.effects ≡ []
  pub stays : o.stage ≡ None
  pub after : SameCall p (facts_after w f i o) (Some g)

unseen_ignored : (p : Providers) (w : World) (f g : Facts) → SameFacts p f g → (i : Input) (why : Why)
    → Unseen p w f i (ignored why) g
unseen_ignored p w f g s i why =
    record { told = refl; stays = refl; after = subst (λ x. SameCall p x (Some g)) (sym (open_facts f s.goes_on)) s }

-- the prompt waits no longer
waits_over : (p : Providers) (f g : Facts) → SameFacts p f g → SameFacts p (record f { waits = false }) g
waits_over p f g s =
    record {
      stage = s.stage;
      goes_on = s.goes_on;
      said = record { options = s.said.options; progress = s.said.progress; known = s.said.known; offered = s.said.offered };
    }

unseen_metadata : (p : Providers) (w : World) (f g : Facts) → SameFacts p f g → (place : ℕ) (raw : List ℕ) (waits : Bool)
    (picked : Option Offered) → Unseen p w f (inputs.Reply place kinds.Metadata raw) (metadata_reply w f waits picked raw) g
unseen_metadata p w f g s place raw false picked = unseen_ignored p w f g s (inputs.Reply place kinds.Metadata raw) NotWaited
unseen_metadata p w f g s place raw true None = unseen_ignored p w f g s (inputs.Reply place kinds.Metadata raw) NotWaited
unseen_metadata p w f g s place raw true (Some o) = record { told = refl; stays = refl; after = stays_so }
  where
    over : Facts
    over = record f { waits = false }

    stays_so : SameCall p (at_stage f.stage over) (Some g)
    stays_so = subst (λ x. SameCall p x (Some g)) (sym (open_facts over s.goes_on)) (waits_over p f g s)

unseen_first : (p : Providers) (w : World) (f g : Facts) → SameFacts p f g → (place : ℕ) (raw : List ℕ)
    → Unseen p w f (inputs.Reply place kinds.Metadata raw) (awaited_reply w f place kinds.Metadata raw) g
unseen_first p w f g s place raw =
    subst (λ o. Unseen p w f (inputs.Reply place kinds.Metadata raw) o g)
    (sym (unawaited_row w f place (provider_at place f.options) _ (no_metadata w f place raw)))
    (unseen_ignored p w f g s (inputs.Reply place kinds.Metadata raw) NotWaited)

pub unseen_reply : (p : Providers) (w : World) (f g : Facts) → SameFacts p f g → (place : ℕ) (raw : List ℕ) (st : Stage)
    → f.stage ≡ st
    → Unseen p w f (inputs.Reply place kinds.Metadata raw) (stage_reply w f st place kinds.Metadata raw) g
unseen_reply p w f g s place raw Prompting at = unseen_metadata p w f g s place raw f.waits (picked_at place f.picked)
unseen_reply p w f g s place raw Reading at = unseen_first p w f g s place raw
unseen_reply p w f g s place raw Listing at = unseen_first p w f g s place raw
unseen_reply p w f g s place raw Gathering at = unseen_first p w f g s place raw
unseen_reply p w f g s place raw Mismatch at = unseen_ignored p w f g s (inputs.Reply place kinds.Metadata raw) NotWaited
unseen_reply p w f g s place raw Window at = unseen_ignored p w f g s (inputs.Reply place kinds.Metadata raw) NotWaited
unseen_reply p w f g s place raw Choosing at = unseen_ignored p w f g s (inputs.Reply place kinds.Metadata raw) NotWaited
unseen_reply p w f g s place raw Asserting at = unseen_ignored p w f g s (inputs.Reply place kinds.Metadata raw) NotWaited
unseen_reply p w f g s place raw Ended at = unseen_ignored p w f g s (inputs.Reply place kinds.Metadata raw) CallEnded
