-- A call stays on its side of a part.
use Rattle.std.proofs.Common.{◌≡◌, ℕ, suc, Bool, true, false, List, [], ◌∷◌, ◌++◌, map, slice_get, Option, Some, None, refl, ap, ◌∙◌}
use Rattle.std.specs.Prelude.{IfSome, option_map, option_and_then, option_to_list, Result as Answer, Ok, Err, ⊤}
use Rattle.std.specs.List.{list_any, AllByRecursion}
use Rattle.url.specs.Parts.{Parts}
use Rattle.fed_origin.specs.declared.options.GetOptions.{GetOptions}
use Rattle.fed_origin.specs.declared.options.Mediation.{Mediation}
use Rattle.fed_origin.specs.declared.options.Mediation.TheVariants.{Silent, Optional, Required}
use Rattle.fed_origin.specs.declared.options.ProviderOptions.{ProviderOptions}
use Rattle.fed_origin.specs.declared.origin.Origin.{Origin}
use Rattle.fed_origin.specs.declared.stage.Endpoint.{Endpoint}
use Rattle.fed_origin.specs.declared.stage.ReplyKind.{ReplyKind}
use Rattle.fed_origin.specs.declared.stage.ReplyKind.TheVariants as kinds
use Rattle.fed_origin.specs.declared.status.Triple.{Triple}
use Rattle.fed_origin.specs.WebUrl.{host_of, origin_of}
use Rattle.fed_suffix.specs.Rule.{RuleSet}
use Rattle.fed_provider.specs.declared.config.Config.{Config}
use Rattle.fed_provider.specs.declared.first_replies.FirstReplies.{FirstReplies}
use Rattle.fed_provider.specs.declared.first_replies.Heard.{Heard}
use Rattle.fed_provider.specs.declared.first_replies.Heard.TheVariants as heards
use Rattle.fed_provider.specs.declared.step.ProviderStep.{ProviderStep}
use Rattle.fed_provider.specs.declared.wellknown.WellKnown.{WellKnown}
use Rattle.fed_provider.specs.Config.{ConfigOf}
use Rattle.fed_provider.specs.FirstReplies.{by_agreement, wellknown_read, wellknown_heard, config_heard, reply_heard}
use Rattle.fed_provider.specs.Laws.{IsOwn}
use Rattle.fed_provider.specs.WellKnown.{agrees}
use Rattle.fed_provider.proofs.promises.EndpointsAreOwn.{endpoints_are_own_lem}
use Rattle.fed_accounts.specs.declared.account.Account.{Account}
use Rattle.fed_accounts.specs.declared.step.AccountsStep.{AccountsStep}
use Rattle.fed_accounts.specs.Connection.{Reselect}
use Rattle.fed_status.specs.Flags.{has_flag}
use Rattle.fed_status.specs.Shared.{World}
use Rattle.fed_status.proofs.lists.Same.{same_origin_is}
use Rattle.fed_consent.specs.declared.table.failure.Failure.{Failure}
use Rattle.fed_consent.specs.declared.table.input.Input.{Input}
use Rattle.fed_consent.specs.declared.table.input.Input.TheVariants as inputs
use Rattle.fed_consent.specs.Consent.{Candidate, candidates}
use Rattle.fed_call.specs.declared.progress.Progress.{Progress}
use Rattle.fed_call.specs.declared.progress.Progress.TheVariants as progress_is
use Rattle.fed_call.specs.Accounts.{Offered, Shortlist, accounts_of, offered_by, offered_of, all_offered, reselected_of, reselected}
use Rattle.fed_call.specs.Facts as get
use Rattle.fed_call.specs.Facts.{Facts, Conclusion, Awaits, NoneLeft, Reselects, NoneSilent, Offers, Prompts, provider_at, progress_at}
use Rattle.fed_call.specs.Facts.{shortlist, shortlists, none_left, by_number, unless_silent, by_offered, by_awaited, conclusion_of, came_at}
use Rattle.fed_call.specs.Facts.{with_progress, is_single, is_named, found_offered}
use Rattle.fed_call.specs.Progress.{Came, Unawaited, Refused, Waits, Both, NoneFits, Fit, came, came_heard, came_read, came_listing}
use Rattle.fed_call.specs.Progress.{is_awaited}
use Rattle.fed_disconnect.specs.Facts as disconnect
use Rattle.fed_disconnect.specs.Facts.{DisconnectFacts}
use Rattle.fed_trace.specs.Call.{Known, OfGet, OfDisconnect, with_input}
use Rattle.fed_trace.specs.Known.{with_said}
use Rattle.fed_slice.specs.Part.{Part, has}
use Rattle.fed_slice_laws.specs.Side.{ConfigSide, ProviderSide, ProgressSide, OfferedSide, GetSide, DisconnectSide, KnownSide}
use Rattle.fed_slice_laws.proofs.lists.Keep.{all_at, all_set, all_append, all_find}

-- ---- configurations

-- a URL of the same origin is on the same side
own_side : (p : Part) (side : Bool) (config url : Parts) → IsOwn config url → has p (host_of config) ≡ side → has p (host_of url) ≡ side
own_side p side config url own h = ap (λ o. has p o.host) (same_origin_is (origin_of url) (origin_of config) own) ∙ h

-- A configuration is on the side of its URL: each endpoint is of the URL's own origin. So it is where a well-known file names the
-- endpoints, since the configuration that a call goes on with is the one that was read.
read_side : (p : Part) (side : Bool) (raw : List ℕ) (url : Parts) (config : Config) → ConfigOf raw url ≡ Ok config
    → has p (host_of url) ≡ side → ConfigSide p side config
read_side p side raw url config is h =
    let own = endpoints_are_own_lem raw url config is in
    record {
      accounts = own_side p side url config.accounts own.accounts h;
      assertion = own_side p side url config.assertion own.assertion h;
      disconnect = go config.disconnect own.disconnect;
    }
  where
    go : (o : Option Parts) → IfSome o (IsOwn url) → IfSome o (λ to. has p (host_of to) ≡ side)
    go None own = tt
    go (Some to) own = own_side p side url to own h

-- ---- replies

-- a configuration that a reply brings is on the side
abbrev pub HeardSide : Part → Bool → Heard → Type 0
HeardSide p side (heards.Refused step) = ⊤
HeardSide p side (heards.Waits replies) = IfSome replies.config (ConfigSide p side)
HeardSide p side (heards.Both config) = ConfigSide p side config
HeardSide p side (heards.NotWaited replies) = IfSome replies.config (ConfigSide p side)

abbrev pub CameSide : Part → Bool → Came → Type 0
CameSide p side (Waits replies) = IfSome replies.config (ConfigSide p side)
CameSide p side (Both config) = ConfigSide p side config
CameSide p side (Fit config accounts) = ConfigSide p side config
CameSide p side _ = ⊤

module _ (p : Part) (side : Bool) where
  agreement_side : (config : Config) → ConfigSide p side config → (other : Option Endpoint) → HeardSide p side (by_agreement config other)
  agreement_side config h None = h
  agreement_side config h (Some endpoint) = tt

  wellknown_side : (file : Option WellKnown) (config : Option Config) → IfSome config (ConfigSide p side)
      → (read : Answer WellKnown ProviderStep) → HeardSide p side (wellknown_heard file config read)
  wellknown_side (Some file) config h read = h
  wellknown_side None config h (Err step) = tt
  wellknown_side None None h (Ok file) = tt
  wellknown_side None (Some config) h (Ok file) = agreement_side config h (agrees file config)

  config_side : (file : Option WellKnown) (config : Option Config) → IfSome config (ConfigSide p side)
      → (read : Answer Config ProviderStep) → ((c : Config) → read ≡ Ok c → ConfigSide p side c)
      → HeardSide p side (config_heard file config read)
  config_side file (Some config) h read own = h
  config_side file None h (Err step) own = tt
  config_side None None h (Ok config) own = own config refl
  config_side (Some file) None h (Ok config) own = agreement_side config (own config refl) (agrees file config)

  pub heard_side : (rules : RuleSet) (replies : FirstReplies) (url : Parts) → IfSome replies.config (ConfigSide p side)
      → has p (host_of url) ≡ side → (kind : ReplyKind) (raw : List ℕ) → HeardSide p side (reply_heard rules replies url kind raw)
  heard_side rules replies url h there kinds.WellKnown raw =
      wellknown_side replies.wellknown replies.config h (wellknown_read rules url raw)
  heard_side rules replies url h there kinds.Config raw =
      config_side replies.wellknown replies.config h (ConfigOf raw url) (λ c is. read_side p side raw url c is there)
  heard_side rules replies url h there kinds.Accounts raw = h
  heard_side rules replies url h there kinds.Metadata raw = h
  heard_side rules replies url h there kinds.Assertion raw = h
  heard_side rules replies url h there kinds.Disconnect raw = h

  came_heard_side : (heard : Heard) → HeardSide p side heard → CameSide p side (came_heard heard)
  came_heard_side (heards.Refused step) h = tt
  came_heard_side (heards.Waits replies) h = h
  came_heard_side (heards.Both config) h = h
  came_heard_side (heards.NotWaited replies) h = tt

  listing_side : (config : Config) → ConfigSide p side config → (q : ProviderOptions) (kind : ReplyKind) (raw : List ℕ)
      → CameSide p side (came_listing config q kind raw)
  listing_side config h q kinds.Accounts raw = by (accounts_of raw q)
    where
      by : (read : Answer (List Account) AccountsStep) → CameSide p side (came_read config read)
      by (Err step) = tt
      by (Ok accounts) = h
  listing_side config h q kinds.WellKnown raw = tt
  listing_side config h q kinds.Config raw = tt
  listing_side config h q kinds.Metadata raw = tt
  listing_side config h q kinds.Assertion raw = tt
  listing_side config h q kinds.Disconnect raw = tt

  came_side : (rules : RuleSet) (progress : Option Progress) → IfSome progress (ProgressSide p side) → (q : Option ProviderOptions)
      → IfSome q (ProviderSide p side) → (kind : ReplyKind) (raw : List ℕ) → CameSide p side (came rules progress q kind raw)
  came_side rules None h q k kind raw = tt
  came_side rules (Some g) h None k kind raw = tt
  came_side rules (Some (progress_is.Reading replies)) h (Some q) k kind raw =
      came_heard_side (reply_heard rules replies q.config kind raw) (heard_side rules replies q.config h k kind raw)
  came_side rules (Some (progress_is.Listing config)) h (Some q) k kind raw = listing_side config h q kind raw
  came_side rules (Some (progress_is.Listed config accounts)) h (Some q) k kind raw = tt
  came_side rules (Some (progress_is.Dropped failure)) h (Some q) k kind raw = tt

  -- what a reply for a get comes to
  pub came_at_side : (w : World) (f : Facts) → GetSide p side f → (place : ℕ) (kind : ReplyKind) (raw : List ℕ)
      → CameSide p side (came_at w f place kind raw)
  came_at_side w f h place kind raw =
      came_side w.rules (progress_at place f) (all_at (ProgressSide p side) f.progress h.progress place)
      (provider_at place f.options) (all_at (ProviderSide p side) f.options.providers h.providers place) kind raw

-- ---- what a get comes to once all providers are settled

-- the accounts that it names are of providers on the side
abbrev pub ConclusionSide : Part → Bool → Conclusion → Type 0
ConclusionSide p side (Reselects offered) = OfferedSide p side offered
ConclusionSide p side (Offers offered) = AllByRecursion (OfferedSide p side) offered
ConclusionSide p side (Prompts offered) = OfferedSide p side offered
ConclusionSide p side _ = ⊤

record ShortlistSide (p : Part) (side : Bool) (list : Shortlist) : Type 0 where
  provider : ProviderSide p side list.options
  config : ConfigSide p side list.config

module _ (p : Part) (side : Bool) where
  by_list : (list : Shortlist) → ShortlistSide p side list → (c : Candidate) → OfferedSide p side (offered_by list c)
  by_list list h c = record { provider = h.provider; config = h.config }

  list_side : (list : Shortlist) → ShortlistSide p side list → (cs : List Candidate)
      → AllByRecursion (OfferedSide p side) (map (offered_by list) cs)
  list_side list h [] = tt
  list_side list h (c ∷ cs) = (by_list list h c, list_side list h cs)

  lists_side : (lists : List Shortlist) → AllByRecursion (ShortlistSide p side) lists
      → AllByRecursion (OfferedSide p side) (all_offered lists)
  lists_side [] h = tt
  lists_side (list ∷ lists) h =
      all_append (OfferedSide p side) (offered_of list) (all_offered lists) (list_side list h.0 (candidates list.offer))
      (lists_side lists h.1)

  account_side : (list : Shortlist) → ShortlistSide p side list → (a : Option Account)
      → IfSome (option_map (λ account. offered_by list (record { account = account; connected = true })) a) (OfferedSide p side)
  account_side list h None = tt
  account_side list h (Some account) = by_list list h (record { account = account; connected = true })

  at_list : (n : ℕ) (list : Option Shortlist) → IfSome list (ShortlistSide p side)
      → IfSome (option_and_then (reselected_of n) list) (OfferedSide p side)
  at_list n None h = tt
  at_list n (Some list) h = account_side list h (slice_get list.offer.accounts n)

  reselected_side : (m : Mediation) (flag : Bool) (lists : List Shortlist) → AllByRecursion (ShortlistSide p side) lists
      → IfSome (reselected m flag lists) (OfferedSide p side)
  reselected_side m flag lists h = go (Reselect (map (λ list. list.offer) lists) flag m)
    where
      go : (o : Option (ℕ × ℕ))
          → IfSome (option_and_then (λ places. option_and_then (reselected_of places.1) (slice_get lists places.0)) o) (OfferedSide p side)
      go None = tt
      go (Some places) = at_list places.1 (slice_get lists places.0) (all_at (ShortlistSide p side) lists h places.0)

  shortlists_side : (kept : List Triple) (page : Origin) (n : ℕ) (qs : List ProviderOptions) → AllByRecursion (ProviderSide p side) qs
      → (gs : List Progress) → AllByRecursion (ProgressSide p side) gs
      → AllByRecursion (ShortlistSide p side) (shortlists kept page n qs gs)
  shortlists_side kept page n [] h gs k = tt
  shortlists_side kept page n (q ∷ qs) h [] k = tt
  shortlists_side kept page n (q ∷ qs) h (g ∷ gs) k = go g k.0 (shortlists_side kept page (suc n) qs h.1 gs k.1)
    where
      go : (g : Progress) → ProgressSide p side g → AllByRecursion (ShortlistSide p side) (shortlists kept page (suc n) qs gs)
          → AllByRecursion (ShortlistSide p side) (option_to_list (shortlist kept page n q g) ++ shortlists kept page (suc n) qs gs)
      go (progress_is.Listed config accounts) own rest = (record { provider = h.0; config = own }, rest)
      go (progress_is.Reading replies) own rest = rest
      go (progress_is.Listing config) own rest = rest
      go (progress_is.Dropped failure) own rest = rest

  number_side : (first : Offered) → OfferedSide p side first → (more : List Offered) → AllByRecursion (OfferedSide p side) more
      → ConclusionSide p side (by_number first more)
  number_side first h [] k = h
  number_side first h (second ∷ more) k = (h, k)

  silent_side : (m : Mediation) (first : Offered) → OfferedSide p side first → (more : List Offered)
      → AllByRecursion (OfferedSide p side) more → ConclusionSide p side (unless_silent m first more)
  silent_side Silent first h more k = tt
  silent_side Optional first h more k = number_side first h more k
  silent_side Required first h more k = number_side first h more k

  none_side : (gs : List Progress) → ConclusionSide p side (none_left gs)
  none_side [] = tt
  none_side (progress_is.Dropped failure ∷ gs) = tt
  none_side (progress_is.Reading replies ∷ gs) = tt
  none_side (progress_is.Listing config ∷ gs) = tt
  none_side (progress_is.Listed config accounts ∷ gs) = tt

  all_side : (m : Mediation) (gs : List Progress) (again : Option Offered) → IfSome again (OfferedSide p side) → (all : List Offered)
      → AllByRecursion (OfferedSide p side) all → ConclusionSide p side (by_offered m gs again all)
  all_side m gs again h [] k = none_side gs
  all_side m gs (Some one) h (first ∷ more) k = h
  all_side m gs None h (first ∷ more) k = silent_side m first k.0 more k.1

  pub conclusion_side : (w : World) (page : Origin) (options : GetOptions) (gs : List Progress)
      → AllByRecursion (ProviderSide p side) options.providers → AllByRecursion (ProgressSide p side) gs
      → ConclusionSide p side (conclusion_of w page options gs)
  conclusion_side w page options gs h k = go (list_any is_awaited gs)
    where
      go : (awaited : Bool) → ConclusionSide p side (by_awaited w page options gs awaited)
      go true = tt
      go false =
          let lists = shortlists w.kept page 0 options.providers gs in
          let all = shortlists_side w.kept page 0 options.providers h gs k in
          all_side options.mediation gs (reselected options.mediation (has_flag w.flags page) lists)
          (reselected_side options.mediation (has_flag w.flags page) lists all) (all_offered lists) (lists_side lists all)

-- ---- a get after an input

module _ (p : Part) (side : Bool) where
  picked_side : (o : Offered) → OfferedSide p side o → (f : Facts) → GetSide p side f → GetSide p side (get.with_picked o f)
  picked_side o k f h = record { page = h.page; providers = h.providers; progress = tt; offered = tt; picked = k }

  concluded_side : (c : Conclusion) → ConclusionSide p side c → (f : Facts) → GetSide p side f → GetSide p side (get.with_conclusion c f)
  concluded_side Awaits k f h = h
  concluded_side (NoneLeft failure) k f h = h
  concluded_side (Reselects o) k f h =
      record { page = h.page; providers = h.providers; progress = tt; offered = h.offered; picked = k }
  concluded_side NoneSilent k f h = h
  concluded_side (Offers os) k f h =
      record { page = h.page; providers = h.providers; progress = tt; offered = k; picked = h.picked }
  concluded_side (Prompts o) k f h = picked_side o k f h

  pub progress_side : (place : ℕ) (g : Progress) → ProgressSide p side g → (f : Facts) → GetSide p side f
      → GetSide p side (with_progress place g f)
  progress_side place g k f h =
      record {
        page = h.page;
        providers = h.providers;
        progress = all_set (ProgressSide p side) f.progress place g h.progress k;
        offered = h.offered;
        picked = h.picked;
      }

  settled_side : (w : World) (f : Facts) → GetSide p side f → GetSide p side (get.with_settled w f)
  settled_side w f h =
      concluded_side (conclusion_of w f.origin f.options f.progress)
      (conclusion_side p side w f.origin f.options f.progress h.providers h.progress) f h

  after_progress : (w : World) (place : ℕ) (g : Progress) → ProgressSide p side g → (f : Facts) → GetSide p side f
      → GetSide p side (get.with_settled w (with_progress place g f))
  after_progress w place g k f h = settled_side w (with_progress place g f) (progress_side place g k f h)

  after_none : (w : World) (place : ℕ) (failure : Failure) (single : Bool) (f : Facts) → GetSide p side f
      → GetSide p side (get.with_none_fitting w place failure single f)
  after_none w place failure true f h = h
  after_none w place failure false f h = after_progress w place (progress_is.Dropped failure) tt f h

  after_came : (w : World) (place : ℕ) (c : Came) → CameSide p side c → (f : Facts) → GetSide p side f
      → GetSide p side (get.with_came w place c f)
  after_came w place Unawaited k f h = h
  after_came w place (Refused failure) k f h = after_progress w place (progress_is.Dropped failure) tt f h
  after_came w place (Waits replies) k f h = progress_side place (progress_is.Reading replies) k f h
  after_came w place (Both config) k f h = progress_side place (progress_is.Listing config) k f h
  after_came w place (NoneFits failure) k f h = after_none w place failure (is_single f.options) f h
  after_came w place (Fit config accounts) k f h = after_progress w place (progress_is.Listed config accounts) k f h

  reply_side : (w : World) (place : ℕ) (kind : ReplyKind) (raw : List ℕ) (f : Facts) → GetSide p side f
      → GetSide p side (get.with_reply w place kind raw f)
  reply_side w place kinds.WellKnown raw f h =
      after_came w place (came_at w f place kinds.WellKnown raw) (came_at_side p side w f h place kinds.WellKnown raw) f h
  reply_side w place kinds.Config raw f h =
      after_came w place (came_at w f place kinds.Config raw) (came_at_side p side w f h place kinds.Config raw) f h
  reply_side w place kinds.Accounts raw f h =
      after_came w place (came_at w f place kinds.Accounts raw) (came_at_side p side w f h place kinds.Accounts raw) f h
  reply_side w place kinds.Metadata raw f h =
      record { page = h.page; providers = h.providers; progress = h.progress; offered = h.offered; picked = h.picked }
  reply_side w place kinds.Assertion raw f h = h
  reply_side w place kinds.Disconnect raw f h = h

  choice_side : (o : Option Offered) → IfSome o (OfferedSide p side) → (f : Facts) → GetSide p side f → GetSide p side (get.with_choice o f)
  choice_side None k f h = h
  choice_side (Some o) k f h = picked_side o k f h

  pub found_side : (place : ℕ) (id : List ℕ) (f : Facts) → GetSide p side f → IfSome (found_offered place id f) (OfferedSide p side)
  found_side place id f h = all_find (OfferedSide p side) (is_named place id) f.offered h.offered

  get_side : (w : World) (ignored : Bool) (input : Input) (f : Facts) → GetSide p side f
      → GetSide p side (get.with_input w ignored input f)
  get_side w false (inputs.Reply place kind raw) f h = reply_side w place kind raw f h
  get_side w false (inputs.Choose place id) f h = choice_side (found_offered place id f) (found_side place id f h) f h
  get_side w false inputs.GoOn f h = h
  get_side w false inputs.Cancel f h = h
  get_side w false inputs.SignIn f h = h
  get_side w false inputs.Shut f h = h
  get_side w false inputs.Resume f h = h
  get_side w false inputs.Abort f h = h
  get_side w true input f h = h

  -- ---- a disconnect after an input

  taken_side : (heard : Heard) → HeardSide p side heard → IfSome (disconnect.taken heard).config (ConfigSide p side)
  taken_side (heards.Refused step) h = tt
  taken_side (heards.Waits replies) h = h
  taken_side (heards.Both config) h = h
  taken_side (heards.NotWaited replies) h = h

  disconnect_side : (w : World) (ignored : Bool) (input : Input) (f : DisconnectFacts) → DisconnectSide p side f
      → DisconnectSide p side (disconnect.with_input w ignored input f)
  disconnect_side w true input f h = h
  disconnect_side w false (inputs.Reply place kind raw) f h =
      record {
        page = h.page;
        provider = h.provider;
        config = taken_side (reply_heard w.rules f.replies f.options.config kind raw)
            (heard_side p side w.rules f.replies f.options.config h.config h.provider kind raw);
      }
  disconnect_side w false (inputs.Choose place account) f h = h
  disconnect_side w false inputs.GoOn f h = h
  disconnect_side w false inputs.Cancel f h = h
  disconnect_side w false inputs.SignIn f h = h
  disconnect_side w false inputs.Shut f h = h
  disconnect_side w false inputs.Resume f h = h
  disconnect_side w false inputs.Abort f h = h

  -- ---- a call of either kind

  input_side : (w : World) (ignored : Bool) (input : Input) (k : Known) → KnownSide p side k
      → KnownSide p side (with_input w ignored input k)
  input_side w ignored input (OfGet f) h = get_side w ignored input f h
  input_side w ignored input (OfDisconnect f) h = disconnect_side w ignored input f h

  pub said_side : (w : World) (ignored : Bool) (input : Option Input) (k : Known) → KnownSide p side k
      → KnownSide p side (with_said w ignored input k)
  said_side w ignored None k h = h
  said_side w ignored (Some input) k h = input_side w ignored input k h
