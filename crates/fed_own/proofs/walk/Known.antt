-- What is known of a call is good.
use Rattle.std.proofs.Common.{◌≡◌, ℕ, zero, suc, ◌+◌, ◌≤◌, Bool, true, false, cond, nat_eq, List, [], ◌∷◌, ◌++◌, length, map, slice_get}
use Rattle.std.proofs.Common.{Option, Some, None}
use Rattle.std.proofs.Common.{refl, sym, subst, arith}
use Rattle.std.proofs.lemmas.Bool.{eqb-true}
use Rattle.std.specs.Prelude.{⊤, option_and_then, option_map, option_to_list, slice_set, Result as Answer, Ok, Err}
use Rattle.std.specs.List.{AllByRecursion, find, list_any, zip}
use Rattle.std.specs.Option.{option_or}
use Rattle.url.specs.Parts.{Parts}
use Rattle.fed_origin.specs.declared.options.GetOptions.{GetOptions}
use Rattle.fed_origin.specs.declared.options.Mediation.{Mediation}
use Rattle.fed_origin.specs.declared.options.Mediation.TheVariants.{Silent, Optional, Required}
use Rattle.fed_origin.specs.declared.options.ProviderOptions.{ProviderOptions}
use Rattle.fed_origin.specs.declared.origin.Origin.{Origin}
use Rattle.fed_origin.specs.declared.stage.ReplyKind.{ReplyKind}
use Rattle.fed_origin.specs.declared.stage.ReplyKind.TheVariants as kinds
use Rattle.fed_origin.specs.declared.stage.Stage.{Stage}
use Rattle.fed_origin.specs.declared.stage.Stage.TheVariants as stages
use Rattle.fed_origin.specs.declared.status.Triple.{Triple}
use Rattle.fed_suffix.specs.Rule.{RuleSet}
use Rattle.fed_provider.specs.declared.config.Config.{Config}
use Rattle.fed_provider.specs.declared.first_replies.Heard.{Heard}
use Rattle.fed_provider.specs.declared.first_replies.Heard.TheVariants as heard
use Rattle.fed_provider.specs.FirstReplies.{reply_heard}
use Rattle.fed_accounts.specs.declared.account.Account.{Account}
use Rattle.fed_accounts.specs.declared.step.AccountsStep.{AccountsStep}
use Rattle.fed_accounts.specs.Connection.{Reselect}
use Rattle.fed_accounts.specs.Read.{AccountsOf}
use Rattle.fed_consent.specs.declared.table.failure.Failure.{Failure}
use Rattle.fed_consent.specs.declared.table.input.Input.{Input}
use Rattle.fed_consent.specs.declared.table.input.Input.TheVariants as inputs
use Rattle.fed_consent.specs.Consent.{candidate_by}
use Rattle.fed_status.specs.Flags.{has_flag}
use Rattle.fed_status.specs.Shared.{World}
use Rattle.fed_call.specs.declared.progress.Progress.{Progress}
use Rattle.fed_call.specs.declared.progress.Progress.TheVariants as progress_is
use Rattle.fed_call.specs.Accounts.{Offered, Shortlist, accounts_of, all_offered, offered_by, offered_of, provider_at, reselected}
use Rattle.fed_call.specs.Accounts.{reselected_of}
use Rattle.fed_call.specs.Facts.{Facts, Conclusion, Awaits, NoneLeft, Reselects, NoneSilent, Offers, Prompts, by_awaited, by_number}
use Rattle.fed_call.specs.Facts.{by_offered, came_at, conclusion_of, found_offered, is_named, is_single, none_left}
use Rattle.fed_call.specs.Facts.{progress_at, shortlist}
use Rattle.fed_call.specs.Facts.{shortlists, unless_silent, with_came, with_choice, with_conclusion, with_none_fitting, with_progress}
use Rattle.fed_call.specs.Facts.{with_reply, with_settled}
use Rattle.fed_call.specs.Facts as get
use Rattle.fed_call.specs.Progress.{Came, Unawaited, Refused, Waits, Both, NoneFits, Fit, Closed, came, came_heard, came_listing, came_read}
use Rattle.fed_call.specs.Progress.{came_to, first_progress, is_awaited, opened, opening}
use Rattle.fed_disconnect.specs.Facts.{DisconnectFacts, taken}
use Rattle.fed_disconnect.specs.Facts as disconnect
use Rattle.fed_script.specs.declared.event.Header.{Header}
use Rattle.fed_trace.specs.Begun.{Begun, CallOptions, ToDisconnect, ToGet}
use Rattle.fed_trace.specs.Call.{Known, OfDisconnect, OfGet, fresh, known_first}
use Rattle.fed_trace.specs.Call as calls
use Rattle.fed_trace.specs.Effect.{Effect, Begin, Closed as PageCloses, Cookie, Dropped, Flag, Ignored, Kept, Login, Move, Page, Result}
use Rattle.fed_trace.specs.Effect.{Sent, Shown, Time}
use Rattle.fed_trace.specs.Effect.{Window, begins, is_ignored, last_of}
use Rattle.fed_trace.specs.Known.{input_to, known_at, known_by, known_in, with_said, world_at}
use Rattle.fed_trace.specs.Trace.{Row, Trace, stage_at}
use Rattle.fed_own.proofs.json.Values.{IfSo}
use Rattle.fed_own.proofs.plain.Accounts.{accounts_good, hinted_good}
use Rattle.fed_own.proofs.plain.Files.{GoodHeard, heard_good}
use Rattle.fed_own.proofs.plain.Good.{GoodAccount, GoodConfig, GoodOptions, GoodReplies}
use Rattle.fed_own.proofs.plain.Results.{IfOk, all_both, some_mapped, some_then, steps_then}
use Rattle.fed_own.proofs.walk.Does.{GoodBegun, GoodCall, GoodDisconnectOptions, GoodGet, IsSmall, GoodEffect, IsPage}

-- ---- providers and accounts

abbrev pub GoodProgress : Progress → Type 0
GoodProgress (progress_is.Reading replies) = GoodReplies replies
GoodProgress (progress_is.Listing config) = GoodConfig config
GoodProgress (progress_is.Listed config accounts) = GoodConfig config × AllByRecursion GoodAccount accounts
GoodProgress (progress_is.Dropped failure) = ⊤

pub record GoodOffered (o : Offered) : Type 0 where
  pub place : IsSmall o.place
  pub options : GoodOptions o.options
  pub config : GoodConfig o.config
  pub account : GoodAccount o.candidate.account

record GoodList (list : Shortlist) : Type 0 where
  place : IsSmall list.offer.provider
  options : GoodOptions list.options
  config : GoodConfig list.config
  accounts : AllByRecursion GoodAccount list.offer.accounts

pub got : {A : Type 0} (P : A → Type 0) (xs : List A) (n : ℕ) → AllByRecursion P xs → IfSo P (slice_get xs n)
got P [] n h = tt
got P (x ∷ xs) zero h = h.0
got P (x ∷ xs) (suc n) h = got P xs n h.1

put : {A : Type 0} (P : A → Type 0) (xs : List A) (n : ℕ) (a : A) → AllByRecursion P xs → P a → AllByRecursion P (slice_set xs n a)
put P [] n a h p = tt
put P (x ∷ xs) zero a h p = (p, h.1)
put P (x ∷ xs) (suc n) a h p = (h.0, put P xs n a h.1 p)

lists_good : (kept : List Triple) (page : Origin) (n : ℕ) (qs : List ProviderOptions) (gs : List Progress) → n + length qs ≤ 10
    → AllByRecursion GoodOptions qs → AllByRecursion GoodProgress gs → AllByRecursion GoodList (shortlists kept page n qs gs)
lists_good kept page n [] gs few a b = tt
lists_good kept page n (q ∷ qs) [] few a b = tt
lists_good kept page n (q ∷ qs) (g ∷ gs) few a b = go g b.0 (lists_good kept page (suc n) qs gs (omega (arith, few)) a.1 b.1)
  where
    go : (g : Progress) → GoodProgress g → AllByRecursion GoodList (shortlists kept page (suc n) qs gs)
        → AllByRecursion GoodList (option_to_list (shortlist kept page n q g) ++ shortlists kept page (suc n) qs gs)
    go (progress_is.Listed c accounts) h rest = (record { place = omega (arith, few); options = a.0; config = h.0; accounts = h.1 }, rest)
    go (progress_is.Reading replies) h rest = rest
    go (progress_is.Listing c) h rest = rest
    go (progress_is.Dropped failure) h rest = rest

entries_good : (list : Shortlist) → GoodList list → (accounts : List Account) (kept : List Bool) → AllByRecursion GoodAccount accounts
    → AllByRecursion GoodOffered (map (offered_by list) (map (candidate_by list.offer.client) (zip accounts kept)))
entries_good list l [] kept h = tt
entries_good list l (a ∷ accounts) [] h = tt
entries_good list l (a ∷ accounts) (k ∷ kept) h =
    (record { place = l.place; options = l.options; config = l.config; account = h.0 }, entries_good list l accounts kept h.1)

all_good : (lists : List Shortlist) → AllByRecursion GoodList lists → AllByRecursion GoodOffered (all_offered lists)
all_good [] h = tt
all_good (list ∷ lists) h =
    all_both GoodOffered (offered_of list) (all_offered lists) (entries_good list h.0 list.offer.accounts list.offer.kept h.0.accounts)
    (all_good lists h.1)

-- the account that is reselected
at_good : (n : ℕ) (list : Shortlist) → GoodList list → IfSo GoodOffered (reselected_of n list)
at_good n list l =
    some_mapped GoodAccount GoodOffered _ (slice_get list.offer.accounts n) (got GoodAccount list.offer.accounts n l.accounts)
    (λ account a. record { place = l.place; options = l.options; config = l.config; account = a })

again_good : (mediation : Mediation) (flag : Bool) (lists : List Shortlist) → AllByRecursion GoodList lists
    → IfSo GoodOffered (reselected mediation flag lists)
again_good mediation flag lists h = go (Reselect (map (λ list. list.offer) lists) flag mediation)
  where
    go : (places : Option (ℕ × ℕ))
        → IfSo GoodOffered (option_and_then (λ p. option_and_then (reselected_of p.1) (slice_get lists p.0)) places)
    go None = tt
    go (Some places) =
        some_then GoodList GoodOffered (reselected_of places.1) (slice_get lists places.0) (got GoodList lists places.0 h)
        (λ list l. at_good places.1 list l)

-- ---- what a call comes to

abbrev pub GoodConclusion : Conclusion → Type 0
GoodConclusion Awaits = ⊤
GoodConclusion (NoneLeft failure) = ⊤
GoodConclusion (Reselects o) = GoodOffered o
GoodConclusion NoneSilent = ⊤
GoodConclusion (Offers os) = AllByRecursion GoodOffered os
GoodConclusion (Prompts o) = GoodOffered o

number_good : (first : Offered) (more : List Offered) → AllByRecursion GoodOffered (first ∷ more) → GoodConclusion (by_number first more)
number_good first [] h = h.0
number_good first (second ∷ more) h = h

silent_good : (mediation : Mediation) (first : Offered) (more : List Offered) → AllByRecursion GoodOffered (first ∷ more)
    → GoodConclusion (unless_silent mediation first more)
silent_good Silent first more h = tt
silent_good Optional first more h = number_good first more h
silent_good Required first more h = number_good first more h

left_good : (progress : List Progress) → GoodConclusion (none_left progress)
left_good [] = tt
left_good (progress_is.Reading replies ∷ gs) = tt
left_good (progress_is.Listing config ∷ gs) = tt
left_good (progress_is.Listed config accounts ∷ gs) = tt
left_good (progress_is.Dropped failure ∷ gs) = tt

offers_good : (mediation : Mediation) (progress : List Progress) (again : Option Offered) (all : List Offered) → IfSo GoodOffered again
    → AllByRecursion GoodOffered all → GoodConclusion (by_offered mediation progress again all)
offers_good mediation progress again [] one h = left_good progress
offers_good mediation progress None (first ∷ more) one h = silent_good mediation first more h
offers_good mediation progress (Some o) (first ∷ more) one h = one

pub concluded_good : (world : World) (page : Origin) (options : GetOptions) (progress : List Progress)
    → GoodGet options.providers → AllByRecursion GoodProgress progress
    → GoodConclusion (conclusion_of world page options progress)
concluded_good world page options progress g b = go (list_any is_awaited progress)
  where
    lists : List Shortlist
    lists = shortlists world.kept page 0 options.providers progress

    good : AllByRecursion GoodList lists
    good = lists_good world.kept page 0 options.providers progress (let few = g.few in omega (arith, few)) g.all b

    go : (awaited : Bool) → GoodConclusion (by_awaited world page options progress awaited)
    go true = tt
    go false =
        offers_good options.mediation progress (reselected options.mediation (has_flag world.flags page) lists) (all_offered lists)
        (again_good options.mediation (has_flag world.flags page) lists good) (all_good lists good)

-- ---- what is known of a get

pub record GoodFacts (f : Facts) : Type 0 where
  pub page : IsSmall f.page
  pub origin : IsPage f.origin
  pub options : GoodGet f.options.providers
  pub progress : AllByRecursion GoodProgress f.progress
  pub offered : AllByRecursion GoodOffered f.offered
  pub picked : IfSo GoodOffered f.picked

conclusion_facts : (c : Conclusion) (f : Facts) → GoodConclusion c → GoodFacts f → GoodFacts (with_conclusion c f)
conclusion_facts Awaits f g h = h
conclusion_facts (NoneLeft failure) f g h = h
conclusion_facts (Reselects o) f g h =
    record { page = h.page; origin = h.origin; options = h.options; progress = tt; offered = h.offered; picked = g }
conclusion_facts NoneSilent f g h = h
conclusion_facts (Offers os) f g h = record {
  page = h.page;
  origin = h.origin;
  options = h.options;
  progress = tt;
  offered = g;
  picked = h.picked;
}
conclusion_facts (Prompts o) f g h = record {
  page = h.page;
  origin = h.origin;
  options = h.options;
  progress = tt;
  offered = tt;
  picked = g;
}

pub progress_facts : (place : ℕ) (progress : Progress) (f : Facts) → GoodProgress progress → GoodFacts f
    → GoodFacts (with_progress place progress f)
progress_facts place progress f g h =
    record {
      page = h.page;
      origin = h.origin;
      options = h.options;
      progress = put GoodProgress f.progress place progress h.progress g;
      offered = h.offered;
      picked = h.picked;
    }

settled_facts : (world : World) (place : ℕ) (progress : Progress) (f : Facts) → GoodProgress progress → GoodFacts f
    → GoodFacts (with_settled world (with_progress place progress f))
settled_facts world place progress f g h =
    let now = progress_facts place progress f g h in
    conclusion_facts (conclusion_of world f.origin f.options (with_progress place progress f).progress) (with_progress place progress f)
    (concluded_good world f.origin f.options (with_progress place progress f).progress h.options now.progress) now

fitting_facts : (world : World) (place : ℕ) (failure : Failure) (single : Bool) (f : Facts) → GoodFacts f
    → GoodFacts (with_none_fitting world place failure single f)
fitting_facts world place failure true f h = h
fitting_facts world place failure false f h = settled_facts world place (progress_is.Dropped failure) f tt h

abbrev pub GoodCame : Came → Type 0
GoodCame Unawaited = ⊤
GoodCame (Refused failure) = ⊤
GoodCame (Waits replies) = GoodReplies replies
GoodCame (Both config) = GoodConfig config
GoodCame (NoneFits failure) = ⊤
GoodCame (Fit config accounts) = GoodConfig config × AllByRecursion GoodAccount accounts

came_facts : (world : World) (place : ℕ) (c : Came) (f : Facts) → GoodCame c → GoodFacts f → GoodFacts (with_came world place c f)
came_facts world place Unawaited f g h = h
came_facts world place (Refused failure) f g h = settled_facts world place (progress_is.Dropped failure) f tt h
came_facts world place (Waits replies) f g h = progress_facts place (progress_is.Reading replies) f g h
came_facts world place (Both config) f g h = progress_facts place (progress_is.Listing config) f g h
came_facts world place (NoneFits failure) f g h = fitting_facts world place failure (is_single f.options) f h
came_facts world place (Fit config accounts) f g h = settled_facts world place (progress_is.Listed config accounts) f g h

-- ---- what a reply comes to

heard_came : (h : Heard) → GoodHeard h → GoodCame (came_heard h)
heard_came (heard.Refused step) g = tt
heard_came (heard.Waits replies) g = g
heard_came (heard.Both config) g = g
heard_came (heard.NotWaited replies) g = tt

read_came : (config : Config) (r : Answer (List Account) AccountsStep) → GoodConfig config → IfOk (AllByRecursion GoodAccount) r
    → GoodCame (came_read config r)
read_came config (Ok accounts) g h = (g, h)
read_came config (Err step) g h = tt

fitting_accounts : (raw : List ℕ) (provider : ProviderOptions) → IfOk (AllByRecursion GoodAccount) (accounts_of raw provider)
unfolding accounts_of
fitting_accounts raw provider =
    steps_then (AllByRecursion GoodAccount) (AllByRecursion GoodAccount) (AccountsOf raw) _ (accounts_good raw)
    (λ accounts a. hinted_good accounts provider.login_hint provider.domain_hint a)

listing_came : (config : Config) (provider : ProviderOptions) (kind : ReplyKind) (raw : List ℕ) → GoodConfig config
    → GoodCame (came_listing config provider kind raw)
listing_came config provider kinds.Accounts raw g = read_came config (accounts_of raw provider) g (fitting_accounts raw provider)
listing_came config provider kinds.WellKnown raw g = tt
listing_came config provider kinds.Config raw g = tt
listing_came config provider kinds.Metadata raw g = tt
listing_came config provider kinds.Assertion raw g = tt
listing_came config provider kinds.Disconnect raw g = tt

to_came : (rules : RuleSet) (progress : Progress) (provider : ProviderOptions) (kind : ReplyKind) (raw : List ℕ) → GoodProgress progress
    → GoodOptions provider → GoodCame (came_to rules progress provider kind raw)
to_came rules (progress_is.Reading replies) provider kind raw g o =
    heard_came (reply_heard rules replies provider.config kind raw) (heard_good rules replies provider.config kind raw o.config g)
to_came rules (progress_is.Listing config) provider kind raw g o = listing_came config provider kind raw g
to_came rules (progress_is.Listed config accounts) provider kind raw g o = tt
to_came rules (progress_is.Dropped failure) provider kind raw g o = tt

any_came : (rules : RuleSet) (progress : Option Progress) (provider : Option ProviderOptions) (kind : ReplyKind) (raw : List ℕ)
    → IfSo GoodProgress progress → IfSo GoodOptions provider → GoodCame (came rules progress provider kind raw)
any_came rules (Some progress) (Some provider) kind raw g o = to_came rules progress provider kind raw g o
any_came rules (Some progress) None kind raw g o = tt
any_came rules None provider kind raw g o = tt

pub came_good : (world : World) (f : Facts) (place : ℕ) (kind : ReplyKind) (raw : List ℕ) → GoodFacts f
    → GoodCame (came_at world f place kind raw)
came_good world f place kind raw h =
    any_came world.rules (progress_at place f) (provider_at place f.options) kind raw (got GoodProgress f.progress place h.progress)
    (got GoodOptions f.options.providers place h.options.all)

-- ---- after an input

reply_facts : (world : World) (place : ℕ) (kind : ReplyKind) (raw : List ℕ) (f : Facts) → GoodFacts f
    → GoodFacts (with_reply world place kind raw f)
reply_facts world place kinds.WellKnown raw f h =
    came_facts world place (came_at world f place kinds.WellKnown raw) f (came_good world f place kinds.WellKnown raw h) h
reply_facts world place kinds.Config raw f h =
    came_facts world place (came_at world f place kinds.Config raw) f (came_good world f place kinds.Config raw h) h
reply_facts world place kinds.Accounts raw f h =
    came_facts world place (came_at world f place kinds.Accounts raw) f (came_good world f place kinds.Accounts raw h) h
reply_facts world place kinds.Metadata raw f h =
    record { page = h.page; origin = h.origin; options = h.options; progress = h.progress; offered = h.offered; picked = h.picked }
reply_facts world place kinds.Assertion raw f h = h
reply_facts world place kinds.Disconnect raw f h = h

pub found_good : (p : Offered → Bool) (os : List Offered) → AllByRecursion GoodOffered os → IfSo GoodOffered (find p os)
found_good p [] h = tt
found_good p (o ∷ os) h = go (p o) (found_good p os h.1)
  where
    go : (b : Bool) → IfSo GoodOffered (find p os) → IfSo GoodOffered (cond b (Some o) (find p os))
    go true rest = h.0
    go false rest = rest

choice_facts : (o : Option Offered) (f : Facts) → IfSo GoodOffered o → GoodFacts f → GoodFacts (with_choice o f)
choice_facts None f g h = h
choice_facts (Some o) f g h = record { page = h.page; origin = h.origin; options = h.options; progress = tt; offered = tt; picked = g }

input_facts : (world : World) (ignored : Bool) (input : Input) (f : Facts) → GoodFacts f → GoodFacts (get.with_input world ignored input f)
input_facts world true input f h = h
input_facts world false (inputs.Reply place kind raw) f h = reply_facts world place kind raw f h
input_facts world false (inputs.Choose place id) f h =
    choice_facts (found_offered place id f) f (found_good (is_named place id) f.offered h.offered) h
input_facts world false inputs.GoOn f h = h
input_facts world false inputs.Cancel f h = h
input_facts world false inputs.SignIn f h = h
input_facts world false inputs.Shut f h = h
input_facts world false inputs.Resume f h = h
input_facts world false inputs.Abort f h = h

-- ---- what is known of a disconnect

pub record GoodDisconnect (f : DisconnectFacts) : Type 0 where
  pub page : IsSmall f.page
  pub origin : IsPage f.origin
  pub options : GoodDisconnectOptions f.options
  pub replies : GoodReplies f.replies

taken_good : (h : Heard) → GoodHeard h → GoodReplies (taken h)
taken_good (heard.Refused step) g = tt
taken_good (heard.Waits replies) g = g
taken_good (heard.Both config) g = g
taken_good (heard.NotWaited replies) g = g

disconnect_facts : (world : World) (ignored : Bool) (input : Input) (f : DisconnectFacts) → GoodDisconnect f
    → GoodDisconnect (disconnect.with_input world ignored input f)
disconnect_facts world true input f h = h
disconnect_facts world false (inputs.Reply place kind raw) f h =
    record {
      page = h.page;
      origin = h.origin;
      options = h.options;
      replies =
          taken_good (reply_heard world.rules f.replies f.options.config kind raw)
          (heard_good world.rules f.replies f.options.config kind raw h.options.config h.replies);
    }
disconnect_facts world false (inputs.Choose place id) f h = h
disconnect_facts world false inputs.GoOn f h = h
disconnect_facts world false inputs.Cancel f h = h
disconnect_facts world false inputs.SignIn f h = h
disconnect_facts world false inputs.Shut f h = h
disconnect_facts world false inputs.Resume f h = h
disconnect_facts world false inputs.Abort f h = h

-- ---- after what happened

abbrev pub GoodKnown : Known → Type 0
GoodKnown (OfGet f) = GoodFacts f
GoodKnown (OfDisconnect f) = GoodDisconnect f

opened_good : (r : Answer Parts Closed) → GoodProgress (opened r)
opened_good (Ok wellknown) = tt
opened_good (Err closed) = tt

firsts_good : (world : World) (options : GetOptions) (qs : List ProviderOptions)
    → AllByRecursion GoodProgress (map (first_progress world options.mode) qs)
firsts_good world options [] = tt
firsts_good world options (q ∷ qs) = (opened_good (opening world options.mode q), firsts_good world options qs)

fresh_good : (world : World) (b : Begun) → GoodBegun b → GoodKnown (known_first world b)
fresh_good world b g = go b.options g.options
  where
    go : (options : CallOptions) → GoodCall options → GoodKnown (fresh world b.call b.page b.origin options)
    go (ToGet options) h =
        record {
          page = g.page;
          origin = g.origin;
          options = h;
          progress = firsts_good world options options.providers;
          offered = tt;
          picked = tt;
        }
    go (ToDisconnect options) h = record { page = g.page; origin = g.origin; options = h; replies = tt }

said_good : (world : World) (ignored : Bool) (input : Option Input) (k : Known) → GoodKnown k → GoodKnown (with_said world ignored input k)
said_good world ignored None k h = h
said_good world ignored (Some input) (OfGet f) h = input_facts world ignored input f h
said_good world ignored (Some input) (OfDisconnect f) h = disconnect_facts world ignored input f h

row_good : (world : World) (ignored : Bool) (begun : Option Begun) (input : Option Input) (k : Option Known) → IfSo GoodBegun begun
    → IfSo GoodKnown k
    → IfSo GoodKnown (option_or (option_map (known_first world) begun) (option_map (with_said world ignored input) k))
row_good world ignored (Some b) input k g h = fresh_good world b g
row_good world ignored None input None g h = tt
row_good world ignored None input (Some k) g h = said_good world ignored input k h

-- what an effect begins
begins_good : (call : ℕ) (e : Effect) → GoodEffect e → IfSo GoodBegun (begins call e)
begins_good call (Begin b) g = go (nat_eq call b.call)
  where
    go : (t : Bool) → IfSo GoodBegun (cond t (Some b) None)
    go true = g
    go false = tt
begins_good call (Page page origin) g = tt
begins_good call (Sent kind c provider ask cookies) g = tt
begins_good call (Shown c dialog) g = tt
begins_good call (Window c provider url) g = tt
begins_good call (Result c page finish) g = tt
begins_good call (Time time) g = tt
begins_good call (PageCloses page) g = tt
begins_good call (Cookie change) g = tt
begins_good call (Login origin status) g = tt
begins_good call (Move kind c stage) g = tt
begins_good call (Dropped c provider failure) g = tt
begins_good call (Kept triple stays) g = tt
begins_good call (Flag origin stays) g = tt
begins_good call (Ignored why) g = tt

or_good : (a b : Option Begun) → IfSo GoodBegun a → IfSo GoodBegun b → IfSo GoodBegun (option_or a b)
or_good None b g h = h
or_good (Some a) b g h = g

last_good : (call : ℕ) (effects : List Effect) → AllByRecursion GoodEffect effects → IfSo GoodBegun (last_of (begins call) effects)
last_good call [] g = tt
last_good call (e ∷ es) g = or_good (last_of (begins call) es) (begins call e) (last_good call es g.1) (begins_good call e g.0)

-- each effect of each row is good
abbrev pub GoodRows : List Row → Type 0
GoodRows = AllByRecursion (λ row. AllByRecursion GoodEffect row.effects)

in_good : (header : Header) (rows : List Row) (call : ℕ) → GoodRows rows → IfSo GoodKnown (known_in header rows call)
in_good header [] call g = tt
in_good header (row ∷ rows) call g =
    row_good (world_at (record { header = header; rows = rows })) (list_any is_ignored row.effects) (last_of (begins call) row.effects)
    (input_to call row.event) (known_in header rows call) (last_good call row.effects g.0) (in_good header rows call g.1)

-- ---- at a stage

moved : (stage : Stage) (f : Facts) → GoodFacts f → GoodFacts (record f { stage = stage })
moved stage f h = record {
  page = h.page;
  origin = h.origin;
  options = h.options;
  progress = h.progress;
  offered = h.offered;
  picked = h.picked;
}

staged_get : (stage : Stage) (f : Facts) → GoodFacts f → IfSo GoodKnown (option_map OfGet (get.at_stage stage f))
staged_get stages.Reading f h = moved stages.Reading f h
staged_get stages.Listing f h = moved stages.Listing f h
staged_get stages.Gathering f h = moved stages.Gathering f h
staged_get stages.Mismatch f h = moved stages.Mismatch f h
staged_get stages.Window f h = moved stages.Window f h
staged_get stages.Choosing f h = moved stages.Choosing f h
staged_get stages.Prompting f h = moved stages.Prompting f h
staged_get stages.Asserting f h = moved stages.Asserting f h
staged_get stages.Ended f h = tt

moves : (stage : Stage) (f : DisconnectFacts) → GoodDisconnect f → GoodDisconnect (record f { stage = stage })
moves stage f h = record { page = h.page; origin = h.origin; options = h.options; replies = h.replies }

staged_disconnect : (stage : Stage) (f : DisconnectFacts) → GoodDisconnect f
    → IfSo GoodKnown (option_map OfDisconnect (disconnect.at_stage stage f))
staged_disconnect stages.Reading f h = moves stages.Reading f h
staged_disconnect stages.Listing f h = moves stages.Listing f h
staged_disconnect stages.Gathering f h = moves stages.Gathering f h
staged_disconnect stages.Mismatch f h = moves stages.Mismatch f h
staged_disconnect stages.Window f h = moves stages.Window f h
staged_disconnect stages.Choosing f h = moves stages.Choosing f h
staged_disconnect stages.Prompting f h = moves stages.Prompting f h
staged_disconnect stages.Asserting f h = moves stages.Asserting f h
staged_disconnect stages.Ended f h = tt

staged : (stage : Stage) (k : Known) → GoodKnown k → IfSo GoodKnown (calls.at_stage stage k)
staged stage (OfGet f) h = staged_get stage f h
staged stage (OfDisconnect f) h = staged_disconnect stage f h

by_good : (stage : Option Stage) (k : Option Known) → IfSo GoodKnown k → IfSo GoodKnown (known_by stage k)
by_good None k h = tt
by_good (Some stage) None h = tt
by_good (Some stage) (Some k) h = staged stage k h

-- what is known of a call after what happened is good
pub known_good : (T : Trace) (call : ℕ) → GoodRows T.rows → IfSo GoodKnown (known_at T call)
known_good T call g = by_good (stage_at T call) (known_in T.header T.rows call) (in_good T.header T.rows call g)

-- ---- the number of a call that began

small_begun : (call : ℕ) (b : Begun) → GoodBegun b → (t : Bool) → nat_eq call b.call ≡ t → IfSo (λ x. IsSmall call) (cond t (Some b) None)
small_begun call b g true is = let same : call ≡ b.call = eqb-true call b.call is in subst IsSmall (sym same) g.call
small_begun call b g false is = tt

begins_small : (call : ℕ) (e : Effect) → GoodEffect e → IfSo (λ x. IsSmall call) (begins call e)
begins_small call (Begin b) g = small_begun call b g (nat_eq call b.call) refl
begins_small call (Page page origin) g = tt
begins_small call (Sent kind c provider ask cookies) g = tt
begins_small call (Shown c dialog) g = tt
begins_small call (Window c provider url) g = tt
begins_small call (Result c page finish) g = tt
begins_small call (Time time) g = tt
begins_small call (PageCloses page) g = tt
begins_small call (Cookie change) g = tt
begins_small call (Login origin status) g = tt
begins_small call (Move kind c stage) g = tt
begins_small call (Dropped c provider failure) g = tt
begins_small call (Kept triple stays) g = tt
begins_small call (Flag origin stays) g = tt
begins_small call (Ignored why) g = tt

or_small : {A : Type 0} (P : Type 0) (a b : Option A) → IfSo (λ x. P) a → IfSo (λ x. P) b → IfSo (λ x. P) (option_or a b)
or_small P None b g h = h
or_small P (Some a) b g h = g

last_small : (call : ℕ) (effects : List Effect) → AllByRecursion GoodEffect effects
    → IfSo (λ x. IsSmall call) (last_of (begins call) effects)
last_small call [] g = tt
last_small call (e ∷ es) g =
    or_small (IsSmall call) (last_of (begins call) es) (begins call e) (last_small call es g.1) (begins_small call e g.0)

mapped_small : {A B : Type 0} (P : Type 0) (f : A → B) (o : Option A) → IfSo (λ x. P) o → IfSo (λ x. P) (option_map f o)
mapped_small P f None h = tt
mapped_small P f (Some a) h = h

in_small : (header : Header) (rows : List Row) (call : ℕ) → GoodRows rows → IfSo (λ k. IsSmall call) (known_in header rows call)
in_small header [] call g = tt
in_small header (row ∷ rows) call g =
    let world = world_at (record { header = header; rows = rows }) in
    or_small (IsSmall call) (option_map (known_first world) (last_of (begins call) row.effects))
    (option_map (with_said world (list_any is_ignored row.effects) (input_to call row.event)) (known_in header rows call))
    (mapped_small (IsSmall call) (known_first world) (last_of (begins call) row.effects) (last_small call row.effects g.0))
    (mapped_small (IsSmall call) _ (known_in header rows call) (in_small header rows call g.1))

by_small : (call : ℕ) (stage : Option Stage) (k : Option Known) → IfSo (λ x. IsSmall call) k → IfSo (λ x. IsSmall call) (known_by stage k)
by_small call None k h = tt
by_small call (Some stage) None h = tt
by_small call (Some stage) (Some k) h = always (calls.at_stage stage k)
  where
    always : (o : Option Known) → IfSo (λ x. IsSmall call) o
    always None = tt
    always (Some x) = h

pub known_small : (T : Trace) (call : ℕ) → GoodRows T.rows → IfSo (λ k. IsSmall call) (known_at T call)
known_small T call g = by_small call (stage_at T call) (known_in T.header T.rows call) (in_small T.header T.rows call g)
