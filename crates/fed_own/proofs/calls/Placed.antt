-- What a call knows of accounts that are offered: each is of a provider of the call.
use Rattle.std.proofs.Common.{◌≡◌, ℕ, zero, suc, ◌+◌, ◌<◌, Bool, true, false, cond, List, [], ◌∷◌, ◌++◌, length, map, slice_get, Option}
use Rattle.std.proofs.Common.{Some, None, subst, arith}
use Rattle.std.specs.Prelude.{⊤, option_and_then, option_map, option_to_list}
use Rattle.std.specs.List.{AllByRecursion, find, list_any}
use Rattle.std.specs.Option.{option_or}
use Rattle.fed_origin.specs.declared.options.GetOptions.{GetOptions}
use Rattle.fed_origin.specs.declared.options.Mediation.{Mediation}
use Rattle.fed_origin.specs.declared.options.Mediation.TheVariants.{Silent, Optional, Required}
use Rattle.fed_origin.specs.declared.options.ProviderOptions.{ProviderOptions}
use Rattle.fed_origin.specs.declared.origin.Origin.{Origin}
use Rattle.fed_origin.specs.declared.stage.ReplyKind.{ReplyKind}
use Rattle.fed_origin.specs.declared.stage.ReplyKind.TheVariants as kinds
use Rattle.fed_origin.specs.declared.stage.Stage.{Stage}
use Rattle.fed_origin.specs.declared.stage.Stage.TheVariants as stages
use Rattle.fed_origin.specs.declared.status.Triple.{Triple}
use Rattle.fed_accounts.specs.declared.account.Account.{Account}
use Rattle.fed_accounts.specs.Connection.{Reselect}
use Rattle.fed_consent.specs.declared.table.failure.Failure.{Failure}
use Rattle.fed_consent.specs.declared.table.input.Input.{Input}
use Rattle.fed_consent.specs.declared.table.input.Input.TheVariants as inputs
use Rattle.fed_consent.specs.Consent.{Candidate, candidates}
use Rattle.fed_status.specs.Flags.{has_flag}
use Rattle.fed_status.specs.Shared.{World}
use Rattle.fed_call.specs.declared.progress.Progress.{Progress}
use Rattle.fed_call.specs.declared.progress.Progress.TheVariants as progress_is
use Rattle.fed_call.specs.Accounts.{Offered, Shortlist, all_offered, offered_by, offered_of, reselected, reselected_of}
use Rattle.fed_call.specs.Facts.{Facts, Conclusion, Awaits, NoneLeft, Reselects, NoneSilent, Offers, Prompts, by_awaited, by_number}
use Rattle.fed_call.specs.Facts.{by_offered, came_at, conclusion_of, found_offered, is_named, is_single, none_left}
use Rattle.fed_call.specs.Facts.{shortlist}
use Rattle.fed_call.specs.Facts.{shortlists, unless_silent, with_came, with_choice, with_conclusion, with_none_fitting, with_progress}
use Rattle.fed_call.specs.Facts.{with_reply, with_settled}
use Rattle.fed_call.specs.Facts as get
use Rattle.fed_call.specs.Progress.{Came, Unawaited, Refused, Waits, Both, NoneFits, Fit, is_awaited}
use Rattle.fed_script.specs.declared.event.Header.{Header}
use Rattle.fed_trace.specs.Begun.{Begun, CallOptions, ToGet, ToDisconnect}
use Rattle.fed_trace.specs.Call.{Known, OfGet, OfDisconnect, fresh, get_facts, known_first}
use Rattle.fed_trace.specs.Effect.{begins, is_ignored, last_of}
use Rattle.fed_trace.specs.Known.{facts_at, input_to, known_by, known_in, with_said, world_at}
use Rattle.fed_trace.specs.Trace.{Row, Trace, stage_at}

-- ---- accounts at places

-- it is of a provider at a place below this
abbrev pub IsBelow : ℕ → Offered → Type 0
IsBelow count o = o.place < count

-- so is this account, if there is one
abbrev pub IfBelow : ℕ → Option Offered → Type 0
IfBelow count None = ⊤
IfBelow count (Some o) = IsBelow count o

-- so are those of a provider
abbrev ListBelow : ℕ → Shortlist → Type 0
ListBelow count list = list.offer.provider < count

abbrev IfListBelow : ℕ → Option Shortlist → Type 0
IfListBelow count None = ⊤
IfListBelow count (Some list) = ListBelow count list

both_all : {A : Type 0} (P : A → Type 0) (xs ys : List A) → AllByRecursion P xs → AllByRecursion P ys → AllByRecursion P (xs ++ ys)
both_all P [] ys a b = b
both_all P (x ∷ xs) ys a b = (a.0, both_all P xs ys a.1 b)

lists_below : (kept : List Triple) (page : Origin) (n : ℕ) (qs : List ProviderOptions) (gs : List Progress)
    → AllByRecursion (ListBelow (n + length qs)) (shortlists kept page n qs gs)
lists_below kept page n [] gs = tt
lists_below kept page n (q ∷ qs) [] = tt
lists_below kept page n (q ∷ qs) (g ∷ gs) =
    let more : suc n + length qs ≡ n + suc (length qs) = omega arith in
    go g (subst (λ c. AllByRecursion (ListBelow c) (shortlists kept page (suc n) qs gs)) more (lists_below kept page (suc n) qs gs))
  where
    go : (g : Progress) → AllByRecursion (ListBelow (n + suc (length qs))) (shortlists kept page (suc n) qs gs)
        → AllByRecursion (ListBelow (n + suc (length qs))) (option_to_list (shortlist kept page n q g)
        ++ shortlists kept page (suc n) qs gs)
    go (progress_is.Listed c accounts) rest = (omega arith, rest)
    go (progress_is.Reading replies) rest = rest
    go (progress_is.Listing c) rest = rest
    go (progress_is.Dropped failure) rest = rest

list_below : (count : ℕ) (list : Shortlist) → ListBelow count list → (cs : List Candidate)
    → AllByRecursion (IsBelow count) (map (offered_by list) cs)
list_below count list below [] = tt
list_below count list below (c ∷ cs) = (below, list_below count list below cs)

all_below : (count : ℕ) (lists : List Shortlist) → AllByRecursion (ListBelow count) lists
    → AllByRecursion (IsBelow count) (all_offered lists)
all_below count [] below = tt
all_below count (list ∷ lists) below =
    both_all (IsBelow count) (offered_of list) (all_offered lists) (list_below count list below.0 (candidates list.offer))
    (all_below count lists below.1)

-- the account that is reselected
got_below : (count : ℕ) (lists : List Shortlist) (n : ℕ) → AllByRecursion (ListBelow count) lists → IfListBelow count (slice_get lists n)
got_below count [] n below = tt
got_below count (list ∷ lists) zero below = below.0
got_below count (list ∷ lists) (suc n) below = got_below count lists n below.1

again_below : (count : ℕ) (mediation : Mediation) (flag : Bool) (lists : List Shortlist) → AllByRecursion (ListBelow count) lists
    → IfBelow count (reselected mediation flag lists)
again_below count mediation flag lists below = go (Reselect (map (λ list. list.offer) lists) flag mediation)
  where
    account_of : (list : Shortlist) → ListBelow count list → (account : Option Account)
        → IfBelow count (option_map (λ a. offered_by list (record { account = a; connected = true })) account)
    account_of list is None = tt
    account_of list is (Some a) = is

    at : (n : ℕ) (list : Option Shortlist) → IfListBelow count list → IfBelow count (option_and_then (reselected_of n) list)
    at n None is = tt
    at n (Some list) is = account_of list is (slice_get list.offer.accounts n)

    go : (places : Option (ℕ × ℕ))
        → IfBelow count (option_and_then (λ p. option_and_then (reselected_of p.1) (slice_get lists p.0)) places)
    go None = tt
    go (Some places) = at places.1 (slice_get lists places.0) (got_below count lists places.0 below)

-- ---- what a call comes to

abbrev pub ConclusionBelow : ℕ → Conclusion → Type 0
ConclusionBelow count Awaits = ⊤
ConclusionBelow count (NoneLeft failure) = ⊤
ConclusionBelow count (Reselects o) = IsBelow count o
ConclusionBelow count NoneSilent = ⊤
ConclusionBelow count (Offers os) = AllByRecursion (IsBelow count) os
ConclusionBelow count (Prompts o) = IsBelow count o

number_below : (count : ℕ) (first : Offered) (more : List Offered) → AllByRecursion (IsBelow count) (first ∷ more)
    → ConclusionBelow count (by_number first more)
number_below count first [] below = below.0
number_below count first (second ∷ more) below = below

silent_below : (count : ℕ) (mediation : Mediation) (first : Offered) (more : List Offered)
    → AllByRecursion (IsBelow count) (first ∷ more) → ConclusionBelow count (unless_silent mediation first more)
silent_below count Silent first more below = tt
silent_below count Optional first more below = number_below count first more below
silent_below count Required first more below = number_below count first more below

left_below : (count : ℕ) (progress : List Progress) → ConclusionBelow count (none_left progress)
left_below count [] = tt
left_below count (progress_is.Reading replies ∷ gs) = tt
left_below count (progress_is.Listing config ∷ gs) = tt
left_below count (progress_is.Listed config accounts ∷ gs) = tt
left_below count (progress_is.Dropped failure ∷ gs) = tt

offers_below : (count : ℕ) (mediation : Mediation) (progress : List Progress) (again : Option Offered) (all : List Offered)
    → IfBelow count again → AllByRecursion (IsBelow count) all → ConclusionBelow count (by_offered mediation progress again all)
offers_below count mediation progress again [] one below = left_below count progress
offers_below count mediation progress None (first ∷ more) one below = silent_below count mediation first more below
offers_below count mediation progress (Some o) (first ∷ more) one below = one

pub concluded_below : (world : World) (page : Origin) (options : GetOptions) (progress : List Progress)
    → ConclusionBelow (length options.providers) (conclusion_of world page options progress)
concluded_below world page options progress = go (list_any is_awaited progress)
  where
    lists : List Shortlist
    lists = shortlists world.kept page 0 options.providers progress

    below : AllByRecursion (ListBelow (length options.providers)) lists
    below =
        let zero_is : 0 + length options.providers ≡ length options.providers = omega arith in
        subst (λ c. AllByRecursion (ListBelow c) lists) zero_is (lists_below world.kept page 0 options.providers progress)

    go : (awaited : Bool) → ConclusionBelow (length options.providers) (by_awaited world page options progress awaited)
    go true = tt
    go false =
        offers_below (length options.providers) options.mediation progress
        (reselected options.mediation (has_flag world.flags page) lists) (all_offered lists)
        (again_below (length options.providers) options.mediation (has_flag world.flags page) lists below)
        (all_below (length options.providers) lists below)

-- ---- what is known of a call

-- the accounts that it knows are of its providers
pub record Placed (f : Facts) : Type 0 where
  pub offered : AllByRecursion (IsBelow (length f.options.providers)) f.offered
  pub picked : IfBelow (length f.options.providers) f.picked

conclusion_placed : (c : Conclusion) (f : Facts) → ConclusionBelow (length f.options.providers) c → Placed f → Placed (with_conclusion c f)
conclusion_placed Awaits f below h = h
conclusion_placed (NoneLeft failure) f below h = h
conclusion_placed (Reselects o) f below h = record { offered = h.offered; picked = below }
conclusion_placed NoneSilent f below h = h
conclusion_placed (Offers os) f below h = record { offered = below; picked = h.picked }
conclusion_placed (Prompts o) f below h = record { offered = tt; picked = below }

progress_placed : (place : ℕ) (progress : Progress) (f : Facts) → Placed f → Placed (with_progress place progress f)
progress_placed place progress f h = record { offered = h.offered; picked = h.picked }

settled_placed : (world : World) (place : ℕ) (progress : Progress) (f : Facts) → Placed f
    → Placed (with_settled world (with_progress place progress f))
settled_placed world place progress f h =
    conclusion_placed (conclusion_of world f.origin f.options (with_progress place progress f).progress) (with_progress place progress f)
    (concluded_below world f.origin f.options (with_progress place progress f).progress) (progress_placed place progress f h)

fitting_placed : (world : World) (place : ℕ) (failure : Failure) (single : Bool) (f : Facts) → Placed f
    → Placed (with_none_fitting world place failure single f)
fitting_placed world place failure true f h = h
fitting_placed world place failure false f h = settled_placed world place (progress_is.Dropped failure) f h

came_placed : (world : World) (place : ℕ) (c : Came) (f : Facts) → Placed f → Placed (with_came world place c f)
came_placed world place Unawaited f h = h
came_placed world place (Refused failure) f h = settled_placed world place (progress_is.Dropped failure) f h
came_placed world place (Waits replies) f h = progress_placed place (progress_is.Reading replies) f h
came_placed world place (Both config) f h = progress_placed place (progress_is.Listing config) f h
came_placed world place (NoneFits failure) f h = fitting_placed world place failure (is_single f.options) f h
came_placed world place (Fit config accounts) f h = settled_placed world place (progress_is.Listed config accounts) f h

reply_placed : (world : World) (place : ℕ) (kind : ReplyKind) (raw : List ℕ) (f : Facts) → Placed f
    → Placed (with_reply world place kind raw f)
reply_placed world place kinds.WellKnown raw f h = came_placed world place (came_at world f place kinds.WellKnown raw) f h
reply_placed world place kinds.Config raw f h = came_placed world place (came_at world f place kinds.Config raw) f h
reply_placed world place kinds.Accounts raw f h = came_placed world place (came_at world f place kinds.Accounts raw) f h
reply_placed world place kinds.Metadata raw f h = record { offered = h.offered; picked = h.picked }
reply_placed world place kinds.Assertion raw f h = h
reply_placed world place kinds.Disconnect raw f h = h

pub found_below : (count : ℕ) (p : Offered → Bool) (os : List Offered) → AllByRecursion (IsBelow count) os → IfBelow count (find p os)
found_below count p [] below = tt
found_below count p (o ∷ os) below = go (p o) (found_below count p os below.1)
  where
    go : (b : Bool) → IfBelow count (find p os) → IfBelow count (cond b (Some o) (find p os))
    go true rest = below.0
    go false rest = rest

choice_placed : (o : Option Offered) (f : Facts) → IfBelow (length f.options.providers) o → Placed f → Placed (with_choice o f)
choice_placed None f below h = h
choice_placed (Some o) f below h = record { offered = tt; picked = below }

input_placed : (world : World) (ignored : Bool) (input : Input) (f : Facts) → Placed f → Placed (get.with_input world ignored input f)
input_placed world true input f h = h
input_placed world false (inputs.Reply place kind raw) f h = reply_placed world place kind raw f h
input_placed world false (inputs.Choose place id) f h =
    choice_placed (found_offered place id f) f (found_below (length f.options.providers) (is_named place id) f.offered h.offered) h
input_placed world false inputs.GoOn f h = h
input_placed world false inputs.Cancel f h = h
input_placed world false inputs.SignIn f h = h
input_placed world false inputs.Shut f h = h
input_placed world false inputs.Resume f h = h
input_placed world false inputs.Abort f h = h

-- ---- after what happened

abbrev KnownPlaced : Known → Type 0
KnownPlaced (OfGet f) = Placed f
KnownPlaced (OfDisconnect f) = ⊤

abbrev IfKnown : Option Known → Type 0
IfKnown None = ⊤
IfKnown (Some k) = KnownPlaced k

fresh_placed : (world : World) (call page : ℕ) (origin : Origin) (options : CallOptions)
    → KnownPlaced (fresh world call page origin options)
fresh_placed world call page origin (ToGet options) = record { offered = tt; picked = tt }
fresh_placed world call page origin (ToDisconnect options) = tt

said_placed : (world : World) (ignored : Bool) (input : Option Input) (k : Known) → KnownPlaced k
    → KnownPlaced (with_said world ignored input k)
said_placed world ignored None k h = h
said_placed world ignored (Some input) (OfGet f) h = input_placed world ignored input f h
said_placed world ignored (Some input) (OfDisconnect f) h = tt

row_placed : (world : World) (ignored : Bool) (begun : Option Begun) (input : Option Input) (k : Option Known) → IfKnown k
    → IfKnown (option_or (option_map (known_first world) begun) (option_map (with_said world ignored input) k))
row_placed world ignored (Some b) input k h = fresh_placed world b.call b.page b.origin b.options
row_placed world ignored None input None h = tt
row_placed world ignored None input (Some k) h = said_placed world ignored input k h

known_placed : (header : Header) (rows : List Row) (call : ℕ) → IfKnown (known_in header rows call)
known_placed header [] call = tt
known_placed header (row ∷ rows) call =
    row_placed (world_at (record { header = header; rows = rows })) (list_any is_ignored row.effects) (last_of (begins call) row.effects)
    (input_to call row.event) (known_in header rows call) (known_placed header rows call)

-- what is known of a get, at a stage
abbrev IfGet : Option Facts → Type 0
IfGet None = ⊤
IfGet (Some f) = Placed f

stage_placed : (stage : Stage) (f : Facts) → Placed f → IfGet (option_and_then get_facts (option_map OfGet (get.at_stage stage f)))
stage_placed stages.Reading f h = record { offered = h.offered; picked = h.picked }
stage_placed stages.Listing f h = record { offered = h.offered; picked = h.picked }
stage_placed stages.Gathering f h = record { offered = h.offered; picked = h.picked }
stage_placed stages.Mismatch f h = record { offered = h.offered; picked = h.picked }
stage_placed stages.Window f h = record { offered = h.offered; picked = h.picked }
stage_placed stages.Choosing f h = record { offered = h.offered; picked = h.picked }
stage_placed stages.Prompting f h = record { offered = h.offered; picked = h.picked }
stage_placed stages.Asserting f h = record { offered = h.offered; picked = h.picked }
stage_placed stages.Ended f h = tt

disconnect_none : (o : Option _) → IfGet (option_and_then get_facts (option_map OfDisconnect o))
disconnect_none None = tt
disconnect_none (Some f) = tt

at_placed : (stage : Option Stage) (k : Option Known) → IfKnown k → IfGet (option_and_then get_facts (known_by stage k))
at_placed None k h = tt
at_placed (Some stage) None h = tt
at_placed (Some stage) (Some (OfGet f)) h = stage_placed stage f h
at_placed (Some stage) (Some (OfDisconnect f)) h = disconnect_none _

-- the accounts that a get knows after what happened are of its providers
pub facts_placed : (T : Trace) (call : ℕ) (f : Facts) → facts_at T call ≡ Some f → Placed f
facts_placed T call f is = subst IfGet is (at_placed (stage_at T call) (known_in T.header T.rows call) (known_placed T.header T.rows call))
