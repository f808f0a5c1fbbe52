-- What an event leaves of a get, and what is seen of other calls.
use Rattle.std.proofs.Common.{◌≡◌, ℕ, Bool, true, false, nat_eq, List, [], ◌∷◌, ◌++◌, Option, Some, None, refl, sym, ap}
use Rattle.std.proofs.Common.{subst, ◌∙◌}
use Rattle.std.proofs.lemmas.List.Elements.{filter_map-append}
use Rattle.std.specs.Prelude.{option_and_then}
use Rattle.std.specs.List.{filter_map, flat_map}
use Rattle.url.specs.Parts.{Parts}
use Rattle.fed_origin.specs.declared.origin.Origin.{Origin}
use Rattle.fed_origin.specs.declared.stage.Stage.{Stage}
use Rattle.fed_origin.specs.declared.stage.Stage.TheVariants.{Ended}
use Rattle.fed_origin.specs.WebUrl.{origin_of}
use Rattle.fed_status.specs.Kept.{triples_of_pair}
use Rattle.fed_status.specs.Shared.{World}
use Rattle.fed_consent.specs.declared.table.ask.Ask.{Ask}
use Rattle.fed_consent.specs.declared.table.effect.Effect.{Effect as CallEffect}
use Rattle.fed_consent.specs.declared.table.effect.Effect.TheVariants as does
use Rattle.fed_consent.specs.declared.table.why.Why.{Why}
use Rattle.fed_consent.specs.Outcomes.{Outcome}
use Rattle.fed_call.specs.Facts.{Facts}
use Rattle.fed_script.specs.declared.event.Event.{Event}
use Rattle.fed_script.specs.declared.event.Event.TheVariants.{Load, ClosePage, Get, Disconnect, IdpClose}
use Rattle.fed_trace.specs.Begun.{DisconnectCall, CallOptions, ToGet, ToDisconnect}
use Rattle.fed_trace.specs.Call.{Known, OfDisconnect, get_facts, input_row}
use Rattle.fed_trace.specs.OfCall.{replaces}
use Rattle.fed_trace.specs.Effect.{Effect, Page, Closed, Ignored, last_of, stage_change, begins}
use Rattle.fed_trace.specs.Keyed.{last_said}
use Rattle.fed_trace.specs.Known.{world_at, is_begun, input_to, facts_at, known_by}
use Rattle.fed_trace.specs.Row.{effects_of, with_event, cookies_with, call_effects, moves, ends_of, close_effects, load_changes}
use Rattle.fed_trace.specs.Row.{cookie_effects, login_effects, set_logins}
use Rattle.fed_trace.specs.Trace.{Trace, page_at, stage_at, pending_of}
use Rattle.fed_trace.proofs.calls.Pending.{is_among, ends_silent, load_rest_silent}
use Rattle.fed_trace.proofs.effects.Silent.{AllSilent, last_silent, silent_append, goes_silent}
use Rattle.fed_trace.proofs.happens.Disconnects.{Turn, Gives, GivesNone, sets_login, disconnect_turn}
use Rattle.fed_trace.proofs.happens.Ends.{Happens, Left, Ends, Started, Took, Resumed, Takes, beginning, last_said_front, ends_apart}
use Rattle.fed_trace.proofs.happens.Ends.{ends_hit}
use Rattle.fed_trace.proofs.happens.Gets.{Taking, ByGet, ByDisconnect, ByNone, taking, facts_same, facts_ended}
use Rattle.fed_trace.proofs.happens.Happens.{happens}
use Rattle.fed_trace.proofs.happens.Over.{over_ignored}
use Rattle.fed_trace.proofs.happens.Taken.{does_it}
use Rattle.fed_trace.proofs.known.Known.{said_of}
use Rattle.fed_trace.proofs.runs.Gets.{unbegun_unknown}
use Rattle.fed_twin.specs.Providers.{Providers}
use Rattle.fed_twin.specs.Seen.{seen}

-- the event begins a call, or lets calls that wait go on
abbrev pub begins_or_resumes : Event → Bool
begins_or_resumes (Get page call options) = true
begins_or_resumes (Disconnect page call config client hint) = true
begins_or_resumes (IdpClose page) = true
begins_or_resumes _ = false

begins_one : (event : Event) (page call : ℕ) (options : CallOptions) → event ≡ beginning page call options
    → begins_or_resumes event ≡ true
begins_one event page call (ToGet options) is = ap begins_or_resumes is
begins_one event page call (ToDisconnect options) is = ap begins_or_resumes is

-- an event that begins no call, lets none go on, ends no page and brings the call nothing leaves it
pub facts_left : (T : Trace) (line : ℕ) (event : Event) (q : ℕ) → input_to q event ≡ None
    → ((page : ℕ) → replaces page event ≡ false) → begins_or_resumes event ≡ false
    → facts_at (with_event T line event) q ≡ facts_at T q
facts_left T line event q unsaid stands no_get = go (happens T event q)
  where
    go : Happens T event q → facts_at (with_event T line event) q ≡ facts_at T q
    go (Left l) = facts_same T line event q l.quiet.stage l.quiet.begins_none l.same
    go (Ends e) = absurd (let no : false ≡ true = sym (stands e.page) ∙ e.replaced in cc)
    go (Started s) =
        absurd (let no : false ≡ true = sym no_get ∙ begins_one event s.begun.page s.begun.call s.begun.options s.is_event in cc)
    go (Took t) = absurd (let no : None ≡ Some t.input = sym unsaid ∙ t.input_is in cc)
    go (Resumed r) = absurd (let no : false ≡ true = sym no_get ∙ ap begins_or_resumes r.is_event in cc)

-- an event that is ignored leaves every call
pub facts_ignored : (T : Trace) (line : ℕ) (event : Event) (q : ℕ) (why : Why) → effects_of T event ≡ Ignored why ∷ []
    → ((k : Known) → said_of T event q k ≡ k)
    → facts_at (with_event T line event) q ≡ facts_at T q
facts_ignored T line event q why effects same =
    facts_same T line event q (ap (last_said nat_eq stage_change q) effects) (ap (last_of (begins q)) effects) same

-- ---- calls that end with their page

-- a call that is pending on the page is over, another is left
pub record EndsThere (T : Trace) (line : ℕ) (event : Event) (page q : ℕ) : Type 0 where
  pub there : is_among q (pending_of T page) ≡ true → facts_at (with_event T line event) q ≡ None
  pub elsewhere : is_among q (pending_of T page) ≡ false → facts_at (with_event T line event) q ≡ facts_at T q

-- where the calls of a page end, and what comes after says nothing of calls
facts_end : (T : Trace) (line : ℕ) (event : Event) (q page : ℕ) (rest : List Effect)
    → effects_of T event ≡ ends_of (pending_of T page) ++ rest
    → AllSilent stage_change rest → AllSilent (begins q) rest → ((k : Known) → said_of T event q k ≡ k)
    → EndsThere T line event page q
facts_end T line event q page rest effects stage begun same =
    let none : last_of (begins q) (effects_of T event) ≡ None =
    last_silent (begins q) (effects_of T event)
    (subst (AllSilent (begins q)) (sym effects)
    (silent_append (begins q) (ends_of (pending_of T page)) rest (ends_silent (begins q) (λ n c. refl) (pending_of T page)) begun)) in
    let said : last_said nat_eq stage_change q (effects_of T event) ≡ last_said nat_eq stage_change q (ends_of (pending_of T page)) =
    ap (last_said nat_eq stage_change q) effects ∙ last_said_front stage_change q (ends_of (pending_of T page)) rest stage in
    record {
      there = λ is. facts_ended T line event q (said ∙ ends_hit q (pending_of T page) is) none;
      elsewhere =
          λ is. facts_same T line event q (said ∙ ends_apart stage_change (Some Ended) (λ n c. refl) q (pending_of T
          page) is) none same;
    }

pub facts_load : (T : Trace) (line page : ℕ) (url : Parts) (raw : Option (List ℕ)) (q : ℕ)
    → EndsThere T line (Load page url raw) page q
facts_load T line page url raw q =
    let found = load_changes T url raw in
    let statuses = set_logins raw in
    facts_end T line (Load page url raw) q page
    (Page page (origin_of url) ∷ (cookie_effects found ++ login_effects (origin_of url) statuses)) refl
    (refl, load_rest_silent stage_change (λ c. refl) (λ o s. refl) found (origin_of url) statuses)
    (refl, load_rest_silent (begins q) (λ c. refl) (λ o s. refl) found (origin_of url) statuses) (λ k. refl)

pub facts_close : (T : Trace) (line page : ℕ) (q : ℕ) (origin : Origin) → page_at T page ≡ Some origin
    → EndsThere T line (ClosePage page) page q
facts_close T line page q origin is =
    facts_end T line (ClosePage page) q page (Closed page ∷ []) (ap (close_effects (pending_of T page) page) is) (refl, tt)
    (refl, tt) (λ k. refl)

-- ---- calls that are no gets, or over

-- nothing is seen of a disconnect
pub disconnect_unseen : (p : Providers) (w : World) (ck : Ask → List ℕ) (call page : ℕ) (es : List CallEffect)
    → filter_map sets_login es ≡ []
    → filter_map (seen p) (flat_map (call_effects w ck DisconnectCall call page) es) ≡ []
disconnect_unseen p w ck call page [] none = refl
disconnect_unseen p w ck call page (does.SetLogin origin status ∷ es) none = absurd (cc)
disconnect_unseen p w ck call page (does.Send place ask ∷ es) none = disconnect_unseen p w ck call page es none
disconnect_unseen p w ck call page (does.Finish finish ∷ es) none = disconnect_unseen p w ck call page es none
disconnect_unseen p w ck call page (does.Ignored why ∷ es) none = disconnect_unseen p w ck call page es none
disconnect_unseen p w ck call page (does.Dialog dialog ∷ es) none = disconnect_unseen p w ck call page es none
disconnect_unseen p w ck call page (does.Dropped place failure ∷ es) none = disconnect_unseen p w ck call page es none
disconnect_unseen p w ck call page (does.Window place url ∷ es) none = disconnect_unseen p w ck call page es none
disconnect_unseen p w ck call page (does.Keep triple ∷ es) none = disconnect_unseen p w ck call page es none
disconnect_unseen p w ck call page (does.Forget triple ∷ es) none = disconnect_unseen p w ck call page es none
disconnect_unseen p w ck call page (does.ClearFlag origin ∷ es) none = disconnect_unseen p w ck call page es none
disconnect_unseen p w ck call page (does.ForgetPair o u ∷ es) none =
    goes_silent (seen p) (λ t. refl) (triples_of_pair w.kept o u) (flat_map (call_effects w ck DisconnectCall call page) es)
    ∙ disconnect_unseen p w ck call page es none

pub moved_unseen : (p : Providers) (call : ℕ) (stage : Option Stage) → filter_map (seen p) (moves DisconnectCall call stage) ≡ []
moved_unseen p call None = refl
moved_unseen p call (Some stage) = refl

sets_none : (o : Outcome) → Turn o → filter_map sets_login o.effects ≡ []
sets_none o (Gives finish other asked_none gave logins) = logins
sets_none o (GivesNone asked_none gave_none logins) = logins

-- nothing is seen of an input to a call that is no get, or is over
pub others_unseen : (p : Providers) (T : Trace) (event : Event) (call : ℕ) → Takes T event call → facts_at T call ≡ None
    → filter_map (seen p) (effects_of T event) ≡ []
others_unseen p T event call t none = go (taking T event call t)
  where
    go : Taking T event call → filter_map (seen p) (effects_of T event) ≡ []
    go (ByGet f m) = absurd (let no : Some f ≡ None = sym m.found ∙ none in cc)
    go (ByDisconnect f m) =
        let o = input_row (world_at T) (OfDisconnect f) m.takes.input in
        ap (filter_map (seen p)) (does_it T event call (OfDisconnect f) m)
        ∙ filter_map-append (seen p) (flat_map (call_effects (world_at T) (cookies_with T) DisconnectCall call f.page) o.effects)
        (moves DisconnectCall call o.stage)
        ∙ ap (λ xs. xs ++ filter_map (seen p) (moves DisconnectCall call o.stage))
        (disconnect_unseen p (world_at T) (cookies_with T) call f.page o.effects
        (sets_none o (disconnect_turn (world_at T) f m.takes.input)))
        ∙ moved_unseen p call o.stage
    go (ByNone taken is) = ap (filter_map (seen p)) (over_ignored T event call taken is)

-- a call that is not over began
pub get_is_begun : (T : Trace) (call : ℕ) (f : Facts) → facts_at T call ≡ Some f → is_begun T call ≡ true
get_is_begun T call f found = go (is_begun T call) refl
  where
    go : (begun : Bool) → is_begun T call ≡ begun → is_begun T call ≡ true
    go true is = is
    go false is =
        let unknown = unbegun_unknown T.header T.rows call is in
        let no : None ≡ Some f =
        sym (ap (λ k. option_and_then get_facts (known_by (stage_at T call) k)) unknown
        ∙ ap (option_and_then get_facts) (by_none (stage_at T call))) ∙ found in
        absurd (cc)
      where
        by_none : (stage : Option Stage) → known_by stage None ≡ None
        by_none None = refl
        by_none (Some stage) = refl
