-- Where a permission suffices, the token is asked for.
use Rattle.std.proofs.Common.{◌≡◌, ℕ, suc, Bool, true, false, ◌⊎◌, inl, inr, List, [], ◌∷◌, ◌++◌, map, slice_get, Option, Some, None}
use Rattle.std.proofs.Common.{refl, sym, ap, subst, ◌∙◌}
use Rattle.std.specs.Prelude.{option_and_then, option_map, slice_set, zip, filter, ◌||◌, if◌then◌else◌}
use Rattle.std.specs.List.{filter_map, list_any, enumerate_from}
use Rattle.fed_origin.specs.declared.options.GetOptions.{GetOptions}
use Rattle.fed_origin.specs.declared.options.Mediation.{Mediation}
use Rattle.fed_accounts.specs.declared.account.Account.{Account}
use Rattle.fed_accounts.specs.Connection.{Reselect, eligible_pairs, is_eligible, is_required, only}
use Rattle.fed_status.specs.Flags.{has_flag}
use Rattle.fed_status.specs.Shared.{World}
use Rattle.fed_consent.specs.declared.table.ask.Ask.TheVariants as asks
use Rattle.fed_consent.specs.declared.consent.manner.Manner.TheVariants.{Reselected}
use Rattle.fed_consent.specs.Consent.{AssertionFields, Pick, candidate_by, pick_at, reselection_on}
use Rattle.fed_consent.specs.Outcomes.{Outcome}
use Rattle.fed_call.specs.declared.progress.Progress.{Progress}
use Rattle.fed_call.specs.Accounts.{Offered, Shortlist, all_offered, offered_by, reselected, reselected_of}
use Rattle.fed_call.specs.AssertingRows.{pick_of}
use Rattle.fed_call.specs.Facts.{Facts, Reselects, by_awaited, by_offered, by_reselected, concluded, conclusion_of, shortlists}
use Rattle.fed_call.specs.Facts.{with_progress}
use Rattle.fed_call.specs.Progress.{is_awaited}
use Rattle.fed_call.specs.SettledRows.{concludes}
use Rattle.fed_script.specs.declared.event.Event.{Event}
use Rattle.fed_trace.specs.Begun.{Begun, GetCall, ToGet}
use Rattle.fed_trace.specs.Effect.{Sent}
use Rattle.fed_trace.specs.Known.{world_at}
use Rattle.fed_trace.specs.OfCall.{Has, call_at}
use Rattle.fed_trace.specs.Row.{effects_of, row_of, with_event, cookies_with, IsNew, IsRun}
use Rattle.fed_trace.specs.Trace.{Trace, flags, kept}
use Rattle.fed_trace.proofs.happens.Says.{asks_token, drop_of}
use Rattle.fed_trace.proofs.happens.Taken.{Meets, does_at, outcome_of}
use Rattle.fed_laws.specs.Cause.{PermissionCause, all_settled, offers_from}
use Rattle.fed_laws.proofs.pending.Asked.{invariant}
use Rattle.fed_laws.proofs.pending.Stood.{Stood}
use Rattle.fed_laws.proofs.causes.Caused.{caused}
use Rattle.fed_laws.proofs.causes.Come.{AllCome, AllDone, all_set, done, settled_now, unsaid_other}
use Rattle.fed_laws.proofs.followed.Settling.{Found, none_awaited, settling_row}
use Rattle.fed_laws.proofs.turns.Settle.{offers_listed, reselected_pick}
use Rattle.fed_laws.proofs.turns.Turn.{Turn, Asks, Gives, Goes, request_of, turn_at}
use Rattle.fed_laws.proofs.turns.Way.{Drops, Gets, SettlesOne, SettlesSo}

-- a request of the call in the row
abbrev pub Sends : Trace → Event → ℕ → ℕ → List ℕ → Type 0
Sends T event call provider id =
    (ask : AssertionFields) × (cookies : List ℕ) × (ask.account ≡ id)
    × Has (effects_of T event) (Sent GetCall call provider (asks.Assertion ask) cookies)

-- what the call began with, as a cause has it
pub record Matches (T : Trace) (call : ℕ) (f : Facts) (b : Begun) (get : GetOptions) : Type 0 where
  pub of_page : f.page ≡ b.page
  pub of_origin : f.origin ≡ b.origin
  pub of_options : f.options ≡ get

pub matches : (T : Trace) (call : ℕ) (f : Facts) (b : Begun) (get : GetOptions) → Stood T call f → call_at T.rows call ≡ Some b
    → b.options ≡ ToGet get → Matches T call f b get
matches T call f b get s began is_get =
    let same : Some s.begun ≡ Some b = sym s.began ∙ began in
    let begun_is : s.begun ≡ b = cc in
    let asked_is : ToGet s.get ≡ ToGet get = sym s.is_get ∙ ap (λ x. x.options) begun_is ∙ is_get in
    let get_is : s.get ≡ get = cc in
    record {
      of_page = s.of_page ∙ ap (λ x. x.page) begun_is;
      of_origin = s.of_origin ∙ ap (λ x. x.origin) begun_is;
      of_options = s.of_options ∙ get_is;
    }

-- ---- the providers after the row that settled the last of them

pub settled_come : (T : Trace) (line : ℕ) (event : Event) (call : ℕ) (f : Facts) → (m : Meets T event call f)
    → (t : SettlesOne (world_at T) f m.takes.input (outcome_of T f m.takes.input)) → AllCome T.rows call f.options f.progress
    → AllCome (with_event T line event).rows call f.options (slice_set f.progress t.place t.progress)
settled_come T line event call f m t come =
    all_set T.rows call f.options f.progress (row_of T line event) t.place
    (unsaid_other T line event call f m t.place t.kind t.raw t.is_reply (drops_so t.so)) t.progress
    (settled_now T line event call f m t come) come
  where
    o : Outcome
    o = outcome_of T f m.takes.input

    drops_so : SettlesSo f t.place t.q t.kind t.raw t.progress o
        → (filter_map drop_of o.effects ≡ []) ⊎ (filter_map drop_of o.effects ≡ t.place ∷ [])
    drops_so (Drops failure is was dropping) = inr dropping
    drops_so (Gets config accounts rest is lists o_is dropping) = inl dropping

-- what the call comes to, where none is awaited
pub concludes_so : (world : World) (f : Facts) (progress : List Progress) → list_any is_awaited progress ≡ false
    → conclusion_of world f.origin f.options progress
    ≡ concluded f.options.mediation progress (has_flag world.flags f.origin) (shortlists world.kept f.origin 0 f.options.providers progress)
concludes_so world f progress none = ap (by_awaited world f.origin f.options progress) none

-- ---- reselection

none_on : (call : ℕ) (flag : Bool) (mediation : Mediation)
    → reselection_on (record { call = call; offers = []; flag = flag; mediation = mediation }) ≡ None
none_on call flag mediation = go (Reselect [] flag mediation)
  where
    go : (places : Option (ℕ × ℕ)) → option_and_then (pick_at call []) places ≡ None
    go None = refl
    go (Some places) = refl

record Named (f : Facts) (flag : Bool) (lists : List Shortlist) (pick : Pick) : Type 0 where
  offered : Offered
  named : reselected f.options.mediation flag lists ≡ Some offered
  is : pick_of f offered ≡ pick

named_of : (f : Facts) (flag : Bool) (lists : List Shortlist) (pick : Pick)
    → option_map (pick_of f) (reselected f.options.mediation flag lists) ≡ Some pick → Named f flag lists pick
named_of f flag lists pick h = go (reselected f.options.mediation flag lists) refl h
  where
    go : (r : Option Offered) → reselected f.options.mediation flag lists ≡ r → option_map (pick_of f) r ≡ Some pick
        → Named f flag lists pick
    go None is h = absurd (cc)
    go (Some x) is h = record { offered = x; named = is; is = cc }

pub some_none : {A : Type 0} (x : A) (xs : List A) → x ∷ xs ≡ [] → ⊥
some_none x xs h = cc

-- where nothing is offered, no account is eligible
none_eligible : (n : ℕ) (lists : List Shortlist) → all_offered lists ≡ [] → eligible_pairs n (map (λ list. list.offer) lists) ≡ []
none_eligible n [] none = refl
none_eligible n (list ∷ lists) none =
    go (zip list.offer.accounts list.offer.kept) (λ h. none_eligible (suc n) lists h) none
  where
    go : (entries : List (Account × Bool))
        → (all_offered lists ≡ [] → eligible_pairs (suc n) (map (λ list. list.offer) lists) ≡ [])
        → map (offered_by list) (map (candidate_by list.offer.client) entries) ++ all_offered lists ≡ []
        → map {B = ℕ × ℕ} (λ place. (n, place)) (map (λ entry. entry.0) (filter (is_eligible list.offer.client) (enumerate_from 0 entries)))
        ++ eligible_pairs (suc n) (map (λ list. list.offer) lists) ≡ []
    go [] rest h = rest h
    go (e ∷ es) rest h = absurd (cc)

none_named : (mediation : Mediation) (flag : Bool) (lists : List Shortlist) (x : Offered) → all_offered lists ≡ []
    → reselected mediation flag lists ≡ Some x → ⊥
none_named mediation flag lists x none named = go (flag || is_required mediation) (eligible_pairs 0 (map (λ list. list.offer) lists))
    (none_eligible 0 lists none) named
  where
    go : (against : Bool) (pairs : List (ℕ × ℕ)) → pairs ≡ []
        → option_and_then (λ p. option_and_then (reselected_of p.1) (slice_get lists p.0)) (if against then None else only pairs)
        ≡ Some x → ⊥
    go true pairs is h = cc
    go false [] is h = cc
    go false (p ∷ pairs) is h = some_none p pairs is

reselects_so : (mediation : Mediation) (progress : List Progress) (flag : Bool) (lists : List Shortlist) (x : Offered)
    → reselected mediation flag lists ≡ Some x → concluded mediation progress flag lists ≡ Reselects x
reselects_so mediation progress flag lists x named = go (all_offered lists) refl
  where
    go : (all : List Offered) → all_offered lists ≡ all → by_offered mediation progress (reselected mediation flag lists) all ≡ Reselects x
    go [] none = absurd (none_named mediation flag lists x none named)
    go (first ∷ more) are = ap (λ again. by_reselected mediation again first more) named

pub heads : {A : Type 0} (x y : A) → x ∷ [] ≡ y ∷ [] → x ≡ y
heads x y h = cc

none_some : {A : Type 0} (x : A) → None ≡ Some x → ⊥
none_some x h = cc

pub followed_permission : (T : Trace) (event : Event) (call provider : ℕ) (id : List ℕ) → IsRun T.header T.rows → IsNew T.rows event
    → PermissionCause T event call provider id → Sends T event call provider id
followed_permission T event call provider id run new cause = go (turn_at w f m.takes.input)
  where
    w : World
    w = world_at T

    found : Found T event call
    found =
        settling_row T cause.line event call cause.last.get cause.last.settlements (kept T) cause.last.begun.origin run new
        (λ h. record {
          begun = cause.last.begun;
          began = cause.last.began;
          is_get =
              cause.last.is_get;
        }) cause.last.all cause.last.not_before
        (λ empty. none_some cause.pick
        (sym (none_on call (has_flag (flags T) cause.last.begun.origin) cause.last.get.mediation)
        ∙ ap (λ os. reselection_on (record {
          call = call;
          offers = os;
          flag = has_flag (flags T) cause.last.begun.origin;
          mediation =
              cause.last.get.mediation;
        }))
        (sym empty) ∙ cause.names))

    f : Facts
    f = found.facts

    m : Meets T event call f
    m = found.meets

    t : SettlesOne w f m.takes.input (outcome_of T f m.takes.input)
    t = found.settles

    o : Outcome
    o = outcome_of T f m.takes.input

    s : Stood T call f
    s = (invariant T.header T.rows call run).stood f m.found

    begins : Matches T call f cause.last.begun cause.last.get
    begins = matches T call f cause.last.begun cause.last.get s cause.last.began cause.last.is_get

    progress : List Progress
    progress = slice_set f.progress t.place t.progress

    come : AllCome (with_event T cause.line event).rows call f.options progress
    come = settled_come T cause.line event call f m t ((caused T.header T.rows call run f m.found).come found.first)

    all : all_settled call 0 f.options.providers (with_event T cause.line event).rows ≡ Some cause.last.settlements
    all = ap (λ g. all_settled call 0 g.providers (with_event T cause.line event).rows) begins.of_options ∙ cause.last.all

    awaited : list_any is_awaited progress ≡ false
    awaited = none_awaited (with_event T cause.line event).rows call f.options progress cause.last.settlements come all

    d : AllDone (with_event T cause.line event).rows call 0 f.options.providers progress
    d = done (with_event T cause.line event).rows call f.options progress come awaited

    settlements_are : cause.last.settlements ≡ d.settlements
    settlements_are = let both : Some cause.last.settlements ≡ Some d.settlements = sym all ∙ d.all in cc

    lists : List Shortlist
    lists = shortlists (kept T) f.origin 0 f.options.providers progress

    flag : Bool
    flag = has_flag (flags T) f.origin

    picked : option_map (pick_of f) (reselected f.options.mediation flag lists) ≡ Some cause.pick
    picked =
        sym (reselected_pick f flag lists)
        ∙ ap (λ os. reselection_on (record { call = f.call; offers = os; flag = flag; mediation = f.options.mediation }))
        (sym (offers_listed (kept T) f.origin 0 progress f.options.providers d.settlements d.so))
        ∙ ap (λ ss. reselection_on (record {
          call = f.call;
          offers = offers_from (kept T) f.origin 0 f.options.providers ss;
          flag =
              flag;
          mediation = f.options.mediation;
        }))
        (sym settlements_are)
        ∙ ap (λ (g : GetOptions). reselection_on (record {
          call = f.call;
          offers =
              offers_from (kept T) f.origin 0 g.providers cause.last.settlements;
          flag = flag;
          mediation = g.mediation;
        }))
        begins.of_options
        ∙ ap (λ p. reselection_on (record {
          call = f.call;
          offers =
              offers_from (kept T) p 0 cause.last.get.providers cause.last.settlements;
          flag = has_flag (flags T) p;
          mediation =
              cause.last.get.mediation;
        }))
        begins.of_origin
        ∙ ap (λ n. reselection_on (record {
          call = n;
          offers =
              offers_from (kept T) cause.last.begun.origin 0 cause.last.get.providers cause.last.settlements;
          flag =
              has_flag (flags T) cause.last.begun.origin;
          mediation = cause.last.get.mediation;
        }))
        s.of_call
        ∙ cause.names

    n : Named f flag lists cause.pick
    n = named_of f flag lists cause.pick picked

    conclusion_is : t.conclusion ≡ Reselects n.offered
    conclusion_is =
        sym t.concluded ∙ concludes_so w f progress awaited ∙ reselects_so f.options.mediation progress flag lists n.offered n.named

    request : AssertionFields
    request = request_of f n.offered Reselected false

    asks_so : filter_map asks_token o.effects ≡ (n.offered.place, request) ∷ []
    asks_so =
        t.asks_it ∙ ap (λ c. filter_map asks_token (concludes w (with_progress t.place t.progress f) c).effects) conclusion_is

    never : filter_map asks_token o.effects ≡ [] → Sends T event call provider id
    never none = absurd (some_none (n.offered.place, request) [] (sym asks_so ∙ none))

    go : Turn w f m.takes.input o → Sends T event call provider id
    go (Gives finish ended none gives token) = never none
    go (Goes none gives leaves back) = never none
    go (Asks a) =
        let ask = request_of f a.offered a.manner a.disclosure in
        let whole : ◌≡◌ {A = List (ℕ × AssertionFields)} ((a.offered.place, ask) ∷ []) ((n.offered.place, request) ∷ []) =
        sym a.is.asks_it ∙ asks_so in
        let both : ◌≡◌ {A = ℕ × AssertionFields} (a.offered.place, ask) (n.offered.place, request) =
        heads (a.offered.place, ask) (n.offered.place, request) whole in
        let place_is : a.offered.place ≡ provider = ap (λ x. x.0) both ∙ ap (λ (p : Pick). p.provider) n.is ∙ cause.is_provider in
        let account_is : ask.account ≡ id =
        ap (λ x. x.1.account) both ∙ ap (λ (p : Pick). p.candidate.account.id) n.is ∙ cause.is_account in
        let cookies = cookies_with T (asks.Assertion ask) in (
          ask,
          cookies,
          account_is,
          subst (λ p. Has (effects_of T event) (Sent GetCall call p (asks.Assertion ask) cookies)) place_is
              (subst (λ es. Has es (Sent GetCall call a.offered.place (asks.Assertion ask) cookies)) (sym (does_at T event call f m))
              (a.is.sends w (cookies_with T) call f.page)),
        )
