-- What each event tells, it tells once.
use Rattle.std.proofs.Common.{ℕ, Bool, true, false, List, Option, Some, None, refl, sym, ap, subst, ◌∙◌}
use Rattle.std.specs.List.{filter_map}
use Rattle.fed_origin.specs.declared.origin.Origin.{Origin}
use Rattle.fed_origin.specs.Origin.{is_trustworthy}
use Rattle.fed_status.specs.Shared.{World}
use Rattle.fed_consent.specs.declared.table.ask.Ask.{Ask}
use Rattle.fed_consent.specs.declared.table.input.Input.{Input}
use Rattle.fed_disconnect.specs.Facts.{disconnect_options}
use Rattle.fed_script.specs.declared.event.Event.{Event}
use Rattle.fed_script.specs.declared.event.Event.TheVariants as events
use Rattle.fed_script.specs.declared.event.Event.TheVariants.{At, ClosePage, Disconnect, Get, Load, Prevent, SetStatus}
use Rattle.fed_trace.specs.Begun.{Begun, CallKind, CallOptions, ToDisconnect, ToGet, kind_asked}
use Rattle.fed_trace.specs.Call.{Known, first_row, input_row, kind_of, page_of}
use Rattle.fed_trace.specs.Effect.{Effect, Flag, Login}
use Rattle.fed_trace.specs.Known.{input_of, is_begun, known_at, world_at}
use Rattle.fed_trace.specs.Row.{begin_effects, brought_effects, close_effects, cookies_with, effects_of, have_changes, input_effects}
use Rattle.fed_trace.specs.Row.{is_busy, load_changes, set_logins, standing_call}
use Rattle.fed_trace.specs.Trace.{Trace, gets, page_at, pending_of}
use Rattle.fed_trace.proofs.calls.Pending.{load_silent}
use Rattle.fed_trace.proofs.effects.Silent.{AllSilent, said_silent}
use Rattle.fed_trace.proofs.events.Aside.{close_silent, have_silent, says_silent}
use Rattle.fed_laws.specs.Laws.{OfRuns}
use Rattle.fed_laws.proofs.tokens.Token.{row_of_trace}
use Rattle.fed_own.specs.Once.{AreApart, TellsOnce}
use Rattle.fed_own.proofs.tells.Tells.{apart_for, key_sent, outcome_tells, told_by_call, told_keys}
use Rattle.fed_own.proofs.tells.First.{first_split}
use Rattle.fed_own.proofs.tells.Inputs.{few_split, input_few}
use Rattle.fed_own.proofs.tells.Resumed.{resumed_apart}

-- what effects tell, they tell once
abbrev pub TellApart : List Effect → Type 0
TellApart effects = AreApart (filter_map key_sent effects)

silent_apart : (effects : List Effect) → AllSilent key_sent effects → TellApart effects
silent_apart effects silent = subst AreApart (sym (said_silent key_sent effects silent)) tt

begins_apart : (world : World) (cookies : Ask → List ℕ) (trusted busy : Bool) (b : Begun)
    → TellApart (standing_call world cookies trusted busy b)
begins_apart world cookies false busy b = tt
begins_apart world cookies true busy b =
    let o = first_row world busy b.origin b.options in
    subst AreApart (sym (outcome_tells world cookies (kind_asked b.options) b.call b.page o))
    (apart_for b.call (told_by_call o) (first_split world busy b.origin b.options))

begin_apart : (world : World) (cookies : Ask → List ℕ) (o : Option Origin) (busy : Bool) (page call : ℕ) (options : CallOptions)
    → TellApart (begin_effects world cookies o busy page call options)
begin_apart world cookies None busy page call options = tt
begin_apart world cookies (Some origin) busy page call options =
    begins_apart world cookies (is_trustworthy origin) busy
    (record { call = call; page = page; origin = origin; options = options })

input_apart : (world : World) (cookies : Ask → List ℕ) (begun : Bool) (call : ℕ) (known : Option Known) (input : Input)
    → TellApart (input_effects world cookies begun call known input)
input_apart world cookies false call known input = tt
input_apart world cookies true call None input = tt
input_apart world cookies true call (Some known) input =
    let o = input_row world known input in
    subst AreApart (sym (outcome_tells world cookies (kind_of known) call (page_of known) o))
    (apart_for call (told_by_call o) (few_split (told_by_call o) (input_few world known input)))

brought_apart : (T : Trace) (brought : Option (ℕ × Input)) → TellApart (brought_effects T brought)
brought_apart T None = tt
brought_apart T (Some brought) =
    input_apart (world_at T) (cookies_with T) (is_begun T brought.0) brought.0 (known_at T brought.0) brought.1

close_apart : (calls : List (ℕ × CallKind)) (page : ℕ) (o : Option Origin) → TellApart (close_effects calls page o)
close_apart calls page None = tt
close_apart calls page (Some origin) = silent_apart _ (close_silent key_sent (λ n c. refl) (λ p. refl) calls page)

pub event_apart : (T : Trace) (event : Event) → TellApart (effects_of T event)
event_apart T (events.Have have) =
    silent_apart _ (have_silent key_sent (record { cookie = λ c. refl; login = λ o s. refl; kept = λ t k. refl; flag = λ o k. refl })
    (have_changes T have) have)
event_apart T (At time) = tt
event_apart T (Prevent page) = silent_apart _ (says_silent key_sent (λ origin. Flag origin true) (λ o. refl) (λ w. refl) (page_at T page))
event_apart T (SetStatus page status) =
    silent_apart _ (says_silent key_sent (λ origin. Login origin status) (λ o. refl) (λ w. refl) (page_at T page))
event_apart T (Load page url raw) =
    silent_apart _
    (load_silent key_sent (λ n c. refl) (λ p o. refl) (λ c. refl) (λ o s. refl) (pending_of T page) page url (load_changes T url raw)
    (set_logins raw))
event_apart T (ClosePage page) = close_apart (pending_of T page) page (page_at T page)
event_apart T (Get page call options) =
    begin_apart (world_at T) (cookies_with T) (page_at T page) (is_busy page (gets T)) page call (ToGet options)
event_apart T (Disconnect page call config client hint) =
    begin_apart (world_at T) (cookies_with T) (page_at T page) (is_busy page (gets T)) page call
    (ToDisconnect (disconnect_options config client hint))
event_apart T (events.IdpClose page) = resumed_apart (world_at T) (cookies_with T) (known_at T) T (page_at T page)
event_apart T (events.Abort call) = brought_apart T (input_of (events.Abort call))
event_apart T (events.Reply call place kind raw) = brought_apart T (input_of (events.Reply call place kind raw))
event_apart T (events.Choose call place account) = brought_apart T (input_of (events.Choose call place account))
event_apart T (events.GoOn call) = brought_apart T (input_of (events.GoOn call))
event_apart T (events.Cancel call) = brought_apart T (input_of (events.Cancel call))
event_apart T (events.SignIn call) = brought_apart T (input_of (events.SignIn call))
event_apart T (events.ShutWindow call) = brought_apart T (input_of (events.ShutWindow call))

pub once_lem : OfRuns TellsOnce
once_lem T run after before row is =
    let of = row_of_trace T after before row run is in
    subst AreApart (sym (told_keys row.line row.effects ∙ ap (filter_map key_sent) of.effects))
    (event_apart (record { header = T.header; rows = before }) row.event)
