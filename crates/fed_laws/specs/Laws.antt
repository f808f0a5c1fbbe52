-- What the traces promise.
use Rattle.std.specs.Prelude.{◌≡◌, ℕ, Bool, true, false, ◌≤◌, List, ◌∷◌, ◌++◌, length, Some, Ok, Err}
use Rattle.std.specs.List.{list_any}
use Rattle.url.specs.Parts.{Parts}
use Rattle.fed_origin.specs.declared.stage.ReplyKind.TheVariants as kinds
use Rattle.fed_origin.specs.declared.stage.Stage.TheVariants.{Gathering}
use Rattle.fed_origin.specs.declared.status.Triple.{Triple}
use Rattle.fed_origin.specs.declared.origin.Origin.{Origin}
use Rattle.fed_origin.specs.Origin.{origin_text}
use Rattle.fed_token.specs.Read.{AssertionOf}
use Rattle.fed_consent.specs.declared.table.ask.Ask.{Ask}
use Rattle.fed_consent.specs.declared.table.ask.Ask.TheVariants as asks
use Rattle.fed_consent.specs.declared.table.finish.Finish.TheVariants.{Token}
use Rattle.fed_consent.specs.Ask.{named_origin}
use Rattle.fed_consent.specs.Consent.{AssertionFields}
use Rattle.fed_call.specs.Facts.{Facts}
use Rattle.fed_call.specs.Progress.{is_awaited}
use Rattle.fed_trace.specs.Begun.{Begun, CallKind, GetCall}
use Rattle.fed_trace.specs.Known.{facts_at}
use Rattle.fed_trace.specs.OfCall.{Has, assertions, call_at, disturbs}
use Rattle.fed_laws.specs.Cause.{AssertionCause, SaysWhy, Delivers, IsKept, IsTaken, DisconnectCause, SaysDisconnect, Naming}
use Rattle.fed_script.specs.declared.event.Event.TheVariants.{Reply}
use Rattle.fed_trace.specs.Effect.{Sent, Kept, Result}
use Rattle.fed_trace.specs.Row.{IsRun}
use Rattle.fed_session.specs.Session.{State, Stands}
use Rattle.fed_trace.specs.Trace.{Row, Trace}
use Rattle.fed_script.specs.declared.event.Header.{Header}
use Rattle.fed_script.specs.Script.{Script, Stop, script_of, IsRead}
use Rattle.fed_trace.specs.OfScript.{start, with_events, trace_of}

-- a law of each trace whose rows are those of its events
abbrev pub OfRuns : (Trace → Type 0) → Type 0
OfRuns law = (T : Trace) → IsRun T.header T.rows → law T

-- the same of each trace that a session stands for
abbrev pub OfSessions : (Trace → Type 0) → Type 0
OfSessions law = (s : State) (T : Trace) → Stands s T → law T

-- the same of the trace of the events before each bad line, where a header stands before them
abbrev pub OfStops : (Trace → Type 0) → Type 0
OfStops law =
    (bytes : List ℕ) (stop : Stop) (header : Header)
    → script_of bytes ≡ Err stop → stop.header ≡ Some header → law (with_events (start header) stop.events)

-- the same of the trace of each readable script, and of the events before each bad line
abbrev pub OfScripts : (Trace → Type 0) → Type 0
OfScripts law = ((script : Script) → IsRead script → law (trace_of script)) × OfStops law

-- the trace as it was before a row
abbrev pub at : Trace → List Row → Trace
at T before = record { header = T.header; rows = before }

-- a call that gathers what its providers say waits for one of them
abbrev pub GatheringAwaits : Trace → Type 0
GatheringAwaits T = (call : ℕ) (f : Facts) → facts_at T call ≡ Some f → f.stage ≡ Gathering → list_any is_awaited f.progress ≡ true

-- no call asks for two tokens
abbrev pub AsksOnce : Trace → Type 0
AsksOnce T = (call : ℕ) → length (assertions call T.rows) ≤ 1

-- where a row asks for a token, its event is the cause, and the request says so
abbrev pub HasCause : Trace → Type 0
HasCause T =
    (after before : List Row) (row : Row) (kind : CallKind) (call provider : ℕ) (ask : AssertionFields) (cookies : List ℕ)
    → T.rows ≡ after ++ row ∷ before → Has row.effects (Sent kind call provider (asks.Assertion ask) cookies)
    → (cause : AssertionCause (at T before) row.event call provider ask.account)
    × SaysWhy (at T before) row.event call provider ask.account cause ask

-- a token is given to the page that asked for it, as the provider's reply says
abbrev pub ReachesItsPage : Trace → Type 0
ReachesItsPage T =
    (after before : List Row) (row : Row) (call page provider : ℕ) (auto : Bool) (token : List ℕ)
    → T.rows ≡ after ++ row ∷ before → Has row.effects (Result call page (Token auto provider token))
    → Delivers (at T before) row.event call page provider token

-- Where the reply to a call's request holds a token, and nothing disturbed the call since that request, the page gets the token.
abbrev pub IsAnswered : Trace → Type 0
IsAnswered T =
    (after since before : List Row) (row asking : Row) (kind : CallKind) (call provider : ℕ) (ask : AssertionFields) (cookies : List ℕ)
    (begun : Begun) (raw token : List ℕ)
    → T.rows ≡ after ++ row ∷ (since ++ asking ∷ before)
    → Has asking.effects (Sent kind call provider (asks.Assertion ask) cookies)
    → call_at before call ≡ Some begun → list_any (disturbs call begun.page) since ≡ false
    → row.event ≡ Reply call provider kinds.Assertion raw → AssertionOf raw (origin_text begun.origin) ≡ Ok token
    → (auto : Bool) × Has row.effects (Result call begun.page (Token auto provider token))

-- where an event is a cause, its row asks for the token
abbrev pub IsAskedFor : Trace → Type 0
IsAskedFor T =
    (after before : List Row) (row : Row) (call provider : ℕ) (id : List ℕ)
    → T.rows ≡ after ++ row ∷ before → AssertionCause (at T before) row.event call provider id
    → (ask : AssertionFields) × (cookies : List ℕ) × (ask.account ≡ id)
    × Has row.effects (Sent GetCall call provider (asks.Assertion ask) cookies)

-- a permission that is kept from a row on was kept before the script, or is that of a call whose page is given a token by the row
abbrev pub ComesByToken : Trace → Type 0
ComesByToken T =
    (after before : List Row) (row : Row) (triple : Triple)
    → T.rows ≡ after ++ row ∷ before → Has row.effects (Kept triple true) → IsKept (at T before) row.event triple

-- a permission that goes at a row goes by the reply to a disconnect call
abbrev pub GoesByDisconnect : Trace → Type 0
GoesByDisconnect T =
    (after before : List Row) (row : Row) (triple : Triple)
    → T.rows ≡ after ++ row ∷ before → Has row.effects (Kept triple false) → IsTaken (at T before) row.event triple

-- where a row asks for a disconnect, its event is the cause, and the request says so
abbrev pub DisconnectHasCause : Trace → Type 0
DisconnectHasCause T =
    (after before : List Row) (row : Row) (kind : CallKind) (call provider : ℕ) (to : Parts) (client hint : List ℕ) (origin : Origin)
    (cookies : List ℕ)
    → T.rows ≡ after ++ row ∷ before → Has row.effects (Sent kind call provider (asks.Disconnect to client hint origin) cookies)
    → (cause : DisconnectCause (at T before) row.event call)
    × SaysDisconnect (at T before) row.event call cause to client hint origin

-- a request that names its page carries no cookies, or asks for a token or a disconnect, with the cause of that
abbrev pub NamedWithCookies : Trace → Type 0
NamedWithCookies T =
    (after before : List Row) (row : Row) (kind : CallKind) (call provider : ℕ) (ask : Ask) (cookies : List ℕ) (origin : Origin)
    → T.rows ≡ after ++ row ∷ before → Has row.effects (Sent kind call provider ask cookies) → named_origin ask ≡ Some origin
    → Naming (at T before) row.event call provider ask cookies
