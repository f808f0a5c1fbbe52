-- Scripts up to a kept event, and what they send there.
use Rattle.std.specs.Prelude.{◌≡◌, ℕ, zero, suc, Bool, true, false, List, [], ◌∷◌, filter, map, Option, Some, None}
use Rattle.std.specs.Prelude.{if◌then◌else◌}
use Rattle.std.specs.List.{list_any, AllByRecursion}
use Rattle.fed_origin.specs.declared.stage.ReplyKind.TheVariants as kinds
use Rattle.fed_consent.specs.declared.table.ask.Ask.{Ask}
use Rattle.fed_consent.specs.declared.table.ask.Ask.TheVariants as asks
use Rattle.fed_request.specs.Request.{request_bytes}
use Rattle.fed_script.specs.declared.event.Event.{Event}
use Rattle.fed_script.specs.declared.event.Event.TheVariants.{Disconnect, Have, Reply}
use Rattle.fed_script.specs.declared.event.Have.TheVariants.{Kept}
use Rattle.fed_script.specs.declared.event.Numbered.{Numbered}
use Rattle.fed_script.specs.Script.{Script}
use Rattle.fed_trace.specs.Begun.{of_get}
use Rattle.fed_trace.specs.Effect.{Effect, Sent}
use Rattle.fed_trace.specs.OfScript.{start, with_events}
use Rattle.fed_trace.specs.Trace.{Row, Trace, all_said}

-- ---- kept events

-- the event is compared: any but a metadata reply, and but a permission that is kept from before
abbrev pub is_kept : Event → Bool
is_kept (Have (Kept triple)) = false
is_kept (Reply call provider kinds.Metadata raw) = false
is_kept _ = true

-- the events that are compared, in their order
abbrev pub kept_events : List Numbered → List Event
kept_events events = filter is_kept (map (λ n. n.event) events)

-- the events up to and with the kept one of this number, counted from 1
abbrev pub up_to : ℕ → List Numbered → List Numbered
up_to zero events = []
up_to (suc k) [] = []
up_to (suc k) (n ∷ events) = n ∷ up_to (if is_kept n.event then k else suc k) events

-- the trace of a script up to and with its kept event of this number
abbrev pub trace_to : Script → ℕ → Trace
trace_to s k = with_events (start s.header) (up_to k s.events)

-- ---- what is sent

-- the event begins a disconnect, which sends its first requests there and nowhere else
abbrev pub is_disconnect : Event → Bool
is_disconnect (Disconnect page call config client hint) = true
is_disconnect _ = false

-- the bytes of one of the first three requests of a sign-in
abbrev pub first_bytes : Ask → List ℕ → Option (List ℕ)
first_bytes (asks.WellKnown to) cookies = Some (request_bytes (asks.WellKnown to) cookies)
first_bytes (asks.Config to) cookies = Some (request_bytes (asks.Config to) cookies)
first_bytes (asks.Accounts to) cookies = Some (request_bytes (asks.Accounts to) cookies)
first_bytes _ cookies = None

abbrev pub first_sent : Effect → Option (List ℕ)
first_sent (Sent kind call provider ask cookies) = of_get kind (first_bytes ask cookies)
first_sent _ = None

-- the bytes of the requests of gets for well-known files, configurations and accounts, in their order
abbrev pub first_requests : List Row → List (List ℕ)
first_requests rows = all_said first_sent rows

-- the request names the page and a user
abbrev pub is_naming : Ask → Bool
is_naming (asks.Assertion ask) = true
is_naming (asks.Disconnect to client hint origin) = true
is_naming _ = false

abbrev pub names : Effect → Bool
names (Sent kind call provider ask cookies) = is_naming ask
names _ = false

-- the row sends such a request, for a token or a disconnect
abbrev pub is_loud : Row → Bool
is_loud row = list_any names row.effects

-- no row does
abbrev pub AreQuiet : List Row → Type 0
AreQuiet rows = AllByRecursion (λ row. is_loud row ≡ false) rows

-- ---- of scripts

-- no event up to and with the kept one of this number asks for a token or a disconnect
abbrev pub Quiet : Script → ℕ → Type 0
Quiet s k = AreQuiet (trace_to s k).rows

-- the sign-in requests up to and with that event: for well-known files, configurations and accounts, byte for byte and in their order
abbrev pub sign_in : Script → ℕ → List (List ℕ)
sign_in s k = first_requests (trace_to s k).rows
