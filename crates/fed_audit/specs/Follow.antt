-- What is kept while a transcript is audited, of what happened and of what the records said.
use Rattle.std.specs.Prelude.{◌≡◌, ℕ, ◌+◌, suc, Bool, false, nat_eq, List, [], ◌∷◌, ◌++◌, length, is_some, Option, Some, None, option_map}
use Rattle.std.specs.Prelude.{unwrap_or, if◌then◌else◌}
use Rattle.std.specs.Map.{lookup}
use Rattle.std.specs.List.{list_any}
use Rattle.std.specs.Option.{option_or}
use Rattle.indexmap.specs.IndexMap.{insert_entry}
use Rattle.fed_origin.specs.declared.origin.Origin.{Origin}
use Rattle.fed_origin.specs.declared.stage.ReplyKind.{ReplyKind}
use Rattle.fed_origin.specs.declared.stage.ReplyKind.TheVariants as kinds
use Rattle.fed_origin.specs.Origin.{is_trustworthy}
use Rattle.fed_script.specs.declared.event.Event.{Event}
use Rattle.fed_script.specs.declared.event.Event.TheVariants.{Load, ClosePage, Get, Disconnect}
use Rattle.fed_session.specs.Session.{Stands}
use Rattle.fed_trace.specs.Begun.{Begun}
use Rattle.fed_trace.specs.Effect.{begins, last_of}
use Rattle.fed_trace.specs.OfCall.{call_at, replaces}
use Rattle.fed_trace.specs.Records.{records}
use Rattle.fed_trace.specs.Trace.{Row, Trace, page_at}
use Rattle.fed_audit.specs.declared.record.Record.{Record}
use Rattle.fed_audit.specs.declared.seen.Call.{Call}
use Rattle.fed_audit.specs.declared.seen.Seen.{Seen}
use Rattle.fed_audit.specs.Asked.{first_asked}
use Rattle.fed_audit.specs.Record.{place_asked, is_result_of}
use Rattle.fed_audit.specs.Scene.{provider_count}

-- the number of the row by which a call began, counted from 1, of rows of which the newest comes first
abbrev pub row_begun : ℕ → List Row → ℕ
row_begun call [] = 0
row_begun call (row ∷ rows) = if is_some (last_of (begins call) row.effects) then suc (length rows) else row_begun call rows

-- that of the last row that loads or closes a page; 0 where none does
abbrev pub row_replaced : ℕ → List Row → ℕ
row_replaced page [] = 0
row_replaced page (row ∷ rows) = if replaces page row.event then suc (length rows) else row_replaced page rows

-- what is kept of a call that began
abbrev pub call_kept : ℕ → List Row → Begun → Call
call_kept call rows begun =
    record { page = begun.page; origin = begun.origin; providers = provider_count begun.options; begun = row_begun call rows }

-- whom the newest row asks for a token
abbrev pub asked_last : List Row → Option (ℕ × ℕ)
asked_last [] = None
asked_last (row ∷ rows) = first_asked (records row)

-- what is kept is that of what happened
pub record Follows (seen : Seen) (T : Trace) : Type 0 where
  pub stands : Stands seen.session T
  pub taken : seen.taken ≡ length T.rows
  pub calls : (call : ℕ) → lookup (nat_eq call) seen.calls ≡ option_map (call_kept call T.rows) (call_at T.rows call)
  pub replaced : (page : ℕ) → unwrap_or (lookup (nat_eq page) seen.replaced) 0 ≡ row_replaced page T.rows
  pub asks : seen.asks ≡ asked_last T.rows

-- the provider that the newest of these records asks for a token of the call
abbrev pub last_place : ℕ → List Record → Option ℕ
last_place call [] = None
last_place call (r ∷ records) = option_or (place_asked call r) (last_place call records)

-- it is this place
abbrev pub is_at : ℕ → Option ℕ → Bool
is_at provider place = unwrap_or (option_map (nat_eq provider) place) false

-- the record asks this provider for a token of the call
abbrev pub is_place : ℕ → ℕ → Record → Bool
is_place call provider r = is_at provider (place_asked call r)

-- what is kept is that of these records
pub record Notes (seen : Seen) (earlier : List Record) : Type 0 where
  pub asked : (call : ℕ) → lookup (nat_eq call) seen.asked ≡ last_place call earlier
  -- no call was asked twice
  pub once : (call provider : ℕ) → list_any (is_place call provider) earlier ≡ is_at provider (last_place call earlier)
  pub answered : (call : ℕ) → list_any (nat_eq call) seen.answered ≡ list_any (is_result_of call) earlier

-- ---- a record more

-- the places asked after a request of this kind
abbrev pub asked_with : ReplyKind → ℕ → ℕ → List (ℕ × ℕ) → List (ℕ × ℕ)
asked_with kinds.Assertion call provider asked = insert_entry nat_eq asked call provider
asked_with _ call provider asked = asked

-- the calls answered after a result of a call
abbrev pub answered_with : ℕ → List ℕ → List ℕ
answered_with call answered = if list_any (nat_eq call) answered then answered else answered ++ call ∷ []

-- ---- an event more

-- the calls that are kept, where a call with so many providers begins at a page of this origin by the row of this number
abbrev pub kept_with : Option Origin → ℕ → ℕ → ℕ → ℕ → List (ℕ × Call) → List (ℕ × Call)
kept_with None page call providers number calls = calls
kept_with (Some origin) page call providers number calls =
    if is_trustworthy origin
    then insert_entry nat_eq calls call (record { page = page; origin = origin; providers = providers; begun = number }) else calls

-- what is kept of pages and calls after an event, whose row is the next one
abbrev pub noted : Trace → Event → Seen → Seen
noted T (Load page url raw) seen = record seen { replaced = insert_entry nat_eq seen.replaced page (seen.taken + 1) }
noted T (ClosePage page) seen = record seen { replaced = insert_entry nat_eq seen.replaced page (seen.taken + 1) }
noted T (Get page call options) seen =
    record seen { calls = kept_with (page_at T page) page call (length options.providers) (seen.taken + 1) seen.calls }
noted T (Disconnect page call config client hint) seen =
    record seen { calls = kept_with (page_at T page) page call 1 (seen.taken + 1) seen.calls }
noted T _ seen = seen
