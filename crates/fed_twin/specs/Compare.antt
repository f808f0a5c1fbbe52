-- How far two scripts are compared.
use Rattle.std.specs.Prelude.{◌≡◌, ℕ, ◌≤◌, Bool, true, false, List, filter, length, Option, Some, None, if◌then◌else◌}
use Rattle.std.specs.List.{list_any, filter_map}
use Rattle.fed_origin.specs.declared.stage.ReplyKind.{ReplyKind}
use Rattle.fed_origin.specs.declared.stage.ReplyKind.TheVariants as kinds
use Rattle.fed_script.specs.declared.event.Event.{Event}
use Rattle.fed_script.specs.Script.{Script, IsRead}
use Rattle.fed_trace.specs.declared.out.Out.{Out}
use Rattle.fed_trace.specs.declared.out.Out.TheVariants.{Request}
use Rattle.fed_trace.specs.Trace.{Row}
use Rattle.fed_twin.specs.Script.{kept_events, first_sent, is_disconnect, is_loud, Quiet, sign_in}

-- the greatest number of kept events up to which neither script asks for a token or a disconnect
pub record IsQuietLength (a b : Script) (k : ℕ) : Type 0 where
  pub within : k ≤ length (kept_events a.events)
  pub first : Quiet a k
  pub second : Quiet b k
  pub greatest : (j : ℕ) → j ≤ length (kept_events a.events) → Quiet a j → Quiet b j → j ≤ k

-- ---- for private clauses

-- a token or a disconnect is asked for
abbrev pub is_naming_kind : ReplyKind → Bool
is_naming_kind kinds.Assertion = true
is_naming_kind kinds.Disconnect = true
is_naming_kind _ = false

-- the record is a request for a token or a disconnect
unfoldable pub is_naming_record : Out → Bool
is_naming_record (Request line call provider kind bytes) = is_naming_kind kind
is_naming_record _ = false

-- a well-known file, a configuration or accounts are asked for
abbrev pub is_first_kind : ReplyKind → Bool
is_first_kind kinds.WellKnown = true
is_first_kind kinds.Config = true
is_first_kind kinds.Accounts = true
is_first_kind _ = false

-- the record is one of the first three requests of a sign-in
unfoldable pub is_first_record : Out → Bool
is_first_record (Request line call provider kind bytes) = is_first_kind kind
is_first_record _ = false

-- the number of sign-in requests of gets among the records of an event
abbrev pub get_count : Event → List Out → ℕ
get_count event outs = if is_disconnect event then 0 else length (filter is_first_record outs)

-- the same, unless a record asks for a token or a disconnect
abbrev pub quiet_count : Event → List Out → Option ℕ
quiet_count event outs = if list_any is_naming_record outs then None else Some (get_count event outs)

-- the number of sign-in requests of gets of a row, unless it asks for a token or a disconnect
abbrev pub quiet_requests : Row → Option ℕ
quiet_requests row = if is_loud row then None else Some (length (filter_map first_sent row.effects))

-- A run of a script, up to so many kept events at most and short of the first row that asks for a token or a disconnect: how many
-- kept events it took, and how many sign-in requests were sent up to the last of these.
pub record QuietRun (s : Script) (most : ℕ) (run : ℕ × ℕ) : Type 0 where
  pub read : IsRead s
  pub few : run.0 ≤ most
  pub within : run.0 ≤ length (kept_events s.events)
  pub quiet : Quiet s run.0
  pub greatest : (k : ℕ) → k ≤ most → k ≤ length (kept_events s.events) → Quiet s k → k ≤ run.0
  pub sent : run.1 ≡ length (sign_in s run.0)
