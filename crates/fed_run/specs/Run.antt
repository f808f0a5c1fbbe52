-- What `run` writes, and how it ends.
use Rattle.std.specs.Prelude.{◌≡◌, ℕ, ◌+◌, ◌-◌, ◌^◌, ◌<◌, nat_lt, Bool, true, false, List, [], ◌∷◌, ◌++◌, length, take}
use Rattle.std.specs.Prelude.{Option, Some, None, Result, Ok, Err}
use Rattle.std.specs.Io.KnownBytes.{Consumes}
use Rattle.fed_script.specs.declared.cause.LineCause.{LineCause}
use Rattle.fed_script.specs.declared.event.Header.{Header}
use Rattle.fed_script.specs.declared.event.Numbered.{Numbered}
use Rattle.fed_script.specs.Pieces.{whole_lines}
use Rattle.fed_script.specs.Reader.{ended_lines, events_in}
use Rattle.fed_script.specs.Script.{Script, Stop, script_of, script_of_lines}
use Rattle.fed_trace.specs.OfScript.{start, with_events, trace_of}
use Rattle.fed_trace.specs.Records.{records}
use Rattle.fed_trace.specs.Trace.{Row, Trace}
use Rattle.fed_run.specs.declared.status.Status.{Status}
use Rattle.fed_run.specs.declared.status.Status.TheVariants.{Done, BadScript, TooLong}
use Rattle.fed_print.specs.Lines.{line_of, text_of}
use Rattle.fed_run.specs.Text.{bad_members, end_members}

-- the lines of the records of the rows, of which the newest comes first
abbrev pub rows_text : List Row → List ℕ
rows_text [] = []
rows_text (row ∷ rows) = rows_text rows ++ text_of (records row)

-- what is written of a trace, and of its end
abbrev pub ended_text : Trace → List ℕ
ended_text T = rows_text T.rows ++ line_of (end_members (length T.rows))

-- what is written of a trace, and of the bad line after it
abbrev pub bad_text : Trace → ℕ → LineCause → List ℕ
bad_text T line cause = rows_text T.rows ++ line_of (bad_members line cause)

-- what is written of what was read before a bad line, and of that line
abbrev pub stop_text : Option Header → List Numbered → ℕ → LineCause → List ℕ
stop_text None events line cause = line_of (bad_members line cause)
stop_text (Some header) events line cause = bad_text (with_events (start header) events) line cause

-- what is written of a script, or of what stands in its place
unfoldable pub script_text : Result Script Stop → List ℕ
script_text (Ok script) = ended_text (trace_of script)
script_text (Err stop) = stop_text stop.header stop.events stop.line stop.cause

-- the text that a run writes for the bytes that it reads
abbrev pub run_text : List ℕ → List ℕ
run_text bytes = script_text (script_of bytes)

-- what is written of the events that follow a header
abbrev pub events_text : Option Header → List Numbered → List ℕ
events_text None events = []
events_text (Some header) events = rows_text (with_events (start header) events).rows

-- what is written of the events of a script, or of those before its first bad line, without the record of the end
abbrev pub front_text : Result Script Stop → List ℕ
front_text (Ok script) = events_text (Some script.header) script.events
front_text (Err stop) = events_text stop.header stop.events

-- what is written of the lines of bytes that end there with LF, before the first bad one
abbrev pub lines_text : List ℕ → List ℕ
lines_text bytes = front_text (script_of_lines (whole_lines bytes))

-- the first bad line among those that end in bytes with LF
abbrev pub bad_ended : List ℕ → Option (ℕ × LineCause)
bad_ended bytes = (events_in (ended_lines bytes)).bad

-- how a run ends for what it reads
abbrev pub script_status : Result Script Stop → Status
script_status (Ok script) = Done
script_status (Err stop) = BadScript

-- how a run ends: by a line that is bad and ends within the limit, else by bytes that are more than the limit, else as the script does
abbrev pub status_by : Option (ℕ × LineCause) → Bool → Status → Status
status_by (Some bad) long last = BadScript
status_by None true last = TooLong
status_by None false last = last

-- how a run ends for the bytes of its source, where nothing fails
abbrev pub run_status : ℕ → List ℕ → Status
run_status limit bytes =
    status_by (bad_ended (take limit bytes)) (nat_lt limit (length bytes)) (script_status (script_of bytes))

-- what a run writes that ends so: of bytes that are more than the limit what the lines say that end within it
abbrev pub written_by : Status → ℕ → List ℕ → List ℕ
written_by TooLong limit bytes = lines_text (take limit bytes)
written_by _ limit bytes = run_text bytes

abbrev pub run_written : ℕ → List ℕ → List ℕ
run_written limit bytes = written_by (run_status limit bytes) limit bytes

-- told bytes lose at most so many
abbrev pub TakesAtMost : Option (List ℕ) → Option (List ℕ) → ℕ → Type 0
TakesAtMost old new most = (bytes : List ℕ) × Consumes old new bytes × (length bytes < most + 1)

-- told bytes lose exactly so many
abbrev pub TakesExactly : Option (List ℕ) → Option (List ℕ) → ℕ → Type 0
TakesExactly old new count = (bytes : List ℕ) × Consumes old new bytes × (length bytes ≡ count)

-- no count of faults rose: it is what it was, and not the greatest u64, at which it would stand still
abbrev pub NoneRose : ℕ → ℕ → Type 0
NoneRose before now = (now ≡ before) × (before < 2 ^ 64 - 1)
