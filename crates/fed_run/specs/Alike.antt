-- What the transcripts of two scripts share.
use Rattle.std.specs.Prelude.{◌≡◌, ℕ, List, [], ◌∷◌, ◌++◌, Option, Some, None, Ok, if◌then◌else◌}
use Rattle.std.specs.List.{filter_map, before_first, after_first}
use Rattle.fed_origin.specs.declared.stage.ReplyKind.{ReplyKind}
use Rattle.fed_origin.specs.declared.stage.ReplyKind.TheVariants as kinds
use Rattle.fed_script.specs.declared.pair.Pair.{Pair}
use Rattle.fed_script.specs.Pair.{is_divider, pair_of}
use Rattle.fed_script.specs.Script.{Script, lines_of}
use Rattle.fed_trace.specs.declared.out.Out.{Out}
use Rattle.fed_trace.specs.declared.out.Out.TheVariants as outs
use Rattle.fed_trace.specs.Records.{records, records_in}
use Rattle.fed_trace.specs.Trace.{Row}
use Rattle.fed_print.specs.Lines.{text_of}
use Rattle.fed_twin.specs.Compare.{IsQuietLength}
use Rattle.fed_twin.specs.Script.{is_disconnect, trace_to}
use Rattle.fed_twin.specs.Twin.{Twin}
use Rattle.fed_run.specs.Run.{run_text}

-- the bytes of a request for a well-known file, a configuration or accounts
abbrev pub sign_in_bytes : ReplyKind → List ℕ → Option (List ℕ)
sign_in_bytes kinds.WellKnown bytes = Some bytes
sign_in_bytes kinds.Config bytes = Some bytes
sign_in_bytes kinds.Accounts bytes = Some bytes
sign_in_bytes _ bytes = None

-- those of a record
abbrev pub sign_in_request : Out → Option (List ℕ)
sign_in_request (outs.Request line call provider kind bytes) = sign_in_bytes kind bytes
sign_in_request _ = None

-- the sign-in requests among records, in their order
abbrev pub sign_in_requests : List Out → List (List ℕ)
sign_in_requests records = filter_map sign_in_request records

-- the records of a script up to and with its kept event of this number
abbrev pub records_to : Script → ℕ → List Out
records_to script k = records_in (trace_to script k).rows

-- the records of a row, unless a disconnect begins there, which sends its first requests then and at no other event
abbrev pub get_records : Row → List Out
get_records row = if is_disconnect row.event then [] else records row

-- those of rows, of which the newest comes first, in the order in which they are written
abbrev pub get_records_in : List Row → List Out
get_records_in [] = []
get_records_in (row ∷ rows) = get_records_in rows ++ get_records row

-- the sign-in requests of gets in the transcript of a script, up to and with its kept event of this number
abbrev pub get_requests_to : Script → ℕ → List (List ℕ)
get_requests_to script k = sign_in_requests (get_records_in (trace_to script k).rows)

-- a transcript begins with the lines of these records
pub record Begins (text : List ℕ) (records : List Out) : Type 0 where
  pub rest : List ℕ
  pub is : text ≡ text_of records ++ rest

-- these bytes are the lines before the first dividing line, and those after it
pub record AreHalves (bytes first second : List ℕ) : Type 0 where
  pub before : lines_of first ≡ before_first is_divider (lines_of bytes)
  pub after : lines_of second ≡ after_first is_divider (lines_of bytes)

-- what `run` writes of each half begins with records whose sign-in requests of gets are those of the other's
pub record RunAlike (first second : List ℕ) (pair : Pair) (quiet : ℕ) : Type 0 where
  pub begins : Begins (run_text first) (records_to pair.first quiet)
  pub begins' : Begins (run_text second) (records_to pair.second quiet)
  pub alike : get_requests_to pair.first quiet ≡ get_requests_to pair.second quiet

-- Of every input whose two halves are twins: the transcripts of the halves have the same sign-in requests of gets, up to the event that
-- `twin` names.
abbrev pub HalvesRunAlike : Type 0
HalvesRunAlike =
    (bytes first second : List ℕ) (pair : Pair) (quiet : ℕ)
    → pair_of bytes ≡ Ok pair → AreHalves bytes first second → Twin pair.first pair.second
    → IsQuietLength pair.first pair.second quiet → RunAlike first second pair quiet
