-- The text that this program writes of a script.
use Rattle.std.specs.Prelude.{ℕ, List, ◌++◌, length}
use Rattle.fed_print.specs.Lines.{line_of, text_of}
use Rattle.fed_script.specs.Script.{Script}
use Rattle.fed_trace.specs.OfScript.{trace_of}
use Rattle.fed_trace.specs.Records.{records_in}
use Rattle.fed_own.specs.Line.{end_members}

-- the lines of its records, and of the end
abbrev pub own_text : Script → List ℕ
own_text script = text_of (records_in (trace_of script).rows) ++ line_of (end_members (length (trace_of script).rows))
