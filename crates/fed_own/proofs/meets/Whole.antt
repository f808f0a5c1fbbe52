-- So an audit and a comparison of the own text find nothing.
use Rattle.fed_script.proofs.scripts.Read.{readable}
use Rattle.fed_trace.specs.OfScript.{start, trace_of}
use Rattle.fed_trace.proofs.runs.Scripts.{script_runs}
use Rattle.fed_own.specs.Whole.{OwnTranscriptPasses}
use Rattle.fed_own.proofs.meets.Meets.{meets_lem}
use Rattle.fed_own.proofs.served.Readable.{readable as readable_requests}
use Rattle.fed_own.proofs.served.Said.{rows_said, small_rows}
use Rattle.fed_own.proofs.walk.Lines.{script_good}
use Rattle.fed_own.proofs.walk.Rest.{events_rows, rows_good}
use Rattle.fed_own.proofs.texts.Texts.{text_compares, text_passes}

pub transcript_lem : OwnTranscriptPasses
transcript_lem bytes script read lines first =
    let T = trace_of script in
    let run = script_runs script (readable bytes script read) in
    let events = events_rows (start script.header) script.events tt (script_good bytes script read) in
    let good = rows_good T.header T.rows run events in
    let said = rows_said T.rows good (small_rows (start script.header) script.events tt lines) in (
      text_passes bytes script first read said (meets_lem T run (readable_requests T good)),
      text_compares bytes script first read said,
    )
