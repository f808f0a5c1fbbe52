-- The lines of the text that this program writes of a script are read as its own records.
use Rattle.std.proofs.Common.{◌≡◌, ℕ, ◌+◌, ◌^◌, ◌<◌, ◌≤◌, List, [], ◌∷◌, ◌++◌, length, map, Ok, refl, sym, ap, ◌∙◌, subst, arith}
use Rattle.std.specs.List.{AllByRecursion}
use Rattle.fed_print.specs.Lines.{line_of}
use Rattle.fed_script.specs.declared.event.Numbered.{Numbered}
use Rattle.fed_script.specs.Script.{AreRead, Script, lines_of, script_of}
use Rattle.fed_script.specs.Used.{UsedState, unused, used_after}
use Rattle.fed_script.proofs.scripts.Read.{readable}
use Rattle.fed_trace.specs.declared.out.Out.{Out}
use Rattle.fed_trace.specs.OfScript.{start, trace_of, with_events}
use Rattle.fed_trace.specs.Records.{records_in}
use Rattle.fed_trace.specs.Row.{with_event}
use Rattle.fed_trace.specs.Trace.{Trace}
use Rattle.fed_audit.specs.declared.record.Record.{Record}
use Rattle.fed_audit.specs.declared.record.Record.TheVariants as says
use Rattle.fed_own.specs.Laws.{OwnTextCompares, OwnTextPasses}
use Rattle.fed_own.specs.Line.{IsSaid, end_line, end_members, own_line}
use Rattle.fed_own.specs.Own.{AreReadAs, own_records, said_of}
use Rattle.fed_own.specs.Text.{own_text}
use Rattle.fed_own.proofs.alike.Alike.{compare_lem}
use Rattle.fed_own.proofs.lines.Read.{end_is_read, read_lem}
use Rattle.fed_own.proofs.lines.Whole.{last_line, text_lines}
use Rattle.fed_own.proofs.lines.Written.{end_written}
use Rattle.fed_own.proofs.passes.Turns.{pass_lem}

-- ---- how many events there are

few_events : (used : UsedState) (ns : List Numbered) → AreRead used ns → used.events ≤ 1000000 → used.events + length ns ≤ 1000000
few_events used [] read h = omega (arith, h)
few_events used (n ∷ ns) read h =
    let few = read.0.few in
    let rest = few_events (used_after n.event used) ns read.1 (omega (arith, few)) in
    omega (arith, rest)

rows_count : (T : Trace) (ns : List Numbered) → length (with_events T ns).rows ≡ length T.rows + length ns
rows_count T [] = omega arith
rows_count T (n ∷ ns) = let rest = rows_count (with_event T n.line n.event) ns in omega (arith, rest)

few_rows : (bytes : List ℕ) (script : Script) → script_of bytes ≡ Ok script → length (trace_of script).rows < 2 ^ 32
few_rows bytes script read =
    let few = few_events (unused script.header.now) script.events (readable bytes script read) (omega arith) in
    let count = rows_count (start script.header) script.events in
    omega (arith, few, count)

-- ---- what the lines are read as

lines_read : (outs : List Out) (lines : List (List ℕ)) (records : List Record) → AllByRecursion IsSaid outs → AreReadAs lines records
    → AreReadAs (map own_line outs ++ lines) (map said_of outs ++ records)
lines_read [] lines records said read = read
lines_read (out ∷ outs) lines records said read =
    let this = read_lem out said.0 in (this.stands, this.reads, lines_read outs lines records said.1 read)

text_read : (bytes : List ℕ) (script : Script) → script_of bytes ≡ Ok script → AllByRecursion IsSaid (records_in (trace_of script).rows)
    → AreReadAs (lines_of (own_text script)) (own_records script)
text_read bytes script read said =
    let events = length (trace_of script).rows in
    let few = few_rows bytes script read in
    subst (λ lines. AreReadAs lines (own_records script))
    (sym (text_lines (records_in (trace_of script).rows) (line_of (end_members events)) said
    ∙ ap (λ ls. map own_line (records_in (trace_of script).rows) ++ ls) (last_line events (end_written events few))))
    (lines_read (records_in (trace_of script).rows) (end_line events ∷ []) (says.End ∷ []) said (refl, end_is_read events few, tt))

pub text_compares : OwnTextCompares
text_compares bytes script first read said =
    compare_lem bytes script first (lines_of (own_text script)) read (text_read bytes script read said)

pub text_passes : OwnTextPasses
text_passes bytes script first read said meets =
    pass_lem bytes script first (lines_of (own_text script)) read (text_read bytes script read said) meets
