-- What this program's own records say, read as a transcript.
use Rattle.std.specs.Prelude.{◌≡◌, ℕ, false, List, [], ◌∷◌, ◌++◌, map, Some, ⊤}
use Rattle.fed_consent.specs.declared.table.finish.Finish.{Finish}
use Rattle.fed_consent.specs.declared.table.finish.Finish.TheVariants as finishes
use Rattle.fed_script.specs.Script.{Script, is_blank}
use Rattle.fed_trace.specs.declared.out.Out.{Out}
use Rattle.fed_trace.specs.declared.out.Out.TheVariants as outs
use Rattle.fed_trace.specs.OfScript.{trace_of}
use Rattle.fed_trace.specs.Records.{records_in}
use Rattle.fed_audit.specs.declared.record.Record.{Record}
use Rattle.fed_audit.specs.declared.record.Record.TheVariants as says
use Rattle.fed_audit.specs.Record.{record_of}

-- what is said of what a page gets
abbrev pub answer_said : ℕ → ℕ → ℕ → Finish → Record
answer_said line call page (finishes.Token auto provider token) = says.Token line call provider token (Some page) (Some auto)
answer_said line call page _ = says.Answer line call

-- what is said of an own record
abbrev pub said_of : Out → Record
said_of (outs.Request line call provider kind bytes) = says.Request line call provider kind bytes
said_of (outs.Answer line call page finish) = answer_said line call page finish
said_of (outs.Dropped line call provider failure) = says.Other line
said_of (outs.Dialog line call dialog) = says.Other line
said_of (outs.Window line call provider url) = says.Other line
said_of (outs.Ignored line why) = says.Other line

-- all that is said of a script: its records, in the order in which they are written, and the end
abbrev pub own_records : Script → List Record
own_records script = map said_of (records_in (trace_of script).rows) ++ says.End ∷ []

-- lines are read as these records, one by one
abbrev pub AreReadAs : List (List ℕ) → List Record → Type 0
AreReadAs [] [] = ⊤
AreReadAs (line ∷ lines) (r ∷ records) = (is_blank line ≡ false) × (record_of line ≡ Some r) × AreReadAs lines records
AreReadAs [] (r ∷ records) = ⊥
AreReadAs (line ∷ lines) [] = ⊥
