-- The lines that no record of a step is.
use Rattle.std.specs.Prelude.{ℕ, List, [], ◌∷◌, codes, Option, Some, None, option_map}
use Rattle.serde_json.specs.Data.{string, Members}
use Rattle.base64.specs.Engines.{standard}
use Rattle.base64.specs.GeneralPurpose.{encode_of}
use Rattle.fed_audit.specs.declared.aspect.About.{About}
use Rattle.fed_audit.specs.declared.difference.Difference.{Difference}
use Rattle.fed_audit.specs.declared.fault.AuditFault.{AuditFault}
use Rattle.fed_audit.specs.Words as audit
use Rattle.fed_print.specs.Objects.{Named, count, present}
use Rattle.fed_print.specs.Records.{ascii_text}
use Rattle.fed_script.specs.declared.cause.LineCause.{LineCause}
use Rattle.fed_script.specs.declared.cause.PairStop.{PairStop}
use Rattle.fed_script.specs.Cause.{cause_text, member_named, name_text, pair_cause_text, pair_member_named}
use Rattle.fed_twin.specs.declared.fault.TwinFault.{TwinFault}
use Rattle.fed_twin.specs.Fault.{clause_text}
use Rattle.fed_run.specs.declared.summary.Tally.{Tally}

-- the object of the first bad line
abbrev pub bad_members : ℕ → LineCause → Members
bad_members line cause = present
    ((codes "cause", Some (string (cause_text cause)))
    ∷ (codes "line", Some (count line))
    ∷ (codes "member", option_map (λ name. string (name_text name)) (member_named cause))
    ∷ (codes "out", Some (string (codes "bad")))
    ∷ [])

-- the object of the end, with the number of events
abbrev pub end_members : ℕ → Members
end_members events = present ((codes "events", Some (count events)) ∷ (codes "out", Some (string (codes "end"))) ∷ [])

-- the object of the first line that is bad or missing where two scripts are read
abbrev pub pair_members : PairStop → Members
pair_members stop = present
    ((codes "cause", Some (string (pair_cause_text stop.cause)))
    ∷ (codes "line", Some (count stop.line))
    ∷ (codes "member", option_map (λ name. string (name_text name)) (pair_member_named stop.cause))
    ∷ (codes "out", Some (string (codes "bad")))
    ∷ [])

-- the object of twins, with the number of compared requests and the quiet length
abbrev pub twins_members : ℕ → ℕ → Members
twins_members compared quiet = present
    ((codes "compared", Some (count compared))
    ∷ (codes "out", Some (string (codes "twins")))
    ∷ (codes "quiet", Some (count quiet))
    ∷ [])

-- the object of the first clause of the twin test that fails, and its event
abbrev pub not_twins_members : TwinFault → Members
not_twins_members fault = present
    ((codes "clause", Some (string (clause_text fault.clause)))
    ∷ (codes "event", Some (count fault.event))
    ∷ (codes "out", Some (string (codes "not-twins")))
    ∷ [])

-- the object of a transcript that keeps the rules, with the number of its records
abbrev pub audited_members : ℕ → Members
audited_members records = present
    ((codes "out", Some (string (codes "audited"))) ∷ (codes "records", Some (count records)) ∷ [])

-- the object of the first line that breaks one
abbrev pub faulty_members : AuditFault → Members
faulty_members fault = present
    ((codes "clause", Some (string (audit.clause_text fault.clause)))
    ∷ (codes "line", Some (count fault.line))
    ∷ (codes "out", Some (string (codes "faulty")))
    ∷ [])

-- the object of a transcript that is this program's own, with the number of its requests
abbrev pub alike_members : ℕ → Members
alike_members requests = present
    ((codes "out", Some (string (codes "alike"))) ∷ (codes "requests", Some (count requests)) ∷ [])

-- the member of a value that is due: `due` where its bytes are below 128, else `due_raw` with their base64
abbrev pub due_by : Option (List ℕ) → List ℕ → Named
due_by (Some text) bytes = (codes "due", Some (string text))
due_by None bytes = (codes "due_raw", Some (string (encode_of standard bytes)))

abbrev pub due_member : Option (List ℕ) → Named
due_member None = (codes "due", None)
due_member (Some bytes) = due_by (ascii_text bytes) bytes

-- the object of where a transcript first leaves this program's own
abbrev pub differs_members : Difference → Members
differs_members d = present
    ((codes "call", option_map (λ (about : About). count about.call) d.about)
    ∷ due_member d.due
    ∷ (codes "kind", option_map (λ (about : About). string (audit.subject_text about.subject)) d.about)
    ∷ (codes "line", Some (count d.line))
    ∷ (codes "out", Some (string (codes "differs")))
    ∷ (codes "provider", option_map (λ (about : About). count about.provider) d.about)
    ∷ (codes "what", Some (string (audit.aspect_text d.aspect)))
    ∷ [])

-- the object of a session that is not saved since this call is pending
abbrev pub pending_members : ℕ → Members
pending_members call = present
    ((codes "call", Some (count call))
    ∷ (codes "out", Some (string (codes "not-saved")))
    ∷ (codes "why", Some (string (codes "pending")))
    ∷ [])

-- the object of a session that is not saved since the line at this place after the header does not restore its item
abbrev pub lost_members : ℕ → Members
lost_members place = present
    ((codes "item", Some (count place))
    ∷ (codes "out", Some (string (codes "not-saved")))
    ∷ (codes "why", Some (string (codes "item")))
    ∷ [])

-- the object of the summary of so many calls and events
abbrev pub summary_members : ℕ → ℕ → Tally → Members
summary_members calls events tally = present
    ((codes "calls", Some (count calls))
    ∷ (codes "dialogs", Some (count tally.dialogs))
    ∷ (codes "events", Some (count events))
    ∷ (codes "ignored", Some (count tally.ignored))
    ∷ (codes "mix", Some (count tally.mix))
    ∷ (codes "out", Some (string (codes "summary")))
    ∷ (codes "requests", Some (count tally.requests))
    ∷ (codes "tokens", Some (count tally.tokens))
    ∷ [])
