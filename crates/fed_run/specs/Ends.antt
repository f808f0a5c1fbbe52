-- How each form ends for the bytes of its source where nothing fails, and what it writes.
use Rattle.std.specs.Prelude.{◌≡◌, ℕ, ◌≤◌, nat_lt, Bool, true, false, not, List, [], count_by, length, Option, Some, None, IfSome, Result}
use Rattle.std.specs.Prelude.{Ok, Err}
use Rattle.std.specs.Prelude.{◌↔◌, ⊤}
use Rattle.std.specs.Io.KnownBytes.{Appends, Keeps}
use Rattle.fed_io.specs.Io.{AppendsLess}
use Rattle.fed_script.specs.declared.cause.PairStop.{PairStop}
use Rattle.fed_script.specs.declared.pair.Pair.{Pair}
use Rattle.fed_script.specs.Pair.{pair_of, bad_within}
use Rattle.fed_script.specs.Script.{Script, is_blank}
use Rattle.fed_audit.specs.Audit.{AuditFaultOf}
use Rattle.fed_audit.specs.Compare.{IsComparison}
use Rattle.fed_audit.specs.declared.difference.Comparison.{Comparison}
use Rattle.fed_audit.specs.declared.difference.Comparison.TheVariants as comes
use Rattle.fed_audit.specs.declared.fault.AuditFault.{AuditFault}
use Rattle.fed_print.specs.Lines.{line_of}
use Rattle.fed_profile.specs.Continues.{Continues}
use Rattle.fed_profile.specs.Save.{IfLines, Saves}
use Rattle.fed_profile.specs.declared.state.Saved.{Saved}
use Rattle.fed_profile.specs.declared.state.Saved.TheVariants as saves
use Rattle.fed_session.specs.Session.{Shows}
use Rattle.fed_session.specs.declared.view.View.{View}
use Rattle.fed_slice.specs.Closure.{IsClosure}
use Rattle.fed_slice.specs.Lines.{slice_text}
use Rattle.fed_trace.specs.OfScript.{trace_of}
use Rattle.fed_trace.specs.Trace.{Trace}
use Rattle.fed_twin.specs.declared.fault.TwinFault.{TwinFault}
use Rattle.fed_twin.specs.Compare.{IsQuietLength}
use Rattle.fed_twin.specs.Fault.{TwinFaultOf}
use Rattle.fed_twin.specs.Script.{sign_in}
use Rattle.fed_twin.specs.Twin.{Twin}
use Rattle.fed_run.specs.declared.form.Form.{Form}
use Rattle.fed_run.specs.declared.answer.Whole.{Whole}
use Rattle.fed_run.specs.declared.answer.Whole.TheVariants as wholes
use Rattle.fed_run.specs.declared.form.Form.TheVariants.{Run, Check, Twin as TwinForm, Audit, Compare, Make, Save, Slice}
use Rattle.fed_run.specs.declared.status.Status.{Status}
use Rattle.fed_run.specs.declared.status.Status.TheVariants.{Done, BadScript, TooLong, NotTwins, Faulty, NotSaved, Differs}
use Rattle.fed_run.specs.Alone.{alone_of, alone_bad_within}
use Rattle.fed_run.specs.Checks.{check_status, check_written, ChecksOnly, ChecksAfter, ChecksShort}
use Rattle.fed_run.specs.Make.{summary_text}
use Rattle.fed_run.specs.Recorded.{Recorded, recorded_of, recorded_bad_within}
use Rattle.fed_run.specs.Run.{run_status, run_written}
use Rattle.fed_run.specs.Streams.{ReadsOnly, StopsAfter, FallsShort}
use Rattle.fed_run.specs.Text.{pair_members, twins_members, not_twins_members}
use Rattle.fed_run.specs.Text.{audited_members, faulty_members, alike_members, differs_members, pending_members, lost_members}

-- ---- run

abbrev pub EndsRun : ℕ → List ℕ → Status → List ℕ → Type 0
EndsRun limit bytes status text = (status ≡ run_status limit bytes) × (text ≡ run_written limit bytes)

-- ---- check

abbrev pub EndsCheck : ℕ → List ℕ → Status → List ℕ → Type 0
EndsCheck limit bytes status text = (status ≡ check_status limit bytes) × (text ≡ check_written limit bytes)

-- ---- twin

-- two scripts are twins: how far they are quiet, and how many sign-in requests the first sends up to there
pub record TellsTwins (a b : Script) (status : Status) (text : List ℕ) : Type 0 where
  pub quiet : ℕ
  pub is_quiet : IsQuietLength a b quiet
  pub ends : status ≡ Done
  pub writes : text ≡ line_of (twins_members (length (sign_in a quiet)) quiet)

-- what is told of two scripts for what the twin test found of them
abbrev pub TellsFound : Script → Script → Option TwinFault → Status → List ℕ → Type 0
TellsFound a b None status text = TellsTwins a b status text
TellsFound a b (Some fault) status text = (status ≡ NotTwins) × (text ≡ line_of (not_twins_members fault))

-- the answer for two scripts
pub record TellsScripts (a b : Script) (status : Status) (text : List ℕ) : Type 0 where
  pub found : Option TwinFault
  pub is_found : TwinFaultOf a b found
  pub twins : (found ≡ None) ↔ Twin a b
  pub tells : TellsFound a b found status text

-- a line is bad or missing
abbrev pub TellsStop : PairStop → Status → List ℕ → Type 0
TellsStop stop status text = (status ≡ BadScript) × (text ≡ line_of (pair_members stop))

-- all bytes were read
abbrev pub TellsPair : Result Pair PairStop → Status → List ℕ → Type 0
TellsPair (Ok pair) status text = TellsScripts pair.first pair.second status text
TellsPair (Err stop) status text = TellsStop stop status text

-- ---- audit

-- the answer for what an audit found of a transcript
abbrev pub TellsVerdict : Recorded → Option AuditFault → Status → List ℕ → Type 0
TellsVerdict recorded None status text =
    (status ≡ Done) × (text ≡ line_of (audited_members (count_by (λ line. not (is_blank line)) recorded.lines)))
TellsVerdict recorded (Some fault) status text = (status ≡ Faulty) × (text ≡ line_of (faulty_members fault))

pub record TellsAudited (recorded : Recorded) (status : Status) (text : List ℕ) : Type 0 where
  pub found : Option AuditFault
  pub is_found : AuditFaultOf recorded.script recorded.first recorded.lines found
  pub tells : TellsVerdict recorded found status text

abbrev pub TellsAudit : Result Recorded PairStop → Status → List ℕ → Type 0
TellsAudit (Ok recorded) status text = TellsAudited recorded status text
TellsAudit (Err stop) status text = TellsStop stop status text

-- ---- compare

-- the answer for what a comparison of a transcript comes to
abbrev pub TellsFinding : Comparison → Status → List ℕ → Type 0
TellsFinding (comes.Alike requests) status text = (status ≡ Done) × (text ≡ line_of (alike_members requests))
TellsFinding (comes.Differs difference) status text = (status ≡ Differs) × (text ≡ line_of (differs_members difference))

pub record TellsCompared (recorded : Recorded) (status : Status) (text : List ℕ) : Type 0 where
  pub comparison : Comparison
  pub is_comparison : IsComparison recorded.script recorded.first recorded.lines comparison
  pub tells : TellsFinding comparison status text

abbrev pub TellsComparison : Result Recorded PairStop → Status → List ℕ → Type 0
TellsComparison (Ok recorded) status text = TellsCompared recorded status text
TellsComparison (Err stop) status text = TellsStop stop status text

-- ---- slice

-- the answer for a script: the lines of its slice by all that the party is linked with
pub record TellsPart (party bytes : List ℕ) (script : Script) (status : Status) (text : List ℕ) : Type 0 where
  pub parties : List (List ℕ)
  pub is_closure : IsClosure script party parties
  pub ends : status ≡ Done
  pub writes : text ≡ slice_text script parties bytes

abbrev pub TellsSlice : List ℕ → List ℕ → Result Script PairStop → Status → List ℕ → Type 0
TellsSlice party bytes (Ok script) status text = TellsPart party bytes script status text
TellsSlice party bytes (Err stop) status text = TellsStop stop status text

-- ---- save

-- the answer for what a session is saved as, or for why it is not
abbrev pub TellsSaved : Saved → Status → List ℕ → Type 0
TellsSaved (saves.Lines lines) status text = (status ≡ Done) × (text ≡ lines)
TellsSaved (saves.Pending call) status text = (status ≡ NotSaved) × (text ≡ line_of (pending_members call))
TellsSaved (saves.Item place) status text = (status ≡ NotSaved) × (text ≡ line_of (lost_members place))

-- the answer for what happened: what then stands is saved, and goes on behind the lines as behind what happened
pub record TellsState (T : Trace) (status : Status) (text : List ℕ) : Type 0 where
  pub view : View
  pub is_view : Shows view T
  pub saved : Saved
  pub is_saved : Saves view T.header.rules saved
  pub goes_on : IfLines (Continues T) saved
  pub tells : TellsSaved saved status text

abbrev pub TellsSave : Result Script PairStop → Status → List ℕ → Type 0
TellsSave (Ok script) status text = TellsState (trace_of script) status text
TellsSave (Err stop) status text = TellsStop stop status text

-- ---- the forms that read their source whole

-- the form of the command line
abbrev pub whole_form : Whole → Form
whole_form wholes.Twin = TwinForm
whole_form wholes.Audit = Audit
whole_form wholes.Compare = Compare
whole_form wholes.Save = Save
whole_form (wholes.Slice party) = Slice party

-- what is told of all bytes
abbrev pub TellsAll : Whole → List ℕ → Status → List ℕ → Type 0
TellsAll wholes.Twin bytes status text = TellsPair (pair_of bytes) status text
TellsAll wholes.Audit bytes status text = TellsAudit (recorded_of bytes) status text
TellsAll wholes.Compare bytes status text = TellsComparison (recorded_of bytes) status text
TellsAll wholes.Save bytes status text = TellsSave (alone_of bytes) status text
TellsAll (wholes.Slice party) bytes status text = TellsSlice party bytes (alone_of bytes) status text

-- the first bad line that ends within the limit
abbrev pub bad_line_within : Whole → ℕ → List ℕ → Option PairStop
bad_line_within wholes.Twin limit bytes = bad_within limit bytes
bad_line_within wholes.Audit limit bytes = recorded_bad_within limit bytes
bad_line_within wholes.Compare limit bytes = recorded_bad_within limit bytes
bad_line_within wholes.Save limit bytes = alone_bad_within limit bytes
bad_line_within (wholes.Slice party) limit bytes = alone_bad_within limit bytes

-- the bytes are more than the limit: a bad line that ends within it is named
abbrev pub TellsCut : Option PairStop → Status → List ℕ → Type 0
TellsCut None status text = (status ≡ TooLong) × (text ≡ [])
TellsCut (Some stop) status text = TellsStop stop status text

abbrev pub EndsWholeBy : Bool → Whole → ℕ → List ℕ → Status → List ℕ → Type 0
EndsWholeBy true form limit bytes status text = TellsCut (bad_line_within form limit bytes) status text
EndsWholeBy false form limit bytes status text = TellsAll form bytes status text

abbrev pub EndsWhole : Whole → ℕ → List ℕ → Status → List ℕ → Type 0
EndsWhole form limit bytes status text = EndsWholeBy (nat_lt limit (length bytes)) form limit bytes status text

-- ---- make

-- the summary is written, whatever the source has
abbrev pub EndsMake : ℕ → Status → List ℕ → Type 0
EndsMake calls status text = (status ≡ Done) × (text ≡ summary_text calls)

-- ---- all forms

-- for these bytes of its source the form ends with the status, and writes the text
abbrev pub Ends : ℕ → Form → List ℕ → Status → List ℕ → Type 0
Ends limit Run bytes status text = EndsRun limit bytes status text
Ends limit Check bytes status text = EndsCheck limit bytes status text
Ends limit TwinForm bytes status text = EndsWhole wholes.Twin limit bytes status text
Ends limit Audit bytes status text = EndsWhole wholes.Audit limit bytes status text
Ends limit Compare bytes status text = EndsWhole wholes.Compare limit bytes status text
Ends limit Save bytes status text = EndsWhole wholes.Save limit bytes status text
Ends limit (Slice party) bytes status text = EndsWhole (wholes.Slice party) limit bytes status text
Ends limit (Make calls) bytes status text = EndsMake calls status text

-- the form reads its source
abbrev pub Reads : Option Form → Type 0
Reads (Some (Make calls)) = ⊥
Reads form = ⊤

-- the form reads its source whole before it writes
abbrev pub ReadsWhole : Option Form → Type 0
ReadsWhole (Some TwinForm) = ⊤
ReadsWhole (Some Audit) = ⊤
ReadsWhole (Some Compare) = ⊤
ReadsWhole (Some Save) = ⊤
ReadsWhole (Some (Slice party)) = ⊤
ReadsWhole form = ⊥

-- what is so of a number of calls, where the form makes so many
abbrev pub IfMakes : Option Form → (ℕ → Type 0) → Type 0
IfMakes (Some (Make calls)) P = P calls
IfMakes form P = ⊤

-- the statuses by which a form ends where nothing fails
abbrev pub HasEnded : Status → Type 0
HasEnded Done = ⊤
HasEnded BadScript = ⊤
HasEnded TooLong = ⊤
HasEnded NotTwins = ⊤
HasEnded Faulty = ⊤
HasEnded NotSaved = ⊤
HasEnded Differs = ⊤
HasEnded _ = ⊥

-- of bytes within the limit nothing was left
abbrev pub IsWhole : ℕ → List ℕ → List ℕ → Type 0
IsWhole limit bytes more = length bytes ≤ limit → more ≡ []

-- the words are a form, which ends so for these bytes with some text
pub record EndsAs (limit : ℕ) (form : Option Form) (bytes : List ℕ) (status : Status) : Type 0 where
  pub is : Form
  pub named : form ≡ Some is
  pub text : List ℕ
  pub ends : Ends limit is bytes status text

-- and the sink took the whole text
pub record Writes (limit : ℕ) (form : Option Form) (bytes : List ℕ) (status : Status) (old new : Option (List ℕ)) : Type 0 where
  pub ends : EndsAs limit form bytes status
  pub took : Appends old new ends.text

-- the sink took a front of a text that would have been written, and not the whole
pub record WritesLess (limit : ℕ) (form : Option Form) (bytes : List ℕ) (old new : Option (List ℕ)) : Type 0 where
  pub status : Status
  pub ends : EndsAs limit form bytes status
  pub some : ¬ (status ≡ TooLong)
  pub took : AppendsLess old new ends.text

-- ---- where it stops before its end

-- A front of a text was taken, and not the whole: with `run` and `check` up to the last bytes that were read, else of the one text.
abbrev pub WriteFaultLeaves : ℕ → Option Form → Option (List ℕ) → Option (List ℕ) → Option (List ℕ) → Option (List ℕ) → Type 0
WriteFaultLeaves limit (Some Run) left left' start taken = StopsAfter left left' start taken × FallsShort limit left start taken
WriteFaultLeaves limit (Some Check) left left' start taken = ChecksAfter left left' start taken × ChecksShort limit left start taken
WriteFaultLeaves limit (Some (Make calls)) left left' start taken = AppendsLess start taken (summary_text calls)
WriteFaultLeaves limit form left left' start taken = IfSome left (λ bytes. WritesLess limit form bytes start taken)

-- With `run` and `check` all that the lines say is written, else nothing.
abbrev pub ReadFaultLeaves : Option Form → Option (List ℕ) → Option (List ℕ) → Option (List ℕ) → Option (List ℕ) → Type 0
ReadFaultLeaves (Some Run) left left' start taken = ReadsOnly left left' start taken
ReadFaultLeaves (Some Check) left left' start taken = ChecksOnly left left' start taken
ReadFaultLeaves form left left' start taken = Keeps start taken

abbrev pub NoRoomLeaves : Option Form → Option (List ℕ) → Option (List ℕ) → Option (List ℕ) → Option (List ℕ) → Type 0
NoRoomLeaves (Some Run) left left' start taken = StopsAfter left left' start taken
NoRoomLeaves (Some Check) left left' start taken = ChecksAfter left left' start taken
NoRoomLeaves form left left' start taken = Keeps start taken
