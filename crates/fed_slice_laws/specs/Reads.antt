-- The lines of a slice are a script, whose transcript is that of the whole as far as the slice goes.
use Rattle.std.specs.Prelude.{◌≡◌, ℕ, Bool, List, filter, map, Ok}
use Rattle.fed_script.specs.Script.{Script, script_of}
use Rattle.fed_trace.specs.declared.out.Out.{Out}
use Rattle.fed_trace.specs.declared.out.Out.TheVariants as outs
use Rattle.fed_trace.specs.OfScript.{trace_of}
use Rattle.fed_trace.specs.Records.{records_in}
use Rattle.fed_slice.specs.Closure.{IsClosed}
use Rattle.fed_slice_laws.specs.Laws.{IsSlice, DoesAsWhole}
use Rattle.fed_slice.specs.Lines.{has_line, slice_text}
use Rattle.fed_slice.specs.Slice.{slice_of}

-- they are a script, which is that slice
pub record ReadsAsSlice (s : Script) (parties : List (List ℕ)) (bytes : List ℕ) : Type 0 where
  pub script : Script
  pub reads : script_of (slice_text s parties bytes) ≡ Ok script
  pub slice : IsSlice s parties script

abbrev pub SliceReads : Type 0
SliceReads =
    (bytes : List ℕ) (s : Script) (parties : List (List ℕ)) → script_of bytes ≡ Ok s → ReadsAsSlice s parties bytes

-- ---- transcripts

-- the line of whose event a record is
abbrev pub line_of : Out → ℕ
line_of (outs.Request line call provider kind bytes) = line
line_of (outs.Dropped line call provider failure) = line
line_of (outs.Dialog line call dialog) = line
line_of (outs.Window line call provider url) = line
line_of (outs.Answer line call page finish) = line
line_of (outs.Ignored line why) = line

-- the same record at line 0, since the lines of a slice have other numbers
abbrev pub but_line : Out → Out
but_line (outs.Request line call provider kind bytes) = outs.Request 0 call provider kind bytes
but_line (outs.Dropped line call provider failure) = outs.Dropped 0 call provider failure
but_line (outs.Dialog line call dialog) = outs.Dialog 0 call dialog
but_line (outs.Window line call provider url) = outs.Window 0 call provider url
but_line (outs.Answer line call page finish) = outs.Answer 0 call page finish
but_line (outs.Ignored line why) = outs.Ignored 0 why

-- the record is of an event of the slice
abbrev pub is_of_slice : Script → List (List ℕ) → Out → Bool
is_of_slice s parties out = has_line (slice_of s parties) (line_of out)

-- the text of the slice is a script, which is that slice and does what it does in the whole; and its transcript is that of the whole,
-- of which the records of other events are left out, line numbers aside
pub record IsFilter (s : Script) (parties : List (List ℕ)) (bytes : List ℕ) : Type 0 where
  pub script : Script
  pub reads : script_of (slice_text s parties bytes) ≡ Ok script
  pub slice : IsSlice s parties script
  pub effects : DoesAsWhole s parties script
  pub records : map but_line (records_in (trace_of script).rows)
      ≡ map but_line (filter (is_of_slice s parties) (records_in (trace_of s).rows))

-- so it is of the bytes of every script, and of closed parties
abbrev pub TextIsFilter : Type 0
TextIsFilter =
    (bytes : List ℕ) (s : Script) (parties : List (List ℕ)) → script_of bytes ≡ Ok s → IsClosed s parties → IsFilter s parties bytes
