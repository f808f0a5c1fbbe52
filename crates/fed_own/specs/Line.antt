-- The lines of this program's own transcript, and what they are written of.
use Rattle.std.specs.Prelude.{◌≡◌, ℕ, ◌^◌, ◌<◌, false, List, [], ◌∷◌, ◌++◌, codes, flat_map, length, map, Option, Some, None}
use Rattle.std.specs.List.{AllByRecursion}
use Rattle.std.specs.Str.{IsUtf8}
use Rattle.serde_json.specs.Data.{Members, object, string}
use Rattle.serde_json.specs.Written.{compact_text}
use Rattle.url.specs.Parts.{serialize}
use Rattle.fed_consent.specs.declared.table.dialog.Dialog.{Dialog}
use Rattle.fed_consent.specs.declared.table.dialog.Dialog.TheVariants.{Choose, Prompt, Mismatch}
use Rattle.fed_consent.specs.declared.table.dialog.Shown.{Shown}
use Rattle.fed_consent.specs.declared.table.finish.Finish.{Finish}
use Rattle.fed_consent.specs.declared.table.finish.Finish.TheVariants.{Token, Disconnected, Failed, ProviderError}
use Rattle.fed_print.specs.Objects.{count, present}
use Rattle.fed_print.specs.Records.{record_members}
use Rattle.fed_script.specs.Script.{Script, is_blank}
use Rattle.fed_trace.specs.declared.out.Out.{Out}
use Rattle.fed_trace.specs.declared.out.Out.TheVariants as outs
use Rattle.fed_trace.specs.OfScript.{trace_of}
use Rattle.fed_trace.specs.Records.{records_in}
use Rattle.fed_audit.specs.Record.{record_of}
use Rattle.fed_own.specs.Own.{said_of}

-- the line of a record, without its LF
abbrev pub own_line : Out → List ℕ
own_line out = compact_text (object (record_members out))

-- the line of the end, with the number of events
abbrev pub end_members : ℕ → Members
end_members events = present ((codes "events", Some (count events)) ∷ (codes "out", Some (string (codes "end"))) ∷ [])

abbrev pub end_line : ℕ → List ℕ
end_line events = compact_text (object (end_members events))

-- those of a script
abbrev pub own_lines : Script → List (List ℕ)
own_lines script = map own_line (records_in (trace_of script).rows) ++ end_line (length (trace_of script).rows) ∷ []

-- ---- what a record has of others

-- a text, where there is one
abbrev pub given : Option (List ℕ) → List (List ℕ)
given None = []
given (Some text) = text ∷ []

abbrev pub shown_texts : Shown → List (List ℕ)
shown_texts shown = shown.id ∷ shown.name ∷ shown.email ∷ (given shown.given_name ++ given shown.picture)

abbrev pub dialog_texts : Dialog → List (List ℕ)
dialog_texts (Choose accounts context site) = site ∷ flat_map shown_texts accounts
dialog_texts (Prompt account context site privacy terms) = site ∷ (given privacy ++ (given terms ++ shown_texts account))
dialog_texts (Mismatch provider site failure) = site ∷ []

abbrev pub finish_texts : Finish → List (List ℕ)
finish_texts (Token auto provider token) = token ∷ []
finish_texts Disconnected = []
finish_texts (Failed failure) = []
finish_texts (ProviderError code url) = code ∷ given url

-- its texts, but for the words of the profile
abbrev pub texts_of : Out → List (List ℕ)
texts_of (outs.Request line call provider kind bytes) = []
texts_of (outs.Dropped line call provider failure) = []
texts_of (outs.Dialog line call dialog) = dialog_texts dialog
texts_of (outs.Window line call provider url) = serialize url ∷ []
texts_of (outs.Answer line call page finish) = finish_texts finish
texts_of (outs.Ignored line why) = []

abbrev pub dialog_numbers : Dialog → List ℕ
dialog_numbers (Choose accounts context site) = map (λ (shown : Shown). shown.provider) accounts
dialog_numbers (Prompt account context site privacy terms) = account.provider ∷ []
dialog_numbers (Mismatch provider site failure) = provider ∷ []

abbrev pub finish_numbers : Finish → List ℕ
finish_numbers (Token auto provider token) = provider ∷ []
finish_numbers _ = []

-- its numbers
abbrev pub numbers_of : Out → List ℕ
numbers_of (outs.Request line call provider kind bytes) = line ∷ call ∷ provider ∷ []
numbers_of (outs.Dropped line call provider failure) = line ∷ call ∷ provider ∷ []
numbers_of (outs.Dialog line call dialog) = line ∷ call ∷ dialog_numbers dialog
numbers_of (outs.Window line call provider url) = line ∷ call ∷ provider ∷ []
numbers_of (outs.Answer line call page finish) = line ∷ call ∷ page ∷ finish_numbers finish
numbers_of (outs.Ignored line why) = line ∷ []

-- the bytes of a request
abbrev pub bytes_of : Out → List ℕ
bytes_of (outs.Request line call provider kind bytes) = bytes
bytes_of _ = []

-- a record's numbers have 32 bits, its texts are UTF-8, and the bytes of its request have 8 bits
pub record IsSaid (out : Out) : Type 0 where
  pub numbers : AllByRecursion (λ n. n < 2 ^ 32) (numbers_of out)
  pub texts : AllByRecursion IsUtf8 (texts_of out)
  pub bytes : AllByRecursion (λ b. b < 2 ^ 8) (bytes_of out)

-- the line that is written of a record is read as what it says
pub record IsReadBack (out : Out) : Type 0 where
  pub stands : is_blank (own_line out) ≡ false
  pub reads : record_of (own_line out) ≡ Some (said_of out)
