-- The objects of records.
use Rattle.std.specs.Prelude.{ℕ, nat_lt, List, [], ◌∷◌, codes, Option, Some, None, option_map, if◌then◌else◌}
use Rattle.std.specs.List.{list_all}
use Rattle.base64.specs.Engines.{standard}
use Rattle.base64.specs.GeneralPurpose.{encode_of}
use Rattle.serde_json.specs.Data.{string, Members}
use Rattle.url.specs.Parts.{serialize}
use Rattle.fed_consent.specs.declared.table.failure.Failure.{Failure}
use Rattle.fed_consent.specs.declared.table.why.Why.{Why}
use Rattle.fed_consent.specs.Words.{step_text, detail_text, why_text}
use Rattle.fed_origin.specs.declared.stage.ReplyKind.{ReplyKind}
use Rattle.fed_origin.specs.Words.{kind_text}
use Rattle.fed_trace.specs.declared.out.Out.{Out}
use Rattle.fed_trace.specs.declared.out.Out.TheVariants.{Request, Dropped, Dialog, Window, Answer, Ignored}
use Rattle.fed_print.specs.Answers.{answer_members}
use Rattle.fed_print.specs.Dialogs.{dialog_members}
use Rattle.fed_print.specs.Objects.{Named, count, present}

-- bytes below 128 are a text, and others none
abbrev pub ascii_text : List ℕ → Option (List ℕ)
ascii_text bytes = if list_all (λ b. nat_lt b 128) bytes then Some bytes else None

-- the member of a request's bytes: `text` where they are one, else `raw` with their base64
abbrev pub bytes_member : Option (List ℕ) → List ℕ → Named
bytes_member (Some text) bytes = (codes "text", Some (string text))
bytes_member None bytes = (codes "raw", Some (string (encode_of standard bytes)))

abbrev pub request_members : ℕ → ℕ → ℕ → ReplyKind → Named → Members
request_members line call provider kind bytes = present
    ((codes "call", Some (count call))
    ∷ (codes "kind", Some (string (kind_text kind)))
    ∷ (codes "line", Some (count line))
    ∷ (codes "out", Some (string (codes "request")))
    ∷ (codes "provider", Some (count provider))
    ∷ bytes
    ∷ [])

-- a provider that dropped out
abbrev pub dropped_members : ℕ → ℕ → ℕ → Failure → Members
dropped_members line call provider failure = present
    ((codes "call", Some (count call))
    ∷ (codes "detail", option_map (λ detail. string (detail_text detail)) failure.detail)
    ∷ (codes "line", Some (count line))
    ∷ (codes "out", Some (string (codes "dropped")))
    ∷ (codes "provider", Some (count provider))
    ∷ (codes "step", Some (string (step_text failure.step)))
    ∷ [])

abbrev pub window_members : ℕ → ℕ → ℕ → List ℕ → Members
window_members line call provider url = present
    ((codes "call", Some (count call))
    ∷ (codes "line", Some (count line))
    ∷ (codes "out", Some (string (codes "window")))
    ∷ (codes "provider", Some (count provider))
    ∷ (codes "url", Some (string url))
    ∷ [])

-- an event that was not taken
abbrev pub ignored_members : ℕ → Why → Members
ignored_members line why = present
    ((codes "line", Some (count line))
    ∷ (codes "out", Some (string (codes "ignored")))
    ∷ (codes "why", Some (string (why_text why)))
    ∷ [])

-- the members of a record, in the order of their names
abbrev pub record_members : Out → Members
record_members (Request line call provider kind bytes) = request_members line call provider kind (bytes_member (ascii_text bytes) bytes)
record_members (Dropped line call provider failure) = dropped_members line call provider failure
record_members (Dialog line call dialog) = dialog_members line call dialog
record_members (Window line call provider url) = window_members line call provider (serialize url)
record_members (Answer line call page finish) = answer_members line call page finish
record_members (Ignored line why) = ignored_members line why
