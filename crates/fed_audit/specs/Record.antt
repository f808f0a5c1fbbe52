-- What a line of a transcript says, as far as it is audited.
use Rattle.std.specs.Prelude.{⊤, ℕ, ◌≤◌, Bool, false, ◌||◌, nat_eq, List, [], ◌∷◌, codes, bytes_eq, Option, Some, None, option_and_then}
use Rattle.std.specs.Prelude.{if◌then◌else◌}
use Rattle.base64.specs.Engines.{standard}
use Rattle.base64.specs.GeneralPurpose.{decode_of}
use Rattle.std.specs.Result.{result_ok}
use Rattle.serde_json.specs.Data.{Data}
use Rattle.serde_json.specs.Find.{get, as_str, as_bool}
use Rattle.fed_json.specs.Value.{value_of}
use Rattle.fed_origin.specs.declared.stage.ReplyKind.TheVariants as kinds
use Rattle.fed_origin.specs.Words.{kind_of_word}
use Rattle.fed_script.specs.Member.{as_u32, as_word}
use Rattle.fed_audit.specs.declared.record.Record.{Record}
use Rattle.fed_audit.specs.declared.record.Record.TheVariants.{Request, Token, Answer, Other, End}

-- the next step, where this one gave something
infixl 10 ◌>>=◌
abbrev pub ◌>>=◌ : {A B : Type 0} → Option A → (A → Option B) → Option B
m >>= f = option_and_then f m

-- ---- members

abbrev pub text_at : List ℕ → Data → Option (List ℕ)
text_at name d = option_and_then as_str (get name d)

-- a whole number of 32 bits
abbrev pub number_at : List ℕ → Data → Option ℕ
number_at name d = option_and_then as_u32 (get name d)

-- a truth value
abbrev pub truth_at : List ℕ → Data → Option Bool
truth_at name d = option_and_then as_bool (get name d)

-- the bytes of a text in base64, in the standard alphabet and with padding, if it is one
unfoldable pub base64_bytes : List ℕ → Option (List ℕ)
base64_bytes text = result_ok (decode_of standard text)

abbrev pub as_base64 : Data → Option (List ℕ)
as_base64 d = option_and_then base64_bytes (as_str d)

-- the one that there is, of two of which one has to be none
abbrev pub only_of : {A : Type 0} → Option A → Option A → Option A
only_of (Some bytes) None = Some bytes
only_of None (Some bytes) = Some bytes
only_of None None = None
only_of (Some one) (Some other) = None

-- the bytes of a request, of which exactly one of `text` and `raw` gives some
abbrev pub sent_bytes : Data → Option (List ℕ)
sent_bytes d = only_of (text_at (codes "text") d) (option_and_then as_base64 (get (codes "raw") d))

-- ---- records

abbrev pub request_of : Data → Option Record
request_of d = do
  line ← number_at (codes "line") d
  call ← number_at (codes "call") d
  provider ← number_at (codes "provider") d
  kind ← option_and_then (as_word kind_of_word) (get (codes "kind") d)
  bytes ← sent_bytes d
  Some (Request line call provider kind bytes)

abbrev pub token_of : Data → Option Record
token_of d = do
  line ← number_at (codes "line") d
  call ← number_at (codes "call") d
  provider ← number_at (codes "provider") d
  token ← text_at (codes "token") d
  Some (Token line call provider token (number_at (codes "page") d) (truth_at (codes "auto") d))

-- what a page gets, and is no token
abbrev pub answer_of : Data → Option Record
answer_of d = do
  line ← number_at (codes "line") d
  call ← number_at (codes "call") d
  Some (Answer line call)

-- what a page gets, by what it sees
abbrev pub result_of : List ℕ → Data → Option Record
result_of see d = if bytes_eq see (codes "token") then token_of d else answer_of d

abbrev pub other_of : Data → Option Record
other_of d = do
  line ← number_at (codes "line") d
  Some (Other line)

-- a dialog, a window, or that an event was not taken or a provider dropped
abbrev pub is_other : List ℕ → Bool
is_other out =
    bytes_eq out (codes "dialog") || bytes_eq out (codes "window") || bytes_eq out (codes "ignored") || bytes_eq out (codes "dropped")

-- the record of a value, by its member `out`
abbrev pub named : List ℕ → Data → Option Record
named out d =
    if bytes_eq out (codes "request") then request_of d
    else (if bytes_eq out (codes "result") then option_and_then (λ see. result_of see d) (text_at (codes "see") d)
    else (if bytes_eq out (codes "end") then Some End
    else (if is_other out then other_of d else None)))

-- the record of a line; none where it is no JSON object, or lacks what a record of its kind has
abbrev pub record_of : List ℕ → Option Record
record_of line = do
  d ← value_of line
  out ← text_at (codes "out") d
  named out d

-- the line of the event that a record comes from; the end comes from none
abbrev pub line_of : Record → Option ℕ
line_of (Request line call provider kind bytes) = Some line
line_of (Token line call provider token page auto) = Some line
line_of (Answer line call) = Some line
line_of (Other line) = Some line
line_of End = None

-- ---- what earlier records say

-- a line, where there is one, is at most this
abbrev pub IsAtMost : ℕ → Option ℕ → Type 0
IsAtMost line None = ⊤
IsAtMost line (Some l) = l ≤ line

-- no record is from a line above this
abbrev pub AreUpToLine : ℕ → List Record → Type 0
AreUpToLine line [] = ⊤
AreUpToLine line (r ∷ records) = IsAtMost line (line_of r) × AreUpToLine line records

-- the place of the provider that is asked for a token of the call
abbrev pub place_asked : ℕ → Record → Option ℕ
place_asked call (Request line c provider kinds.Assertion bytes) = if nat_eq call c then Some provider else None
place_asked call _ = None

-- it is what the page gets of the call
abbrev pub is_result_of : ℕ → Record → Bool
is_result_of call (Token line c provider token page auto) = nat_eq call c
is_result_of call (Answer line c) = nat_eq call c
is_result_of call _ = false
