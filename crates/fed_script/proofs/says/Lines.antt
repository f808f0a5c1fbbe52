-- What a line is read as, by what it says.
use Rattle.std.proofs.Common.{◌≡◌, ◌≢◌, ℕ, List, Result, Ok, Err, sym, ap, ◌∙◌}
use Rattle.std.specs.Prelude.{codes}
use Rattle.serde_json.specs.Data.{Data}
use Rattle.fed_script.specs.declared.cause.LineCause.{LineCause}
use Rattle.fed_script.specs.declared.saying.SaidLine.{SaidLine}
use Rattle.fed_script.specs.Get.{get_by}
use Rattle.fed_script.specs.Header.{header_named}
use Rattle.fed_script.specs.Line.{header_of, kind_of, event_of_kind, event_named}
use Rattle.fed_script.specs.Member.{◌>>=◌, json_of}
use Rattle.fed_script.specs.Entries.{all_said, entries_seen}
use Rattle.fed_script.specs.Said.{SaysLine, shown, get_said}
use Rattle.fed_script.proofs.says.Same.{header_same, kind_same, event_same}
use Rattle.fed_script.proofs.says.Alike.{shown_same, get_same}

-- a line that was read, and what it says
abbrev pub WasRead : List ℕ → SaidLine → Type 0
WasRead line said = (d : Data) × (json_of line ≡ Ok d) × SaysLine said d

pub header_read : (line : List ℕ) (said : SaidLine) → WasRead line said → header_named (shown said.members) ≡ header_of line
header_read line said read =
    header_same (shown said.members) read.0 (shown_same said.members read.0 read.2.members)
    ∙ sym (ap (λ r. r >>= header_named) read.1)

with_kind : (line : List ℕ) (d : Data) (kind : Result (List ℕ) LineCause) → json_of line ≡ Ok d → kind_of d ≡ kind
    → event_named line ≡ (kind >>= λ k. event_of_kind k d)
with_kind line d kind is named =
    ap (λ r. r >>= λ e. kind_of e >>= λ k. event_of_kind k e) is ∙ ap (λ r. r >>= λ k. event_of_kind k d) named

-- the kind that is shown is the line's
kind_read : (said : SaidLine) (d : Data) (kind : Result (List ℕ) LineCause) → SaysLine said d → kind ≡ kind_of (shown said.members)
    → kind_of d ≡ kind
kind_read said d kind says is = sym (is ∙ kind_same (shown said.members) d (shown_same said.members d says.members))

pub get_read : (line : List ℕ) (said : SaidLine) → WasRead line said → Ok (codes "get") ≡ kind_of (shown said.members)
    → get_said (shown said.members) (all_said (entries_seen said.providers)) ≡ event_named line
get_read line said read is =
    ap (λ r. r >>= get_by) (get_same said read.0 read.2)
    ∙ sym (with_kind line read.0 (Ok (codes "get")) read.1 (kind_read said read.0 (Ok (codes "get")) read.2 is))

pub event_read : (line : List ℕ) (said : SaidLine) (kind : List ℕ) → WasRead line said → Ok kind ≡ kind_of (shown said.members)
    → kind ≢ codes "get" → event_of_kind kind (shown said.members) ≡ event_named line
event_read line said kind read is other =
    event_same (shown said.members) read.0 (shown_same said.members read.0 read.2.members) kind other
    ∙ sym (with_kind line read.0 (Ok kind) read.1 (kind_read said read.0 (Ok kind) read.2 is))

pub no_kind_read : (line : List ℕ) (said : SaidLine) (cause : LineCause) → WasRead line said → Err cause ≡ kind_of (shown said.members)
    → event_named line ≡ Err cause
no_kind_read line said cause read is =
    with_kind line read.0 (Err cause) read.1 (kind_read said read.0 (Err cause) read.2 is)
