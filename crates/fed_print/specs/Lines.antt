-- Transcript lines.
use Rattle.std.specs.Prelude.{ℕ, List, [], ◌∷◌, ◌++◌, flat_map}
use Rattle.serde_json.specs.Data.{Members, object}
use Rattle.serde_json.specs.Written.{compact_text}
use Rattle.fed_trace.specs.declared.out.Out.{Out}
use Rattle.fed_print.specs.Records.{record_members}

-- the line of an object with these members: its compact JSON text and LF
unfoldable pub line_of : Members → List ℕ
line_of members = compact_text (object members) ++ 10 ∷ []

-- the line of a record
abbrev pub record_line : Out → List ℕ
record_line out = line_of (record_members out)

-- the text of records: their lines, in their order
abbrev pub text_of : List Out → List ℕ
text_of outs = flat_map record_line outs
