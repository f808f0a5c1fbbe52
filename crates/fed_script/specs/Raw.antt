-- Bytes that a line gives, by its members `text` and `raw`.
use Rattle.std.specs.Prelude.{ℕ, List, Option, Some, None, option_and_then, Result, Ok, Err}
use Rattle.std.specs.Result.{result_ok}
use Rattle.base64.specs.Engines.{standard}
use Rattle.base64.specs.GeneralPurpose.{decode_of}
use Rattle.serde_json.specs.Data.{Data}
use Rattle.serde_json.specs.Find.{as_str}
use Rattle.fed_script.specs.declared.cause.LineCause.{LineCause}
use Rattle.fed_script.specs.declared.cause.LineCause.TheVariants.{Member}
use Rattle.fed_script.specs.declared.cause.MemberName.TheVariants as names
use Rattle.fed_script.specs.Member.{◌>>=◌, or_cause, some_of, member_of}

-- the bytes of a text in base64, in the standard alphabet and with padding, if it is one
unfoldable pub base64_bytes : List ℕ → Option (List ℕ)
base64_bytes text = result_ok (decode_of standard text)

-- the bytes of a value that is a text in base64
abbrev pub as_base64 : Data → Option (List ℕ)
as_base64 d = option_and_then base64_bytes (as_str d)

-- the bytes of `text` or of `raw`; both are one too many
abbrev pub bytes_of : Option Data → Option Data → Result (Option (List ℕ)) LineCause
bytes_of None None = Ok None
bytes_of (Some text) None = some_of (or_cause (Member names.Text) (as_str text))
bytes_of None (Some raw) = some_of (or_cause (Member names.Raw) (as_base64 raw))
bytes_of (Some text) (Some raw) = Err (Member names.Text)

-- the bytes that a line gives, if it gives any
abbrev pub optional_bytes : Data → Result (Option (List ℕ)) LineCause
optional_bytes d = bytes_of (member_of names.Text d) (member_of names.Raw d)

-- the bytes that a line must give
abbrev pub required_bytes : Data → Result (List ℕ) LineCause
required_bytes d = optional_bytes d >>= or_cause (Member names.Text)
