-- What the definitions promise.
use Rattle.std.specs.Prelude.{◌≡◌, ℕ, List, Ok}
use Rattle.fed_script.specs.Reader.{all_lines, script_in}
use Rattle.fed_script.specs.Script.{Script, script_of, IsRead}

-- each script that bytes are read as is readable
abbrev pub ScriptsAreReadable : Type 0
ScriptsAreReadable = (bytes : List ℕ) (script : Script) → script_of bytes ≡ Ok script → IsRead script

-- the lines of bytes are those of the script that the bytes are, or of what stands in its place
abbrev pub LinesAreTheScript : Type 0
LinesAreTheScript = (bytes : List ℕ) → script_in (all_lines bytes) ≡ script_of bytes
