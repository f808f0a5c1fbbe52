-- An audit and a comparison of a script with the text that this program writes of it.
use Rattle.std.specs.Prelude.{◌≡◌, ℕ, ◌^◌, ◌<◌, List, length, None, Ok}
use Rattle.std.specs.List.{AllByRecursion}
use Rattle.fed_script.specs.declared.event.Numbered.{Numbered}
use Rattle.fed_script.specs.Script.{Script, lines_of, script_of}
use Rattle.fed_audit.specs.Audit.{AuditFaultOf}
use Rattle.fed_audit.specs.declared.difference.Comparison.TheVariants.{Alike}
use Rattle.fed_audit.specs.Compare.{IsComparison, requests_in}
use Rattle.fed_run.specs.Run.{run_text}
use Rattle.fed_own.specs.Text.{own_text}

-- They find nothing, wherever the transcript begins.
abbrev pub OwnPasses : Script → Type 0
OwnPasses script =
    (first : ℕ) → AuditFaultOf script first (lines_of (own_text script)) None
    × IsComparison script first (lines_of (own_text script)) (Alike (requests_in (lines_of (own_text script))))

-- the numbers of its lines have 32 bits
abbrev pub LinesAreSmall : Script → Type 0
LinesAreSmall script = AllByRecursion (λ (n : Numbered). n.line < 2 ^ 32) script.events

-- They find nothing of any readable script whose numbers of lines have 32 bits.
abbrev pub OwnTranscriptPasses : Type 0
OwnTranscriptPasses = (bytes : List ℕ) (script : Script) → script_of bytes ≡ Ok script → LinesAreSmall script → OwnPasses script

-- So they find nothing of any readable script of fewer than 2^32 bytes.
abbrev pub ShortTranscriptPasses : Type 0
ShortTranscriptPasses = (bytes : List ℕ) (script : Script) → script_of bytes ≡ Ok script → length bytes < 2 ^ 32 → OwnPasses script

-- The own text of a readable script is what a run writes of it.
abbrev pub OwnTextIsWritten : Type 0
OwnTextIsWritten = (bytes : List ℕ) (script : Script) → script_of bytes ≡ Ok script → own_text script ≡ run_text bytes
